use Rattle.std.proofs.Common.{◌≡◌, ℕ, ◌<◌}
use Rattle.page_table.specs.Leaves.{leaf_cell}
use Rattle.page_table.proofs.leaf.Leaf.copy.Given as goal

abbrev pub invariant-loop-i : goal.invariant-loop-i
invariant-loop-i l = (j : ℕ) → j < l.i → leaf_cell l.copy j ≡ leaf_cell l.self j
