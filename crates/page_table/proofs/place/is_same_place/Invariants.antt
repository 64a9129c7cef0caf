use Rattle.std.proofs.Common.{◌≡◌, ℕ, ◌<◌}
use Rattle.page_table.specs.Leaves.{cell_in}
use Rattle.page_table.proofs.place.is_same_place.Given as goal

abbrev pub invariant-loop-i : goal.invariant-loop-i
invariant-loop-i l = (j : ℕ) → j < l.i → cell_in l.place j ≡ cell_in l.other j
