use Rattle.std.proofs.Common.{◌≡◌, ◌*◌, ◌%◌, ◌&&◌, ◌||◌, ℕ, is_some}
use Rattle.std.specs.FinSet.{contains}
use Rattle.foundation.specs.Ranges.{in_range}
use Rattle.page_table.specs.Leaves.{leaf_cell}
use Rattle.page_table.proofs.leaf.Leaf.gather.Given as goal

abbrev pub invariant-loop-i : goal.invariant-loop-i
invariant-loop-i l = (q : ℕ) → contains l.pages q ≡ (contains l.fn.pages q || (in_range (1024 * l.at) l.i q && is_some (leaf_cell l.self (q % 1024)).0))
