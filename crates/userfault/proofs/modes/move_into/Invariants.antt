use Rattle.std.proofs.Common.{◌-◌, ◌≡◌, ℕ, ◌≤◌}
use Rattle.std.specs.FinSet.{contains}
use Rattle.userfault.proofs.ModeLemmas.{moved_so_far}
use Rattle.userfault.proofs.modes.move_into.Given as goal

abbrev pub invariant-loop-at : goal.invariant-loop-at
invariant-loop-at l = record {
  range : (l.from ≤ l.at) × (l.at ≤ l.end);
  moved : (q : ℕ) → contains l.set q ≡ moved_so_far (contains l.fn.set) l.from l.to l.count (l.at - l.from) q;
}

abbrev pub decreases-loop-at : goal.decreases-loop-at
decreases-loop-at l = l.end - l.at
