use Rattle.std.proofs.Common.{◌-◌, ◌≡◌, ℕ, ◌≤◌, ◌&&◌, not}
use Rattle.std.specs.FinSet.{contains}
use Rattle.foundation.specs.Ranges.{in_range}
use Rattle.userfault.proofs.modes.remove_unless_in.Given as goal

abbrev pub invariant-loop-at : goal.invariant-loop-at
invariant-loop-at l = record {
  range : (l.first ≤ l.at) × (l.at ≤ l.end);
  removed : (q : ℕ) → contains l.set q ≡ (contains l.fn.set q && not (in_range l.first (l.at - l.first) q && not (contains l.other q)));
}

abbrev pub decreases-loop-at : goal.decreases-loop-at
decreases-loop-at l = l.end - l.at
