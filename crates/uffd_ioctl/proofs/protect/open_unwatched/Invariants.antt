use Rattle.std.proofs.Common.{◌≡◌, ◌≤◌, ◌-◌, ◌&&◌, not, ℕ}
use Rattle.std.specs.FinSet as set
use Rattle.foundation.specs.Ranges.{in_range}
use Rattle.uffd_ioctl.proofs.protect.open_unwatched.Given as goal

abbrev pub invariant-loop-at : goal.invariant-loop-at
invariant-loop-at l = record {
  range : (l.fn.range.first ≤ l.at) × (l.at ≤ l.end);
  bytes : l.pages.bytes ≡ l.fn.pages.bytes;
  opened : (q : ℕ) → set.contains l.pages.protected q ≡ (set.contains l.fn.pages.protected q && not (in_range l.fn.range.first (l.at - l.fn.range.first) q && not (set.contains l.object.protect q)));
}

abbrev pub decreases-loop-at : goal.decreases-loop-at
decreases-loop-at l = l.end - l.at
