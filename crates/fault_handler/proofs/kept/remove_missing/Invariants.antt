use Rattle.std.proofs.Common.{◌≡◌, ℕ, ◌-◌, ◌&&◌, ◌||◌, not}
use Rattle.std.specs.FinMap.{contains_key}
use Rattle.std.specs.FinSet.{contains}
use Rattle.foundation.specs.Ranges.{in_range}
use Rattle.fault_handler.proofs.kept.remove_missing.Given as goal

abbrev pub invariant-loop-page : goal.invariant-loop-page
invariant-loop-page l = (q : ℕ) → contains l.kept q ≡ (contains l.fn.kept q && (not (in_range l.first (l.page - l.first) q) || contains_key l.pages.bytes q))
