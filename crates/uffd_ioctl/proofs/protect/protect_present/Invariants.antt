use Rattle.std.proofs.Common.{◌≡◌, ◌-◌, ◌&&◌, ◌||◌, ℕ}
use Rattle.std.specs.FinMap as map
use Rattle.std.specs.FinSet as set
use Rattle.foundation.specs.Ranges.{in_range}
use Rattle.uffd_ioctl.proofs.protect.protect_present.Given as goal

abbrev pub invariant-loop-page : goal.invariant-loop-page
invariant-loop-page l = record {
  bytes : l.pages.bytes ≡ l.fn.pages.bytes;
  protected : (q : ℕ) → set.contains l.pages.protected q ≡ (in_range l.fn.range.first (l.page - l.fn.range.first) q && map.contains_key l.fn.pages.bytes q || set.contains l.fn.pages.protected q);
}
