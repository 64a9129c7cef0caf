use Rattle.std.proofs.Common.{◌≡◌, ℕ, ◌-◌, ◌<◌, get_or, length}
use Rattle.thread_tests.proofs.claims.rows.descending.Given as goal

abbrev pub invariant-loop-i : goal.invariant-loop-i
invariant-loop-i l = record {
  len : length l.pages.items ≡ l.i;
  each : (k : ℕ) → k < l.i → get_or l.pages.items k 0 ≡ l.last - k;
}
