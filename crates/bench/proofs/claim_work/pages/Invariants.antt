use Rattle.std.proofs.Common.{◌≡◌, ℕ, ◌<◌, get_or, length}
use Rattle.bench.proofs.claim_work.pages.Given as goal

abbrev pub invariant-loop-page : goal.invariant-loop-page
invariant-loop-page l = record {
  len : length l.pages.items ≡ l.page;
  each : (k : ℕ) → k < l.page → get_or l.pages.items k 0 ≡ k;
}
