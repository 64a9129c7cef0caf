use Rattle.std.proofs.Common.{◌≡◌, ℕ, ◌<◌, ◌⊎◌}
use Rattle.std.specs.Prelude.{Contains}
use Rattle.pusher.specs.Seats.{IsSeatOf}
use Rattle.thread_tests.proofs.claims.two_threads.claim_all.Given as goal

abbrev pub invariant-loop-index : goal.invariant-loop-index
invariant-loop-index l = record {
  seat : IsSeatOf l.claims l.seat;
  share : l.seat.share ≡ l.initial.seat.share;
  known : (i : ℕ) → i < l.index → Contains l.seat.claimed i ⊎ Contains l.seat.seen i;
}
