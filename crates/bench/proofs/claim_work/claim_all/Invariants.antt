use Rattle.pusher.specs.Seats.{IsSeatOf}
use Rattle.bench.proofs.claim_work.claim_all.Given as goal

abbrev pub invariant-loop-index : goal.invariant-loop-index
invariant-loop-index l = IsSeatOf l.claims l.seat
