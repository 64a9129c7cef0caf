use Rattle.std.proofs.Common.{◌-◌, length}
use Rattle.pusher.specs.Seats.{IsSeatOf}
use Rattle.rig.specs.Claiming.{Continues}
use Rattle.rig.proofs.sending.claim_next.Given as goal

abbrev pub invariant-loop-index : goal.invariant-loop-index
invariant-loop-index l = IsSeatOf l.claims l.seat × Continues l.fn.seat l.seat

abbrev pub decreases-loop-index : goal.decreases-loop-index
decreases-loop-index l = length l.claims.pages - l.index
