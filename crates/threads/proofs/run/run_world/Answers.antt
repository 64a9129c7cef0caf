use Rattle.std.proofs.Common.{List, subst}
use Rattle.rig.specs.Seats.{Seat}
use Rattle.threads.specs.Report.{IsHistory}
use Rattle.threads.proofs.Reports.{history}
use Rattle.threads.proofs.run.run_world.Goals as goal

pub returns-in-Ok-clause-history : goal.returns-in-Ok-clause-history
returns-in-Ok-clause-history g c none =
    subst (λ (seats : List Seat). IsHistory seats c.in-Ok.world) c.deref-2.ensures.value
    (history c.in_ok-rig.rig c.deref-2.result.now c.in-Ok.world c.in_ok-rig.ensures.opening c.in-Ok.ensures.flat c.in-Ok.ensures.answered)
