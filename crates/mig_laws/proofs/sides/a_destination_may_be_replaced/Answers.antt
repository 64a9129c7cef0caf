use Rattle.std.proofs.Common.{ap, subst, sym, ◌∙◌}
use Rattle.mig_base.specs.Flat.{IsFlatRun, memory_of}
use Rattle.mig_model.specs.Destination.{Destination}
use Rattle.mig_model.specs.Host.{memory}
use Rattle.mig_model.specs.Migration.{after_steps, first_world_with}
use Rattle.mig_model.specs.Source.{Source, is_released}
use Rattle.mig_model.proofs.steps.EveryStep.{kept-reached}
use Rattle.mig_model.proofs.transcript.PromiseLemmas.{is_alone}
use Rattle.mig_laws.proofs.ReplacedRuns.{stands, world-of-last}
use Rattle.mig_laws.proofs.HeldWorlds.{any-held}
use Rattle.mig_laws.proofs.TwoProcesses.{reached-of}
use Rattle.mig_laws.proofs.sides.a_destination_may_be_replaced.Goals as goal

pub returns-clause-events : goal.returns-clause-events
returns-clause-events c run =
    let stand = stands run.cpus run.epoch run.rounds run.changes run.last run.are in
    record { events = stand.events; earlier = stand.earlier; are = stand.are; here_is = stand.here_is; there_is = stand.there_is }

pub returns-clause-world : goal.returns-clause-world
returns-clause-world c run settled =
    let last = world-of-last run.cpus run.epoch run.rounds run.changes run.last run.are settled in (
      last.earlier,
      record { steps = last.world.steps; here_is = last.world.here_is; there_is = last.world.there_is; source_is = last.world.source_is; destination_is = last.world.destination_is },
    )

pub returns-clause-transcript : goal.returns-clause-transcript
returns-clause-transcript c run =
    let all = any-held run.cpus run.epoch run.rounds run.changes run.last run.are in
    let world = after_steps (first_world_with run.cpus run.epoch run.rounds) all.steps in
    subst IsFlatRun all.transcript_is (kept-reached world (reached-of run.cpus run.epoch run.rounds all.steps)).memory.flat

pub returns-clause-alone : goal.returns-clause-alone
returns-clause-alone c run released =
    let all = any-held run.cpus run.epoch run.rounds run.changes run.last run.are in
    let world = after_steps (first_world_with run.cpus run.epoch run.rounds) all.steps in
    let alone = is_alone world (kept-reached world (reached-of run.cpus run.epoch run.rounds all.steps)) (ap (λ (node : Source). is_released node.phase) all.source_is ∙ released) in
    ap (λ (node : Destination). memory node.guest.space.host) (sym all.destination_is) ∙ alone.holds ∙ ap memory_of all.transcript_is
