use Rattle.std.proofs.Common.{ap, subst, sym, ◌∙◌}
use Rattle.mig_base.specs.Flat.{IsFlatRun, memory_of}
use Rattle.mig_model.specs.Destination.{Destination}
use Rattle.mig_model.specs.Host.{memory}
use Rattle.mig_model.specs.Migration.{after_steps, first_world_with}
use Rattle.mig_model.specs.Source.{Source, is_released}
use Rattle.mig_model.proofs.steps.EveryStep.{kept-reached}
use Rattle.mig_model.proofs.transcript.PromiseLemmas.{is_alone}
use Rattle.mig_laws.proofs.HeldWorlds.{events-held}
use Rattle.mig_laws.proofs.TwoProcesses.{ends, reached-of, world-of}
use Rattle.mig_laws.proofs.sides.two_processes_are_a_world.Goals as goal

pub returns-clause-order : goal.returns-clause-order
returns-clause-order c run settled =
    let end = ends run.cpus run.epoch run.rounds run.events run.last run.are settled in
    record {
      pair = end.pair;
      order = record { turns = end.leads.turns; effects = end.leads.effects; are = end.leads.are };
      here_is = end.leads.here_is;
      there_is = end.leads.there_is;
      source_is = end.source_is;
      destination_is = end.destination_is;
    }

pub returns-clause-world : goal.returns-clause-world
returns-clause-world c run settled =
    let world = world-of run.cpus run.epoch run.rounds run.events run.last run.are settled in
    record { steps = world.steps; here_is = world.here_is; there_is = world.there_is; source_is = world.source_is; destination_is = world.destination_is }

pub returns-clause-transcript : goal.returns-clause-transcript
returns-clause-transcript c run =
    let all = events-held run.cpus run.epoch run.rounds run.events run.last run.are in
    let world = after_steps (first_world_with run.cpus run.epoch run.rounds) all.steps in
    subst IsFlatRun all.transcript_is (kept-reached world (reached-of run.cpus run.epoch run.rounds all.steps)).memory.flat

pub returns-clause-alone : goal.returns-clause-alone
returns-clause-alone c run released =
    let all = events-held run.cpus run.epoch run.rounds run.events run.last run.are in
    let world = after_steps (first_world_with run.cpus run.epoch run.rounds) all.steps in
    let alone = is_alone world (kept-reached world (reached-of run.cpus run.epoch run.rounds all.steps)) (ap (λ (node : Source). is_released node.phase) all.source_is ∙ released) in
    ap (λ (node : Destination). memory node.guest.space.host) (sym all.destination_is) ∙ alone.holds ∙ ap memory_of all.transcript_is
