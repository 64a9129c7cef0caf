use Rattle.mig_base.specs.declared.schedule.Step.{Step}
use Rattle.mig_model.specs.Migration.{after_steps, next}
use Rattle.mig_model.proofs.delivery.EndRefused.{end_left, end_sent}
use Rattle.mig_model.proofs.delivery.PushOrder.{no_recv_taken, no_switch, pushed_before, urgent_before}
use Rattle.mig_model.proofs.delivery.WirePromises.{remaining_back}
use Rattle.mig_model.proofs.invariant.UrgentSteps.{urgent-next}
use Rattle.mig_model.proofs.steps.EveryStep.{kept-after_steps, kept-next, kept-reached, urgent-reached}
use Rattle.mig_model.proofs.steps.StepPromises.{remaining_push, remaining_push_urgent, remaining_shrinks}
use Rattle.mig_model.proofs.migration.pages_that_remain.Goals as goal

pub returns-clause-shrinks : goal.returns-clause-shrinks
returns-clause-shrinks c world =
    record {
      push = λ ticket q free. remaining_push world ticket q free;
      push_urgent = λ ticket q free. remaining_push_urgent world ticket q free;
      shrinks = λ step q keeps is. remaining_shrinks world step q keeps is;
      back = λ n sent rest q first plain is. remaining_back world n sent rest q first plain is;
    }

pub returns-clause-push : goal.returns-clause-push
returns-clause-push c world ticket steps reached ok =
    let kept = kept-reached world reached in
    let urgent = urgent-reached world reached in
    let after = next world (Step.Push ticket) in
    let still = kept-after_steps after steps (kept-next world (Step.Push ticket) kept urgent) (urgent-next world (Step.Push ticket) kept urgent) in
    let before = pushed_before world ticket steps kept urgent ok in
    record {
      no_switch = λ same switched. no_switch world.source.epoch (after_steps after steps) still before same switched;
      no_recv = λ sent rest same up first is. no_recv_taken world.source.epoch (after_steps after steps) sent rest still before same up first is;
    }

pub returns-clause-push_urgent : goal.returns-clause-push_urgent
returns-clause-push_urgent c world ticket steps reached ok =
    let kept = kept-reached world reached in
    let urgent = urgent-reached world reached in
    let after = next world (Step.PushUrgent ticket) in
    let still = kept-after_steps after steps (kept-next world (Step.PushUrgent ticket) kept urgent) (urgent-next world (Step.PushUrgent ticket) kept urgent) in
    let before = urgent_before world ticket steps kept urgent ok in
    record {
      no_switch = λ same switched. no_switch world.source.epoch (after_steps after steps) still before same switched;
      no_recv = λ sent rest same up first is. no_recv_taken world.source.epoch (after_steps after steps) sent rest still before same up first is;
    }

pub returns-clause-end_left : goal.returns-clause-end_left
returns-clause-end_left c world q reached can left = end_left world q (kept-reached world reached) can.stopped can.unsent can.up left

pub returns-clause-end : goal.returns-clause-end
returns-clause-end c world can none = end_sent world can.stopped can.unsent can.up none
