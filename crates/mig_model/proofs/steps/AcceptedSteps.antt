-- The steps that lead to the completion of a migration: what each asks for, so that it is not refused, and the world after it.
use Rattle.std.proofs.Common.{◌≡◌, ℕ, ◌-◌, ◌&&◌, true, false, not, eqb, ltb, Some, None, List, [], ◌∷◌, refl, sym, ap, subst, arith}
use Rattle.std.specs.Prelude.{IsOk}
use Rattle.std.specs.FinSet.{contains}
use Rattle.std.proofs.lemmas.Bool.Decides.{nat_tests}
use Rattle.mig_base.specs.declared.effect.Effect.{Effect}
use Rattle.mig_base.specs.declared.schedule.Side.{Side}
use Rattle.mig_base.specs.declared.schedule.Step.{Step}
use Rattle.foundation.specs.Tests.{is_empty}
use Rattle.mig_base.specs.Userfault.{Noted, next_message}
use Rattle.mig_model.specs.Guest.{is_present, is_changing}
use Rattle.mig_model.specs.Log.{least_of}
use Rattle.mig_model.specs.Source.{is_precopy, is_released, is_source_idle, is_source_paused, is_stopped, space_of}
use Rattle.mig_model.specs.Destination.{is_dest_paused}
use Rattle.mig_model.specs.Wire.{Copy, Sent}
use Rattle.mig_model.specs.Lengths.{text_len}
use Rattle.mig_model.specs.Migration.{World, after_steps, answer, made, next, next_by, outcome, outcome_by}
use Rattle.mig_model.specs.NodeSteps.{is_used}
use Rattle.mig_model.specs.Faults.{is_early, is_end}
use Rattle.mig_model.proofs.steps.StepWorlds.{after_start, after_source_read, after_switch, after_deliver, after_deliver_back, after_deliver_urgent, after_dest_read, after_install, after_push, after_end, after_notice, after_resume}
use Rattle.mig_model.specs.Invariant.{IsSoundWorld, AreSoundUrgent}
use Rattle.mig_model.specs.Promises.{CanComplete, AreAccepted, IsComplete}
use Rattle.mig_model.proofs.steps.StepAnswers.{answers-deliver, answers-deliver_back, answers-deliver_urgent, answers-dest_read, answers-end, answers-install, answers-notice, answers-push, answers-resume, answers-source_read, answers-start, answers-switch, is_paused_at}
use Rattle.mig_model.proofs.steps.EveryStep.{kept-next}
use Rattle.mig_model.proofs.invariant.UrgentSteps.{urgent-next}

-- what every world keeps
pub record IsInOrder (world : World) : Type 0 where
  pub kept : IsSoundWorld world
  pub urgent : AreSoundUrgent world

-- a complete migration needs no step
pub complete_now : (world : World) → IsComplete world → CanComplete world
complete_now world done = record { steps = []; accepted = tt; is = done }

-- where one accepted step leads to a world from which a migration can complete, it can
step_to : (world new : World) (step : Step) (effect : Effect) → answer world step ≡ made effect new → IsInOrder world → (IsInOrder new → CanComplete new) → CanComplete world
unfolding next outcome
step_to world new step effect is order can =
    let there : next world step ≡ new = ap (next_by world) is in
    let onward = can (subst IsInOrder there (record { kept = kept-next world step order.kept order.urgent; urgent = urgent-next world step order.kept order.urgent })) in
    record {
      steps = step ∷ onward.steps;
      accepted = (subst (λ a. IsOk (outcome_by a)) (sym is) refl, subst (λ w. AreAccepted w onward.steps) (sym there) onward.accepted);
      is = subst (λ w. IsComplete (after_steps w onward.steps)) (sym there) onward.is;
    }

-- Tests

-- as many bytes as the text of a frame has complete it
not_short : (length held : ℕ) → ltb length (length - held) ≡ false
not_short length held = grind (arith, nat_tests)

-- The source

pub by_start : (world : World) → is_source_idle world.source.phase ≡ true → is_used world.source.epoch ≡ false → IsInOrder world → (IsInOrder (after_start world) → CanComplete (after_start world)) → CanComplete world
by_start world idle free order can = step_to world (after_start world) Step.Start _ (answers-start world idle free) order can

pub by_source_read : (world : World) (noted : Noted) → is_source_idle world.source.phase ≡ false → world.source.switched ≡ false → next_message (space_of world.source).object ≡ Some noted → IsInOrder world →
    (IsInOrder (after_source_read world noted) → CanComplete (after_source_read world noted)) → CanComplete world
by_source_read world noted started unswitched is order can = step_to world (after_source_read world noted) Step.SourceRead _ (answers-source_read world noted started unswitched is) order can

pub by_switch : (world : World) → is_precopy world.source.phase ≡ true → world.up ≡ true → is_changing world.source.guest ≡ false → IsInOrder world → (IsInOrder (after_switch world) → CanComplete (after_switch world)) → CanComplete world
by_switch world precopy up quiet order can = step_to world (after_switch world) Step.Switch _ (answers-switch world precopy up quiet) order can

pub by_push : (world : World) (page : ℕ) → is_stopped world.source.phase ≡ true → world.up ≡ true → is_present (space_of world.source) page ≡ true → contains world.source.remaining page ≡ true → IsInOrder world →
    (IsInOrder (after_push world page) → CanComplete (after_push world page)) → CanComplete world
by_push world page stopped up present remains order can =
    step_to world (after_push world page) (Step.Push (record { epoch = world.source.epoch; page = page })) _ (answers-push world page stopped up present remains) order can

pub by_end : (world : World) → is_stopped world.source.phase ≡ true → world.up ≡ true → eqb world.source.end_epoch world.source.epoch ≡ false → least_of world.source.remaining ≡ None → IsInOrder world →
    (IsInOrder (after_end world) → CanComplete (after_end world)) → CanComplete world
by_end world stopped up other none order can = step_to world (after_end world) Step.End _ (answers-end world stopped up other none) order can

-- Deliveries

pub by_deliver : (world : World) (sent : Sent) (rest : List Sent) → world.forward.frames ≡ sent ∷ rest → is_source_idle world.source.phase ≡ false → world.up ≡ true → (is_end sent.frame && not (is_empty world.destination.arrivals)) ≡ false →
    is_early world.destination sent.frame ≡ false → IsInOrder world → (IsInOrder (after_deliver world sent rest) → CanComplete (after_deliver world sent rest)) → CanComplete world
by_deliver world sent rest first started up free came order can =
    let n = text_len sent.frame in
    step_to world (after_deliver world sent rest) (Step.Deliver n) _ (answers-deliver world n sent rest first (not_short n world.forward.held) started up free came) order can

pub by_deliver_back : (world : World) (sent : Sent) (rest : List Sent) → world.back.frames ≡ sent ∷ rest → is_source_idle world.source.phase ≡ false → world.up ≡ true → IsInOrder world →
    (IsInOrder (after_deliver_back world sent rest) → CanComplete (after_deliver_back world sent rest)) → CanComplete world
by_deliver_back world sent rest first started up order can =
    let n = text_len sent.frame in
    step_to world (after_deliver_back world sent rest) (Step.DeliverBack n) _ (answers-deliver_back world n sent rest first (not_short n world.back.held) started up) order can

pub by_deliver_urgent : (world : World) (sent : Sent) (rest : List Sent) → world.urgent.frames ≡ sent ∷ rest → world.destination.has_run ≡ true → world.up ≡ true → IsInOrder world →
    (IsInOrder (after_deliver_urgent world sent rest) → CanComplete (after_deliver_urgent world sent rest)) → CanComplete world
by_deliver_urgent world sent rest first ran up order can =
    let n = text_len sent.frame in
    step_to world (after_deliver_urgent world sent rest) (Step.DeliverUrgent n) _ (answers-deliver_urgent world n sent rest first (not_short n world.urgent.held) ran up) order can

-- The destination

pub by_dest_read : (world : World) (noted : Noted) → world.destination.has_run ≡ true → next_message world.destination.guest.space.object ≡ Some noted → IsInOrder world →
    (IsInOrder (after_dest_read world noted) → CanComplete (after_dest_read world noted)) → CanComplete world
by_dest_read world noted ran is order can = step_to world (after_dest_read world noted) Step.DestRead _ (answers-dest_read world noted ran is) order can

pub by_install : (world : World) (copy : Copy) (rest : List Copy) → world.destination.has_run ≡ true → world.destination.arrivals ≡ copy ∷ rest → is_changing world.destination.guest ≡ false → IsInOrder world →
    (IsInOrder (after_install world copy rest) → CanComplete (after_install world copy rest)) → CanComplete world
by_install world copy rest ran first quiet order can = step_to world (after_install world copy rest) Step.Install _ (answers-install world copy rest ran first quiet) order can

-- The channel

pub by_notice : (world : World) (side : Side) → is_source_idle world.source.phase ≡ false → is_released world.source.phase ≡ false → is_paused_at world side ≡ false → world.up ≡ false → IsInOrder world →
    (IsInOrder (after_notice world side) → CanComplete (after_notice world side)) → CanComplete world
by_notice world side started going unpaused down order can = step_to world (after_notice world side) (Step.Notice side) _ (answers-notice world side started going unpaused down) order can

pub by_resume : (world : World) → is_source_paused world.source.phase ≡ true → is_dest_paused world.destination.phase ≡ true → world.up ≡ false → is_used world.source.epoch ≡ false → IsInOrder world →
    (IsInOrder (after_resume world) → CanComplete (after_resume world)) → CanComplete world
by_resume world from to down free order can = step_to world (after_resume world) Step.Resume _ (answers-resume world from to down free) order can
