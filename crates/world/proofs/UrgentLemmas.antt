-- The count of urgent frames is never at its greatest value, so that no push on the urgent wire is refused for it.
use Rattle.std.proofs.Common.{◌≡◌, ℕ, ◌+◌, ◌≤◌, ◌⊎◌, true, false, IsOk, Err, sym, ap, ◌∙◌, arith, ⊎_elim}
use Rattle.std.proofs.lemmas.Bool.{false≢true}
use Rattle.std.proofs.lemmas.Bool.Decides.{nat_tests}
use Rattle.std.specs.FinSet.{len}
use Rattle.mig_base.specs.declared.refusal.Refusal.{Refusal}
use Rattle.mig_base.specs.declared.schedule.Step.{Step}
use Rattle.mig_base.specs.declared.schedule.Ticket.{Ticket}
use Rattle.mig_model.specs.Log.{present}
use Rattle.mig_model.specs.Migration.{World, source_sends_urgently}
use Rattle.mig_model.specs.NodeSteps.{is_used, unless}
use Rattle.mig_model.specs.Runs.{Happens}
use Rattle.mig_model.specs.Source.{Source, is_stopped, space_of}
use Rattle.mig_model.specs.SourceSteps.{push_urgent}
use Rattle.mig_model.proofs.invariant.Bounded.{memory_bounded}
use Rattle.mig_model.proofs.steps.EveryStep.{kept-reached}
use Rattle.mig_model.proofs.steps.StepLemmas.{is-up}
use Rattle.mig_model.proofs.invariant.UrgentFew.{few-reached}
use Rattle.mig_model.proofs.steps.WokenSteps.{stopped_switched}
use Rattle.page_stream.proofs.FrameBounds.{member_present, present_pages}
use Rattle.page_stream.proofs.FrameSteps.{stopped_unreleased}
use Rattle.world.specs.Worlds.{IsWorld}
use Rattle.world.proofs.StepLemmas.{happens_refused}

below_most : (count left pages : ℕ) → count + left ≤ pages → pages ≤ 262144 → is_used count ≡ false
below_most count left pages few most = grind (arith, nat_tests)

urgent_unused : (world : World) → IsWorld world → is_stopped world.source.phase ≡ true → is_used world.source.urgent_sent ≡ false
urgent_unused world is stopped =
    let kept = kept-reached world is.reached in
    let switched = stopped_switched world.source.phase world.source.switched stopped kept.phases.source_phase in
    let few = (few-reached world is.reached).few switched (stopped_unreleased world.source.phase stopped) in
    let space = space_of world.source in
    let pages = present_pages space.host (present space) kept.spaces.source_space.host (memory_bounded world is.reached).source (member_present space) in
    below_most world.source.urgent_sent (len world.source.remaining) (len (present space)) few pages.1

stopped_by : (node : Source) (ticket : Ticket) → IsOk (push_urgent node ticket) → is_stopped node.phase ≡ true
unfolding unless
stopped_by node ticket ok = grind (arith, nat_tests)

pub urgent_refused : (world : World) (ticket : Ticket) (refusal : Refusal) → IsWorld world → world.up ≡ true →
    (push_urgent world.source ticket ≡ Err refusal) ⊎ ((refusal ≡ Refusal.CountUsed) × (is_used world.source.urgent_sent ≡ true) × IsOk (push_urgent world.source ticket)) → Happens world (Step.PushUrgent ticket) (Err refusal) world
urgent_refused world ticket refusal is up refused =
    ⊎_elim
    (λ (h : push_urgent world.source ticket ≡ Err refusal). happens_refused world (Step.PushUrgent ticket) refusal (ap (source_sends_urgently world) (is-up world.up (push_urgent world.source ticket) up ∙ h)))
    (λ (h : (refusal ≡ Refusal.CountUsed) × (is_used world.source.urgent_sent ≡ true) × IsOk (push_urgent world.source ticket)).
    absurd (false≢true (sym (urgent_unused world is (stopped_by world.source ticket h.2)) ∙ h.1)))
    refused
