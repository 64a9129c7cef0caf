-- The steps Push and PushUrgent of a source.
use Rattle.std.proofs.Common.{◌≡◌, false, [], ◌∷◌, refl, ◌∙◌, arith}
use Rattle.std.specs.Prelude.{Ok}
use Rattle.mig_base.specs.declared.effect.Effect.{Effect}
use Rattle.mig_base.specs.declared.schedule.Ticket.{Ticket}
use Rattle.mig_model.specs.Effects.{page_effect}
use Rattle.mig_model.specs.NodeSteps.{checked, sent, unless}
use Rattle.mig_model.specs.Source.{Source, bytes_of, is_released, page_pushed, urgent_pushed}
use Rattle.mig_model.specs.SourceSteps.{push, push_urgent}
use Rattle.mig_model.specs.Wire.{Frame, page_frame}
use Rattle.precopy.proofs.StepLemmas.{made_if}

pub push_done : (node new : Source) (ticket : Ticket) (effect : Effect) (frame : Frame) → Ok tt ≡ checked (push node ticket) → frame ≡ page_frame ticket.page (bytes_of node ticket.page) →
    effect ≡ page_effect ticket.page (bytes_of node ticket.page) → new ≡ page_pushed node ticket.page → push node ticket ≡ sent effect (frame ∷ []) new
push_done node new ticket effect frame is same made new_is = made_if _ _ is ∙ rw (new_is, made, same) refl

pub urgent_done : (node new : Source) (ticket : Ticket) (effect : Effect) (frame : Frame) → Ok tt ≡ checked (push_urgent node ticket) → frame ≡ page_frame ticket.page (bytes_of node ticket.page) →
    effect ≡ page_effect ticket.page (bytes_of node ticket.page) → new ≡ urgent_pushed node ticket.page → push_urgent node ticket ≡ sent effect (frame ∷ []) new
urgent_done node new ticket effect frame is same made new_is = made_if _ _ is ∙ rw (new_is, made, same) refl

-- the source that sends it is not released
pub push_unreleased : (node : Source) (ticket : Ticket) → Ok tt ≡ checked (push node ticket) → is_released node.phase ≡ false
unfolding unless
push_unreleased node ticket is = grind arith
