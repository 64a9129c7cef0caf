-- A page that the round sends next can be sent.
use Rattle.std.proofs.Common.{◌≡◌, ℕ, true, false, ltb, Some, None, List, [], ◌∷◌, length, refl, sym, ◌∙◌, inl, inr, arith}
use Rattle.std.specs.Prelude.{Ok, Err, Option, Result}
use Rattle.std.specs.FinSet.{contains}
use Rattle.mig_base.specs.declared.effect.Effect.{Effect}
use Rattle.mig_base.specs.declared.refusal.Refusal.{Refusal}
use Rattle.mig_base.specs.declared.TheConstants.{HIGH_PAGE}
use Rattle.foundation.proofs.RangeLemmas.{least_below_tells}
use Rattle.foundation.specs.Ranges.{none_below}
use Rattle.mig_model.specs.Effects.{page_effect}
use Rattle.mig_model.specs.NodeSteps.{IsRefusedFor as IsStepRefused, checked, sent, unless}
use Rattle.mig_base.specs.Userfault.{Noted}
use Rattle.mig_model.specs.Whereabouts.{is_unread}
use Rattle.mig_model.specs.Log.{least_of}
use Rattle.mig_model.specs.Guest.{is_changing}
use Rattle.mig_model.specs.Space.{Space}
use Rattle.mig_model.specs.Source.{Source, bytes_of, is_released, page_sent, space_of}
use Rattle.mig_model.specs.SourceSteps.{next_to_send, send}
use Rattle.mig_model.specs.Wire.{Frame, page_frame}
use Rattle.dirty_log.specs.Answers.{IsRefusedAs, send_refusal}
use Rattle.dirty_log.specs.Spaces.{is_sendable}
use Rattle.precopy.specs.Order.{AreSendable}
use Rattle.precopy.proofs.StepLemmas.{lacks, stops}

-- Send

pub send_checked : (node : Source) (found : Result ℕ Refusal) → next_to_send node ≡ found → checked found ≡ checked (send node)
send_checked node (Ok page) is = rw is refl
send_checked node (Err refusal) is = rw is refl

pub send_done : (node new : Source) (page : ℕ) (effect : Effect) (frame : Frame) → next_to_send node ≡ Ok page → frame ≡ page_frame page (bytes_of node page) → effect ≡ page_effect page (bytes_of node page) → new ≡ page_sent node page →
    send node ≡ sent effect (frame ∷ []) new
send_done node new page effect frame is same made new_is = rw (new_is, made, same, is) refl

pub send_refused : (node : Source) (refusal : Refusal) → next_to_send node ≡ Err refusal → IsStepRefused (send node) refusal
send_refused node refusal is = inl (stops (next_to_send node) _ refusal is)

-- the tests that the page has passed
pub least_sent : (node : Source) (page : ℕ) → next_to_send node ≡ Ok page → least_of node.log.todo ≡ Some page
unfolding unless
least_sent node page is = grind arith

pub quiet : (node : Source) (page : ℕ) → next_to_send node ≡ Ok page → is_changing node.guest ≡ false
unfolding unless
quiet node page is = grind arith

pub send_unreleased : (node : Source) (page : ℕ) → next_to_send node ≡ Ok page → is_released node.phase ≡ false
send_unreleased node page is = grind arith

pub no_unread : (events : List Noted) (page : ℕ) → ltb 0 (length events) ≡ false → is_unread events page ≡ false
no_unread [] page h = refl
no_unread (noted ∷ events) page h = grind arith

todo_accepted : (space : Space) (page : ℕ) → ltb 0 (length space.object.events) ≡ false → is_sendable space page ≡ true → send_refusal space page 1 ≡ None
unfolding none_below
todo_accepted space page quiet can = grind arith

next_accepted : (node : Source) (page : ℕ) → next_to_send node ≡ Ok page → contains node.log.todo page ≡ true → AreSendable node.log (space_of node) → send_refusal (space_of node) page 1 ≡ None
next_accepted node page is todo kept = todo_accepted (space_of node) page (quiet node page is) (kept page todo (no_unread (space_of node).object.events page (quiet node page is)))

pub send_accepted : (node : Source) (page : ℕ) → next_to_send node ≡ Ok page → AreSendable node.log (space_of node) → send_refusal (space_of node) page 1 ≡ None
send_accepted node page is kept = next_accepted node page is (least_below_tells (contains node.log.todo) HIGH_PAGE page (least_sent node page is)) kept

-- what a send that is refused then lacks is memory
pub only_memory : (refusal : Refusal) (reason : Option Refusal) → reason ≡ None → IsRefusedAs reason refusal → refusal ≡ Refusal.NoMemory
only_memory refusal reason none (inl is) = absurd (let other : Some refusal ≡ None = sym is ∙ none in grind arith)
only_memory refusal reason none (inr is) = is.1

pub send_stopped : (node : Source) (page : ℕ) (refusal : Refusal) → next_to_send node ≡ Ok page → AreSendable node.log (space_of node) → IsRefusedAs (send_refusal (space_of node) page 1) refusal → IsStepRefused (send node) refusal
send_stopped node page refusal is kept why = rw (only_memory refusal _ (send_accepted node page is kept) why) (lacks (send node) (send_checked node _ is))
