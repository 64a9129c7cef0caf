-- What a claim leaves of a seat.
use Rattle.std.proofs.Common.{◌≡◌, ℕ, List, [], ◌∷◌, ◌++◌, sym, ◌∙◌, append-nil}
use Rattle.std.specs.Prelude.{Option, Some, None, IfSome, IfNone}
use Rattle.mig_base.specs.declared.schedule.Ticket.{Ticket}
use Rattle.pusher.specs.Seats.{Held}
use Rattle.rig.specs.Claiming.{BeginsWith, Continues}

begins_same : (xs ys : List ℕ) → ys ≡ xs → BeginsWith ys xs
begins_same xs ys same = ([], same ∙ sym (append-nil xs))

pub continues_claimed : (old new : Held) (index : ℕ) (ticket : Option Ticket) → new.share ≡ old.share → IfSome ticket (λ _. (new.claimed ≡ old.claimed ++ index ∷ []) × (new.seen ≡ old.seen)) → IfNone ticket ((new.claimed ≡ old.claimed) × (new.seen ≡ old.seen ++ index ∷ [])) → Continues old new
continues_claimed old new index (Some ticket) share won lost = record { claimed = (index ∷ [], won.0); seen = begins_same old.seen new.seen won.1; share = share }
continues_claimed old new index None share won lost = record { claimed = begins_same old.claimed new.claimed lost.0; seen = (index ∷ [], lost.1); share = share }
