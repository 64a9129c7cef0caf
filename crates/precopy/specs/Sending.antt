-- A call that lends the bytes of the page that it sends: the step that it makes, and the source after the borrow.
use Rattle.std.specs.Prelude.{◌≡◌, ℕ, true, Some, [], ◌∷◌}
use Rattle.std.specs.FinMap.{get}
use Rattle.std.specs.FinSet.{contains}
use Rattle.mig_base.specs.declared.effect.Effect.{Effect}
use Rattle.mig_base.specs.declared.schedule.Ticket.{Ticket}
use Rattle.mig_model.specs.NodeSteps.{sent}
use Rattle.mig_model.specs.Source.{Source, bytes_of, space_of}
use Rattle.mig_model.specs.SourceSteps.{push, push_urgent, send}
use Rattle.mig_model.specs.Wire.{Frame}

-- a round has sent a page: it is the step Send, the epoch stays, and the page is protected and has the bytes that it had
pub record IsPageSent (old : Source) (effect : Effect) (page : ℕ) (frame : Frame) (new : Source) : Type 0 where
  pub made : send old ≡ sent effect (frame ∷ []) new
  pub epoch : new.epoch ≡ old.epoch
  pub protected : contains (space_of new).protected page ≡ true
  pub bytes : get (space_of new).host.bytes page ≡ Some (bytes_of old page)

-- a stopped source has sent the page of a ticket on the wire to the destination: it is the step Push, and the epoch stays
pub record IsPushed (old : Source) (ticket : Ticket) (effect : Effect) (frame : Frame) (new : Source) : Type 0 where
  pub made : push old ticket ≡ sent effect (frame ∷ []) new
  pub epoch : new.epoch ≡ old.epoch

-- a stopped source has sent the page of a ticket on the urgent wire: it is the step PushUrgent, and the epoch stays
pub record IsPushedUrgently (old : Source) (ticket : Ticket) (effect : Effect) (frame : Frame) (new : Source) : Type 0 where
  pub made : push_urgent old ticket ≡ sent effect (frame ∷ []) new
  pub epoch : new.epoch ≡ old.epoch
