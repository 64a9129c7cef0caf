-- The steps of orders.
use Rattle.std.specs.Prelude.{◌≡◌, ℕ, Option, Some, None}
use Rattle.mig_base.specs.declared.schedule.Step.{Step}
use Rattle.mig_base.specs.declared.schedule.Step.TheVariants as step
use Rattle.mig_base.specs.declared.schedule.Ticket.{Ticket}
use Rattle.grammar.specs.declared.order.ForwardWire.TheVariants.{Main, Urgent}
use Rattle.grammar.specs.declared.order.Order.{Order}
use Rattle.grammar.specs.declared.order.Order.TheVariants.{Make, Push, Progress}

-- the epoch that is written, or the present one if none is
abbrev pub epoch_or : Option ℕ → ℕ → ℕ
epoch_or (Some epoch) present = epoch
epoch_or None present = present

-- the ticket of a push: the epoch for which it was decided, and the page
abbrev pub ticket : ℕ → ℕ → Ticket
ticket epoch page = record { epoch = epoch; page = page }

-- the step that an order makes in a world with this epoch; an order for progress makes none
abbrev pub step_of : Order → ℕ → Option Step
step_of (Make made) present = Some made
step_of (Push Main page epoch) present = Some (step.Push (ticket (epoch_or epoch present) page))
step_of (Push Urgent page epoch) present = Some (step.PushUrgent (ticket (epoch_or epoch present) page))
step_of Progress present = None

-- the order makes this step, whatever the epoch of the world
abbrev pub HasStep : Order → Step → Type 0
HasStep order made = (epoch : ℕ) → step_of order epoch ≡ Some made

-- the order of a step. A push names its epoch
abbrev pub order_of : Step → Order
order_of (step.Push pushed) = Push Main pushed.page (Some pushed.epoch)
order_of (step.PushUrgent pushed) = Push Urgent pushed.page (Some pushed.epoch)
order_of made = Make made
