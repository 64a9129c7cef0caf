-- The turns of the workers: the kind of step that each asks for, and the steps that it makes.
use Rattle.std.specs.Prelude.{◌≡◌, ◌⊎◌, ◌%◌, ℕ, Bool, true, false, if◌then◌else◌, Option, Some, None, Ok, Err, List, [], ◌∷◌, length, IfSome, Contains}
use Rattle.std.specs.List.{slice_get}
use Rattle.mig_base.specs.declared.refusal.Refusal.{Refusal}
use Rattle.mig_base.specs.declared.schedule.Side.{Side}
use Rattle.mig_base.specs.declared.schedule.Step.{Step}
use Rattle.mig_base.specs.declared.schedule.Ticket.{Ticket}
use Rattle.mig_model.specs.Runs.{Outcome}
use Rattle.rig.specs.declared.gate.StepKind.{StepKind}
use Rattle.rig.specs.declared.gate.Worker.{Worker}

-- a step without its fields
abbrev pub kind_of : Step → StepKind
kind_of (Step.Issue cpu command) = StepKind.Issue
kind_of (Step.Retry cpu) = StepKind.Retry
kind_of Step.Start = StepKind.Start
kind_of Step.Round = StepKind.Round
kind_of Step.Send = StepKind.Send
kind_of (Step.SendRun count) = StepKind.SendRun
kind_of Step.SourceRead = StepKind.SourceRead
kind_of Step.SourceAct = StepKind.SourceAct
kind_of Step.Switch = StepKind.Switch
kind_of (Step.Deliver n) = StepKind.Deliver
kind_of (Step.DeliverBack n) = StepKind.DeliverBack
kind_of Step.DestRead = StepKind.DestRead
kind_of Step.DestAct = StepKind.DestAct
kind_of Step.Install = StepKind.Install
kind_of (Step.Push ticket) = StepKind.Push
kind_of (Step.PushUrgent ticket) = StepKind.PushUrgent
kind_of (Step.DeliverUrgent n) = StepKind.DeliverUrgent
kind_of Step.Serve = StepKind.Serve
kind_of Step.End = StepKind.End
kind_of Step.Break = StepKind.Break
kind_of (Step.Notice side) = StepKind.Notice
kind_of Step.Resume = StepKind.Resume

-- all bytes that have arrived
abbrev pub all_bytes : ℕ
all_bytes = 18446744073709551615

-- the table of a worker that makes its steps in turn, over and over; the other two choose theirs by what is to be sent
abbrev pub steps_of : Worker → List Step
steps_of Worker.Source =
    Step.Round ∷ Step.Send ∷ Step.SourceRead ∷ Step.SourceAct ∷ Step.DeliverBack all_bytes ∷ Step.End ∷ Step.Notice Side.Source ∷ []
steps_of Worker.Dest =
    Step.Deliver all_bytes ∷ Step.DeliverUrgent all_bytes ∷ Step.DestRead ∷ Step.DestAct ∷ Step.Install ∷ Step.Notice Side.Destination ∷ []
steps_of worker = []

-- a worker may ask for a step of this kind in this turn: for that of its table, in order; the one that serves asks for a request or for an
-- urgent push, and the one that pushes for a push on the other wire
abbrev pub Asks : Worker → ℕ → StepKind → Type 0
Asks Worker.Serve turn kind = (kind ≡ StepKind.Serve) ⊎ (kind ≡ StepKind.PushUrgent)
Asks Worker.Push turn kind = kind ≡ StepKind.Push
Asks worker turn kind =
    IfSome (slice_get (steps_of worker) (turn % length (steps_of worker))) (λ step. kind ≡ kind_of step)

-- the worker may make this step
abbrev pub IsStepOf : Worker → Step → Type 0
IsStepOf Worker.Serve step = (kind_of step ≡ StepKind.Serve) ⊎ (kind_of step ≡ StepKind.PushUrgent)
IsStepOf Worker.Push step = kind_of step ≡ StepKind.Push
IsStepOf worker step = Contains (steps_of worker) step

-- the ticket of a push
abbrev pub ticket_of : Step → Option Ticket
ticket_of (Step.Push ticket) = Some ticket
ticket_of (Step.PushUrgent ticket) = Some ticket
ticket_of step = None

-- whether a step of this kind is a push
abbrev pub is_push : StepKind → Bool
is_push StepKind.Push = true
is_push StepKind.PushUrgent = true
is_push kind = false

-- whether a push that is refused so may be accepted later in its epoch
abbrev pub may_succeed : Refusal → Bool
may_succeed Refusal.NoMemory = true
may_succeed Refusal.Broken = true
may_succeed Refusal.Phase = true
may_succeed refusal = false

-- the ticket that a worker must push again after a step
abbrev pub due_after : Step → Outcome → Option Ticket
due_after step (Ok effect) = None
due_after step (Err refusal) = if may_succeed refusal then ticket_of step else None

-- whether an outcome says that the epoch of the claims is over
abbrev pub is_stale : Outcome → Bool
is_stale (Err Refusal.StaleEpoch) = true
is_stale outcome = false
