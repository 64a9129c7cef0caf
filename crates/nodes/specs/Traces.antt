-- The trace of a node of its own: the steps that it has made, as lines of a script with their answers.
use Rattle.std.specs.Prelude.{◌≡◌, ℕ, ◌^◌, ◌-◌, ◌<◌, true, if◌then◌else◌, Option, Some, None, Ok, List, [], ◌∷◌, ◌++◌, length, map, codes, refl}
use Rattle.std.specs.Option.{IsSome}
use Rattle.std.specs.VecDeque.{deque_capacity, deque_len}
use Rattle.std.specs.Coded.{Coded, code_by, coded×, coded_list, coded_option}
use Rattle.mig_base.specs.declared.command.Command.{Command}
use Rattle.mig_base.specs.declared.command.Reply.{Reply}
use Rattle.mig_base.specs.declared.effect.Effect.{Effect}
use Rattle.mig_base.specs.declared.schedule.Side.{Side}
use Rattle.mig_base.specs.declared.schedule.Step.{Step}
use Rattle.mig_model.specs.NodeSteps.{first_of, rest_of}
use Rattle.mig_model.specs.SourceSteps.{run_bound}
use Rattle.grammar.specs.Orders.{order_of}
use Rattle.grammar.specs.Printed.{outcome_line}
use Rattle.grammar.specs.Texts.{order_text}
use Rattle.nodes.specs.contracts.trace.TraceLine as line
use Rattle.nodes.specs.declared.steps.DestinationStep.{DestinationStep}
use Rattle.nodes.specs.declared.steps.SourceStep.{SourceStep}
use Rattle.nodes.specs.declared.trace.Kept.{Kept}
use Rattle.nodes.specs.declared.trace.Lines.{Lines}
use Rattle.nodes.specs.declared.trace.TraceLine.{TraceLine}

-- The steps of a world that the calls of a node make

-- the step of a call of the source; a run has 1 to MAX_RUN pages, as in the step itself
abbrev pub source_step : SourceStep → Step
source_step (SourceStep.Issue cpu command) = Step.Issue cpu command
source_step (SourceStep.Retry cpu) = Step.Retry cpu
source_step SourceStep.Start = Step.Start
source_step SourceStep.Round = Step.Round
source_step SourceStep.Send = Step.Send
source_step (SourceStep.RunSent most) = Step.SendRun (run_bound most)
source_step SourceStep.Read = Step.SourceRead
source_step SourceStep.Act = Step.SourceAct
source_step SourceStep.Switch = Step.Switch
source_step (SourceStep.Push ticket) = Step.Push ticket
source_step (SourceStep.PushUrgent ticket) = Step.PushUrgent ticket
source_step SourceStep.Serve = Step.Serve
source_step SourceStep.End = Step.End
source_step SourceStep.Notice = Step.Notice Side.Source
source_step SourceStep.Resume = Step.Resume

-- the step of a call of the destination
abbrev pub destination_step : DestinationStep → Step
destination_step (DestinationStep.Issue cpu command) = Step.Issue cpu command
destination_step (DestinationStep.Retry cpu) = Step.Retry cpu
destination_step DestinationStep.Read = Step.DestRead
destination_step DestinationStep.Act = Step.DestAct
destination_step DestinationStep.Install = Step.Install
destination_step DestinationStep.Notice = Step.Notice Side.Destination

-- all bytes that the first frame on a wire still lacks: a node is handed whole frames
abbrev pub whole_frame : ℕ
whole_frame = 2 ^ 64 - 1

-- Lines

-- the line of a step that was made: its order, an arrow, and what a run prints for its effect
unfoldable pub line_text : TraceLine → List ℕ
line_text line = order_text (order_of line.step) ++ (codes " => " ++ outcome_line (Ok line.effect))

-- A node with its trace

-- the lines of a trace that wait to be taken, the oldest first; None without a trace
abbrev pub Trace : Type 0
Trace = Option (List TraceLine)

-- bridges the form in which a line is kept to the line
abbrev pub line_of : Kept → TraceLine
line_of (Kept.Pushed ticket addr) = record { step = Step.Push ticket; effect = Effect.SentZero addr }
line_of (Kept.PushedUrgent ticket addr) = record { step = Step.PushUrgent ticket; effect = Effect.SentZero addr }
line_of (Kept.Took n addr) = record { step = Step.Deliver n; effect = Effect.TookZero addr }
line_of (Kept.TookUrgent n addr) = record { step = Step.DeliverUrgent n; effect = Effect.TookZero addr }
line_of (Kept.Installed addr origin) = record { step = Step.Install; effect = Effect.Installed addr origin }
line_of (Kept.Stored cpu width by addr value) =
    record { step = Step.Issue cpu (Command.Store addr width value); effect = Effect.Answered by Reply.Done }
line_of (Kept.Other place) = place.value

-- bridges the lines of the code to these
abbrev pub trace_of : Lines → Trace
trace_of lines = if lines.on then Some (map line_of lines.waiting.items) else None

-- there is room for one more line, whatever it says, if there is a trace
abbrev pub HasRoom : Lines → Type 0
HasRoom lines = lines.on ≡ true → (deque_len lines.waiting < deque_capacity lines.waiting) × IsSome lines.spare

-- a trace with one more line, if there is a trace
abbrev pub and_line : Trace → Step → Effect → Trace
and_line None step effect = None
and_line (Some lines) step effect = Some (lines ++ record { step = step; effect = effect } ∷ [])

-- a trace that is begun: it has no line yet, and one that is on already stays as it is
abbrev pub begun : Trace → Trace
begun None = Some []
begun (Some lines) = Some lines

-- the first line that waits
abbrev pub first_line : Trace → Option TraceLine
first_line None = None
first_line (Some lines) = first_of lines

-- a trace without the first of its lines
abbrev pub without_line : Trace → Trace
without_line None = None
without_line (Some lines) = Some (rest_of lines)

-- how many lines wait
abbrev pub lines_in : Trace → ℕ
lines_in None = 0
lines_in (Some lines) = length lines

-- a node, and its trace
pub record Traced (Node : Type 0) : Type 0 where
  pub node : Node
  pub trace : Trace

-- the code of a trace
abbrev pub coded_trace : Coded Trace
coded_trace = coded_option (coded_list line.the_row.coded)

-- the code of a node with its trace
abbrev pub coded_traced : {Node : Type 0} → Coded Node → Coded (Traced Node)
coded_traced {Node} code = code_by (Node × Trace) (coded× code coded_trace) (λ t. (t.node, t.trace)) (λ p. record { node = p.0; trace = p.1 }) (λ _. refl)
