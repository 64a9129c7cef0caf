-- The two sides of a migration: which node makes a step, what a node gives in a process of its own, and the lines of its log.
use Rattle.std.specs.Prelude.{not, Bool, if◌then◌else◌, Option, Some, None, Result, Ok, Err, List, [], ◌∷◌, ◌++◌}
use Rattle.mig_base.specs.declared.command.Entry.{Entry}
use Rattle.mig_base.specs.declared.effect.Effect.{Effect}
use Rattle.mig_base.specs.declared.refusal.Refusal.{Refusal}
use Rattle.mig_base.specs.declared.schedule.Side.{Side}
use Rattle.mig_base.specs.declared.schedule.Step.{Step}
use Rattle.mig_model.specs.Destination.{Destination}
use Rattle.mig_model.specs.DestinationSteps as destination
use Rattle.mig_model.specs.Guest.{Guest}
use Rattle.mig_model.specs.GuestSteps.{Tried, issue, retry}
use Rattle.mig_model.specs.NodeSteps.{Acted, Sends, in_phase}
use Rattle.mig_model.specs.Source.{Source}
use Rattle.mig_model.specs.SourceSteps as source
use Rattle.mig_model.specs.Wire.{Frame, Sent}
use Rattle.mig_laws.specs.Nodes.{map_ok}

-- Sides

-- the side that makes a command: the destination's once it has run
abbrev pub running_side : (has_run : Bool) → Side
running_side has_run = if has_run then Side.Destination else Side.Source

-- the side that makes a step, by whether the destination has run; Break is of neither. A delivery is a step of the node that takes
abbrev pub side_of : (has_run : Bool) → Step → Option Side
side_of has_run (Step.Issue cpu command) = Some (running_side has_run)
side_of has_run (Step.Retry cpu) = Some (running_side has_run)
side_of has_run (Step.Deliver n) = Some Side.Destination
side_of has_run (Step.DeliverUrgent n) = Some Side.Destination
side_of has_run Step.DestRead = Some Side.Destination
side_of has_run Step.DestAct = Some Side.Destination
side_of has_run Step.Install = Some Side.Destination
side_of has_run (Step.Notice side) = Some side
side_of has_run Step.Break = None
side_of has_run step = Some Side.Source

-- What a node does by itself

-- what an accepted line of a node gives: its effect, the frames that it puts on the main wire to the other node and on the urgent one,
-- the commands that took effect, and the node after it
pub record Did (Node : Type 0) : Type 0 where
  pub effect : Effect
  pub frames : List Frame
  pub urgent : List Frame
  pub entries : List Entry
  pub node : Node

-- of a step that sends nothing
abbrev pub acts : {Node : Type 0} → Result (Acted Node) Refusal → Result (Did Node) Refusal
acts step = map_ok (λ acted. record { effect = acted.effect; frames = []; urgent = []; entries = []; node = acted.node }) step

-- of a step that sends on the main wire
abbrev pub sends : {Node : Type 0} → Result (Sends Node) Refusal → Result (Did Node) Refusal
sends step = map_ok (λ sent. record { effect = sent.effect; frames = sent.frames; urgent = []; entries = []; node = sent.node }) step

-- of a step that sends on the urgent wire
abbrev pub sends_urgently : {Node : Type 0} → Result (Sends Node) Refusal → Result (Did Node) Refusal
sends_urgently step = map_ok (λ sent. record { effect = sent.effect; frames = []; urgent = sent.frames; entries = []; node = sent.node }) step

-- of a command of a processor; `with_guest` is the node with another guest
abbrev pub tries : {Node : Type 0} → (with_guest : Guest → Node) → Result Tried Refusal → Result (Did Node) Refusal
tries with_guest step =
    map_ok (λ tried. record { effect = tried.effect; frames = []; urgent = []; entries = tried.entries; node = with_guest tried.guest }) step

-- what a step gives that the source makes by itself: no step of the destination, and no delivery
abbrev pub source_step : Source → Step → Result (Did Source) Refusal
source_step node (Step.Issue cpu command) = tries (λ guest. record node { guest = guest }) (issue node.guest (not node.switched) cpu command)
source_step node (Step.Retry cpu) = tries (λ guest. record node { guest = guest }) (retry node.guest (not node.switched) cpu)
source_step node Step.Start = sends (source.start node)
source_step node Step.Round = acts (source.round node)
source_step node Step.Send = sends (source.send node)
source_step node (Step.SendRun count) = sends (source.send_run node count)
source_step node Step.SourceRead = acts (source.read node)
source_step node Step.SourceAct = acts (source.act node)
source_step node Step.Switch = sends (source.switch node)
source_step node (Step.Push ticket) = sends (source.push node ticket)
source_step node (Step.PushUrgent ticket) = sends_urgently (source.push_urgent node ticket)
source_step node Step.Serve = acts (source.serve node)
source_step node Step.End = sends (source.end node)
source_step node (Step.Notice Side.Source) = acts (source.pause node)
source_step node Step.Resume = sends (source.resume node)
source_step node step = Err Refusal.Phase

-- what a step gives that the destination makes by itself: no step of the source, and no delivery
abbrev pub destination_step : Destination → Step → Result (Did Destination) Refusal
destination_step node (Step.Issue cpu command) = tries (λ guest. record node { guest = guest }) (issue node.guest node.has_run cpu command)
destination_step node (Step.Retry cpu) = tries (λ guest. record node { guest = guest }) (retry node.guest node.has_run cpu)
destination_step node Step.DestRead = acts (destination.read node)
destination_step node Step.DestAct = sends (destination.act node)
destination_step node Step.Install = acts (destination.install node)
destination_step node (Step.Notice Side.Destination) = acts (destination.pause node)
destination_step node step = Err Refusal.Phase

-- Logs

-- a line of a log. A log has the steps that were accepted and the frames that were taken, in order, and nothing that was refused
pub data Line : Type 0 where
  -- the node made a step by itself
  Made : (step : Step) → Line
  -- it took a frame of the main wire to it: the source of the wire back, the destination of the forward wire
  Took : (sent : Sent) → Line
  -- the destination took a frame of the urgent wire
  TookUrgent : (sent : Sent) → Line

-- what a line gives at the source
abbrev pub source_line : Source → Line → Result (Did Source) Refusal
source_line node (Line.Made step) = source_step node step
source_line node (Line.Took sent) = sends (source.take node sent.frame)
source_line node (Line.TookUrgent sent) = Err Refusal.Phase

-- what a line gives at the destination: it takes no urgent frame before it has run
abbrev pub destination_line : Destination → Line → Result (Did Destination) Refusal
destination_line node (Line.Made step) = destination_step node step
destination_line node (Line.Took sent) = sends (destination.take node sent.epoch sent.frame)
destination_line node (Line.TookUrgent sent) = in_phase node.has_run (acts (destination.take_urgent node sent.frame))

-- What a log leaves: lines in turn, of which none is refused

-- the node after one line
abbrev pub node_by : {Node : Type 0} → Node → Result (Did Node) Refusal → Node
node_by node (Ok did) = did.node
node_by node (Err refusal) = node

-- the commands that took effect in it
abbrev pub entries_by : {Node : Type 0} → Result (Did Node) Refusal → List Entry
entries_by (Ok did) = did.entries
entries_by (Err refusal) = []

-- the source after its log
abbrev pub source_after : Source → List Line → Source
source_after node [] = node
source_after node (line ∷ lines) = source_after (node_by node (source_line node line)) lines

-- the commands in its log that took effect
abbrev pub source_entries : Source → List Line → List Entry
source_entries node [] = []
source_entries node (line ∷ lines) = entries_by (source_line node line) ++ source_entries (node_by node (source_line node line)) lines

-- the destination after its log
abbrev pub destination_after : Destination → List Line → Destination
destination_after node [] = node
destination_after node (line ∷ lines) = destination_after (node_by node (destination_line node line)) lines

-- the commands in its log that took effect
abbrev pub destination_entries : Destination → List Line → List Entry
destination_entries node [] = []
destination_entries node (line ∷ lines) = entries_by (destination_line node line) ++ destination_entries (node_by node (destination_line node line)) lines
