-- Two processes: the two nodes with what is in flight between them, the orders in which the lines of their logs may have happened, and
-- the logs of the two sides of a world.
use Rattle.std.specs.Prelude.{◌≡◌, ℕ, ◌||◌, ◌&&◌, not, Bool, true, false, if◌then◌else◌, Option, Some, Result, Ok, Err, List, [], ◌∷◌, ◌++◌}
use Rattle.mig_base.specs.declared.command.Entry.{Entry}
use Rattle.mig_base.specs.declared.effect.Effect.{Effect}
use Rattle.mig_base.specs.declared.refusal.Refusal.{Refusal}
use Rattle.mig_base.specs.declared.schedule.Side.{Side}
use Rattle.mig_base.specs.declared.schedule.Step.{Step}
use Rattle.mig_model.specs.Destination.{Destination, first_destination, is_dest_paused}
use Rattle.mig_model.specs.Lengths.{text_len}
use Rattle.mig_model.specs.Migration.{World, is_short, next, outcome}
use Rattle.mig_model.specs.Source.{Source, first_source, is_under_way}
use Rattle.mig_model.specs.Wire.{Sent, Wire, sending, sending_if, wire_behind}
use Rattle.mig_laws.specs.Sides.{Did, Line, destination_line, side_of, source_line}

-- Two processes

-- the two nodes; the frames that were sent over the channel and not taken yet, on each wire; whether the channel carries frames; and the
-- commands that took effect at each node
pub record Pair : Type 0 where
  pub source : Source
  pub destination : Destination
  pub forward : List Sent
  pub back : List Sent
  pub urgent : List Sent
  pub up : Bool
  pub at_source : List Entry
  pub at_destination : List Entry

-- two nodes of `cpus` processors to which nothing has happened; the source's epoch and number of rounds are those given
abbrev pub first_pair : ℕ → ℕ → ℕ → Pair
first_pair cpus epoch rounds =
    record { source = first_source cpus epoch rounds; destination = first_destination cpus; forward = []; back = []; urgent = []; up = true; at_source = []; at_destination = [] }

-- the world of two processes: no part of a frame has been delivered, and the destination's commands come after the source's
abbrev pub world_of : Pair → World
world_of pair =
    record {
      source = pair.source;
      destination = pair.destination;
      forward = wire_behind pair.forward;
      back = wire_behind pair.back;
      urgent = wire_behind pair.urgent;
      up = pair.up;
      transcript = pair.at_source ++ pair.at_destination;
    }

-- Where a line may come

-- the steps with which the source uses the channel; it makes none of them once it has noticed that the channel is lost
abbrev pub needs_link : Step → Bool
needs_link Step.Send = true
needs_link (Step.SendRun count) = true
needs_link Step.Switch = true
needs_link (Step.Push ticket) = true
needs_link (Step.PushUrgent ticket) = true
needs_link Step.Serve = true
needs_link Step.End = true
needs_link step = false

-- whether a line may come there at the source, by whether the channel carries frames and the destination is paused: it uses the channel
-- while the channel carries frames, notices a loss after it, and resumes once the destination has noticed it as well
abbrev pub source_may : (up paused : Bool) → Line → Bool
source_may up paused (Line.Made (Step.Notice side)) = not up
source_may up paused (Line.Made Step.Resume) = not up && paused
source_may up paused (Line.Made step) = up || not (needs_link step)
source_may up paused line = up

-- the same at the destination
abbrev pub destination_may : (up : Bool) → Line → Bool
destination_may up (Line.Made (Step.Notice side)) = not up
destination_may up (Line.Made step) = true
destination_may up line = up

-- whether a line is the source's Resume, after which a new channel carries frames
abbrev pub is_resume : Line → Bool
is_resume (Line.Made Step.Resume) = true
is_resume line = false

-- Fronts: a line that takes a frame takes the first of those in flight on its wire, and leaves the rest; any other line leaves them all
abbrev pub TakesFront : Line → List Sent → List Sent → Type 0
TakesFront (Line.Took sent) flight rest = flight ≡ sent ∷ rest
TakesFront line flight rest = rest ≡ flight

-- the same of the urgent wire
abbrev pub TakesUrgentFront : Line → List Sent → List Sent → Type 0
TakesUrgentFront (Line.TookUrgent sent) flight rest = flight ≡ sent ∷ rest
TakesUrgentFront line flight rest = rest ≡ flight

-- a line of the source leads from one pair to the other: the source gives this by itself, and the frames that it sends are in flight
pub record IsSourceTurn (old : Pair) (line : Line) (did : Did Source) (new : Pair) : Type 0 where
  pub gives : source_line old.source line ≡ Ok did
  pub may : source_may old.up (is_dest_paused old.destination.phase) line ≡ true
  pub back : List Sent
  pub takes : TakesFront line old.back back
  pub is : new ≡ record old {
    source = did.node;
    forward = sending old.forward did.node.epoch did.frames;
    urgent = sending old.urgent did.node.epoch did.urgent;
    back = back;
    up = is_resume line || old.up;
    at_source = old.at_source ++ did.entries;
  }

-- a line of the destination leads from one pair to the other. What it sends while the channel carries no frames is lost
pub record IsDestinationTurn (old : Pair) (line : Line) (did : Did Destination) (new : Pair) : Type 0 where
  pub gives : destination_line old.destination line ≡ Ok did
  pub may : destination_may old.up line ≡ true
  pub forward : List Sent
  pub takes : TakesFront line old.forward forward
  pub urgent : List Sent
  pub takes_urgent : TakesUrgentFront line old.urgent urgent
  pub is : new ≡ record old {
    destination = did.node;
    forward = forward;
    urgent = urgent;
    back = sending_if old.up old.back did.node.epoch did.frames;
    at_destination = old.at_destination ++ did.entries;
  }

-- a channel is lost that carried frames, and what is in flight on it: no later line takes it. A channel that closes before the migration
-- has started or after the source was released is no such change
pub record IsCut (old new : Pair) : Type 0 where
  pub was_up : old.up ≡ true
  pub under_way : is_under_way old.source ≡ true
  pub is : new ≡ record old { forward = []; back = []; urgent = []; up = false }

-- Orders

-- a turn of two processes: a line of one side, or the loss of the channel. The loss is in no log: each side's Notice follows it, wherever
-- that side noticed
pub data Turn : Type 0 where
  AtSource : (line : Line) → Turn
  AtDestination : (line : Line) → Turn
  Cut : Turn

-- the source's lines of an order
abbrev pub source_lines : List Turn → List Line
source_lines [] = []
source_lines (Turn.AtSource line ∷ turns) = line ∷ source_lines turns
source_lines (turn ∷ turns) = source_lines turns

-- the destination's lines
abbrev pub destination_lines : List Turn → List Line
destination_lines [] = []
destination_lines (Turn.AtDestination line ∷ turns) = line ∷ destination_lines turns
destination_lines (turn ∷ turns) = destination_lines turns

-- a turn leads from one pair to the other, with this effect
abbrev pub IsTurn : Pair → Turn → Effect → Pair → Type 0
IsTurn old (Turn.AtSource line) effect new = (did : Did Source) × IsSourceTurn old line did new × (effect ≡ did.effect)
IsTurn old (Turn.AtDestination line) effect new = (did : Did Destination) × IsDestinationTurn old line did new × (effect ≡ did.effect)
IsTurn old Turn.Cut effect new = IsCut old new × (effect ≡ Effect.Broken)

-- the lines of two logs in an order in which they may have happened, with their effects and the pair to which they lead: each frame was
-- sent before it was taken
abbrev pub AreTurns : Pair → List Turn → List Effect → Pair → Type 0
AreTurns old [] [] new = new ≡ old
AreTurns old (turn ∷ turns) (effect ∷ effects) new = (mid : Pair) × IsTurn old turn effect mid × AreTurns mid turns effects new
AreTurns old [] (effect ∷ effects) new = ⊥
AreTurns old (turn ∷ turns) [] new = ⊥

-- Lines that need no channel: a side's notice, and what it does by itself after a loss
abbrev pub is_alone : Line → Bool
is_alone (Line.Made Step.Start) = false
is_alone (Line.Made Step.Resume) = false
is_alone (Line.Made step) = not (needs_link step)
is_alone line = false

-- the step of a world that a turn is: a frame is taken by a delivery of all its bytes
abbrev pub step_of : Turn → Step
step_of (Turn.AtSource (Line.Made step)) = step
step_of (Turn.AtSource (Line.Took sent)) = Step.DeliverBack (text_len sent.frame)
step_of (Turn.AtSource (Line.TookUrgent sent)) = Step.DeliverUrgent (text_len sent.frame)
step_of (Turn.AtDestination (Line.Made step)) = step
step_of (Turn.AtDestination (Line.Took sent)) = Step.Deliver (text_len sent.frame)
step_of (Turn.AtDestination (Line.TookUrgent sent)) = Step.DeliverUrgent (text_len sent.frame)
step_of Turn.Cut = Step.Break

-- The sides of a world

-- the line of a delivery of `n` bytes: none if they complete no frame
abbrev pub taken_line : (Sent → Line) → Wire → List Sent → ℕ → List Line
taken_line line wire [] n = []
taken_line line wire (sent ∷ rest) n = if is_short wire sent.frame n then [] else line sent ∷ []

-- the line that an accepted step adds to the log of the node that makes it
abbrev pub line_of : World → Step → List Line
line_of world (Step.Deliver n) = taken_line (λ sent. Line.Took sent) world.forward world.forward.frames n
line_of world (Step.DeliverBack n) = taken_line (λ sent. Line.Took sent) world.back world.back.frames n
line_of world (Step.DeliverUrgent n) = taken_line (λ sent. Line.TookUrgent sent) world.urgent world.urgent.frames n
line_of world step = Line.Made step ∷ []

-- whether a side is the one that makes a step
abbrev pub makes : Side → Option Side → Bool
makes Side.Source (Some Side.Source) = true
makes Side.Destination (Some Side.Destination) = true
makes side other = false

-- what a step adds to the log of a side, if it is accepted and that side makes it
abbrev pub logged : Side → World → Step → Result Effect Refusal → List Line
logged side world step (Ok effect) = if makes side (side_of world.destination.has_run step) then line_of world step else []
logged side world step (Err refusal) = []

-- the log that a side of a world keeps of steps that are made in turn
abbrev pub log_of : Side → World → List Step → List Line
log_of side world [] = []
log_of side world (step ∷ steps) = logged side world step (outcome world step) ++ log_of side (next world step) steps

-- whether a delivery of `n` bytes completes the first frame of its wire, if there is one
abbrev pub completes : Wire → List Sent → ℕ → Bool
completes wire [] n = true
completes wire (sent ∷ rest) n = not (is_short wire sent.frame n)

-- whether a step, if it is a delivery, moves whole frames alone
abbrev pub is_whole : World → Step → Bool
is_whole world (Step.Deliver n) = completes world.forward world.forward.frames n
is_whole world (Step.DeliverBack n) = completes world.back world.back.frames n
is_whole world (Step.DeliverUrgent n) = completes world.urgent world.urgent.frames n
is_whole world step = true

-- none of the steps, made in turn, is a delivery of a part of a frame
abbrev pub AreWhole : World → List Step → Type 0
AreWhole world [] = Unit {0}
AreWhole world (step ∷ steps) = (is_whole world step ≡ true) × AreWhole (next world step) steps
