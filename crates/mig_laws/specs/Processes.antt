-- Two processes as they are: each side loses its channel by itself, and the source may have opened new ones before the destination knows.
use Rattle.std.specs.Prelude.{◌≡◌, ℕ, ◌||◌, Bool, true, false, if◌then◌else◌, Ok, List, [], ◌∷◌, ◌++◌}
use Rattle.mig_base.specs.declared.schedule.Step.{Step}
use Rattle.mig_model.specs.Destination.{Destination, first_destination, is_dest_paused}
use Rattle.mig_model.specs.Source.{Source, first_source, is_under_way}
use Rattle.mig_model.specs.Wire.{Sent, sending, sending_if}
use Rattle.mig_laws.specs.Orders.{TakesFront, TakesUrgentFront, destination_may, is_alone, source_may}
use Rattle.mig_laws.specs.Sides.{Did, Line, destination_line, source_line}

-- a channel: the frames that were sent over it and not taken yet, on each wire
pub record Channel : Type 0 where
  pub forward : List Sent
  pub back : List Sent
  pub urgent : List Sent

-- a channel on which nothing is in flight
abbrev pub fresh_channel : Channel
fresh_channel = record { forward = []; back = []; urgent = [] }

-- the two nodes and their channels
pub record Processes : Type 0 where
  pub source : Source
  pub destination : Destination
  -- the channel that the destination uses, or used last, and those that the source has opened since, oldest first
  pub first : Channel
  pub later : List Channel
  -- whether the source still uses the channel that it opened last, and whether the destination still uses the first
  pub here : Bool
  pub there : Bool

-- two processes in which nothing has happened
abbrev pub first_processes : ℕ → ℕ → ℕ → Processes
first_processes cpus epoch rounds =
    record { source = first_source cpus epoch rounds; destination = first_destination cpus; first = fresh_channel; later = []; here = true; there = true }

-- the channel that the source opened last
abbrev pub last_of : Channel → List Channel → Channel
last_of first [] = first
last_of first (channel ∷ later) = last_of channel later

-- the first channel, once the last of all is another
abbrev pub put_first : Channel → List Channel → Channel → Channel
put_first first [] new = new
put_first first (channel ∷ later) new = first

-- the later channels then
abbrev pub put_later : List Channel → Channel → List Channel
put_later [] new = []
put_later (channel ∷ later) new = put_first channel later new ∷ put_later later new

-- What happens

-- an event: a line of a side; the source's Resume, with which it opens a channel; the loss of a side's channel; or the destination's change
-- to the next channel, as it takes its Resume
pub data Event : Type 0 where
  Here : (line : Line) → Event
  There : (line : Line) → Event
  Opens : Event
  LosesHere : Event
  LosesThere : Event
  Joins : Event

-- what the source has done by a line goes over its channel. While it uses that it makes no Notice; after it has lost it, it takes and sends
-- nothing
pub record GoesHere (old : Processes) (line : Line) (did : Did Source) (new : Processes) : Type 0 where
  pub may : (if old.here then source_may true false line else is_alone line) ≡ true
  pub back : List Sent
  pub takes : TakesFront line (last_of old.first old.later).back back
  pub channel : Channel
  pub puts : channel ≡ record {
    forward = sending_if old.here (last_of old.first old.later).forward did.node.epoch did.frames;
    back = back;
    urgent = sending_if old.here (last_of old.first old.later).urgent did.node.epoch did.urgent;
  }
  pub is : new ≡ record old { source = did.node; first = put_first old.first old.later channel; later = put_later old.later channel }

-- the same of the destination
pub record GoesThere (old : Processes) (line : Line) (did : Did Destination) (new : Processes) : Type 0 where
  pub may : (if old.there then destination_may true line else is_alone line) ≡ true
  pub forward : List Sent
  pub takes : TakesFront line old.first.forward forward
  pub urgent : List Sent
  pub takes_urgent : TakesUrgentFront line old.first.urgent urgent
  pub is : new ≡ record old { destination = did.node; first = record { forward = forward; back = sending_if old.there old.first.back did.node.epoch did.frames; urgent = urgent } }

-- a line of the source
abbrev pub IsHere : Processes → Line → Processes → Type 0
IsHere old line new = (did : Did Source) × (source_line old.source line ≡ Ok did) × GoesHere old line did new

-- a line of the destination
abbrev pub IsThere : Processes → Line → Processes → Type 0
IsThere old line new = (did : Did Destination) × (destination_line old.destination line ≡ Ok did) × GoesThere old line did new

-- Resume: a source that has lost its channel opens a new one, whatever the destination knows
pub record IsOpening (old new : Processes) : Type 0 where
  pub did : Did Source
  pub gives : source_line old.source (Line.Made Step.Resume) ≡ Ok did
  pub lost : old.here ≡ false
  pub is : new ≡ record old {
    source = did.node;
    later = old.later ++ record { forward = sending [] did.node.epoch did.frames; back = []; urgent = sending [] did.node.epoch did.urgent } ∷ [];
    here = true;
  }

-- the source loses its channel, in a migration that is under way
pub record IsLossHere (old new : Processes) : Type 0 where
  pub used : old.here ≡ true
  pub under_way : is_under_way old.source ≡ true
  pub is : new ≡ record old { here = false }

-- the destination loses its channel, with all that it has not taken
pub record IsLossThere (old new : Processes) : Type 0 where
  pub used : old.there ≡ true
  pub is : new ≡ record old { there = false }

-- a paused destination that has lost its channel changes to the next one
pub record IsJoining (old new : Processes) : Type 0 where
  pub lost : old.there ≡ false
  pub paused : is_dest_paused old.destination.phase ≡ true
  pub next : Channel
  pub rest : List Channel
  pub opened : old.later ≡ next ∷ rest
  pub is : new ≡ record old { first = next; later = rest; there = true }

-- an event leads from two processes to two processes
abbrev pub IsEvent : Processes → Event → Processes → Type 0
IsEvent old (Event.Here line) new = IsHere old line new
IsEvent old (Event.There line) new = IsThere old line new
IsEvent old Event.Opens new = IsOpening old new
IsEvent old Event.LosesHere new = IsLossHere old new
IsEvent old Event.LosesThere new = IsLossThere old new
IsEvent old Event.Joins new = IsJoining old new

-- events in the order in which they happened
abbrev pub AreEvents : Processes → List Event → Processes → Type 0
AreEvents old [] new = new ≡ old
AreEvents old (event ∷ events) new = (mid : Processes) × IsEvent old event mid × AreEvents mid events new

-- the log that the source keeps of an event
abbrev pub logged_here : Event → List Line
logged_here (Event.Here line) = line ∷ []
logged_here Event.Opens = Line.Made Step.Resume ∷ []
logged_here event = []

-- the log that the destination keeps of it
abbrev pub logged_there : Event → List Line
logged_there (Event.There line) = line ∷ []
logged_there event = []

-- the source's log of events
abbrev pub log_here : List Event → List Line
log_here [] = []
log_here (event ∷ events) = logged_here event ++ log_here events

-- the destination's log
abbrev pub log_there : List Event → List Line
log_there [] = []
log_there (event ∷ events) = logged_there event ++ log_there events

-- the destination has changed to the channel that the source opened last, and has not lost it after the source was released
pub record IsSettled (old : Processes) : Type 0 where
  pub joined : old.later ≡ []
  pub under_way : (old.there || is_under_way old.source) ≡ true
