-- What a store of events keeps, and the events that it is.
use Rattle.std.specs.Prelude.{◌≡◌, ℕ, ◌+◌, ◌<◌, ◌≤◌, zero, suc, Bool, false, if◌then◌else◌, Option, Some, None, List, [], ◌∷◌, ◌++◌, drop, get_or, length, map, take}
use Rattle.std.specs.List.{All}
use Rattle.uffd_log.specs.declared.call.Call.TheVariants as call
use Rattle.uffd_log.specs.declared.call.Message.{Message}
use Rattle.uffd_log.specs.declared.line.Answer.TheVariants as answer
use Rattle.kernel_rules.specs.declared.run.Made.{Made}
use Rattle.kernel_rules.specs.declared.run.Run.{Run}
use Rattle.kernel_rules.specs.Runs.{Event, begins, ends, made_at}
use Rattle.log_entries.specs.declared.slot.Slot.{Slot}
use Rattle.log_entries.specs.declared.slot.Slot.TheVariants as slot
use Rattle.log_entries.specs.declared.tables.Span.{Span}
use Rattle.log_entries.specs.declared.tables.Tables.{Tables}
use Rattle.log_entries.specs.Events.{is_map_call}
use Rattle.log_entries.specs.Shapes.{made_with}

-- The events of slots

-- a part of a list
abbrev pub part_of : {X : Type 0} → Span → List X → List X
part_of span items = take span.count (drop span.first items)

-- the part lies in the list
abbrev pub IsPart : {X : Type 0} → Span → List X → Type 0
IsPart span items = span.first + span.count ≤ length items

-- the call of a slot whose shape is in no table
abbrev pub no_shape : Made
no_shape = record { key = 0; space = 0; thread = 0; program = 0; call = call.Fork; last = false }

-- the event of a slot
abbrev pub event_in : Tables → Slot → Event
event_in tables (slot.Begins key shape to from) = begins (made_with (get_or tables.shapes.items shape no_shape) key to from)
event_in tables (slot.Ends key a messages runs) =
    ends key (record { answer = get_or tables.answers.items a answer.Done; messages = part_of messages tables.messages.items; runs = part_of runs tables.runs.items })

-- the tables have what a slot names
abbrev pub IsIn : Tables → Slot → Type 0
IsIn tables (slot.Begins key shape to from) = shape < length tables.shapes.items
IsIn tables (slot.Ends key a messages runs) = (a < length tables.answers.items) × IsPart messages tables.messages.items × IsPart runs tables.runs.items

-- the events of a store
abbrev pub events_in : Tables → List Slot → List Event
events_in tables slots = map (event_in tables) slots

-- the tables have what each slot names
abbrev pub AreIn : Tables → List Slot → Type 0
AreIn tables slots = All (IsIn tables) slots

-- the second list is the first, with more at its end
abbrev pub IsLonger : {X : Type 0} → List X → List X → Type 0
IsLonger {X} old new = (more : List X) × (new ≡ old ++ more)

-- the tables have what they had, and more
pub record IsGrown (old new : Tables) : Type 0 where
  pub shapes : IsLonger old.shapes.items new.shapes.items
  pub answers : IsLonger old.answers.items new.answers.items
  pub messages : IsLonger old.messages.items new.messages.items
  pub runs : IsLonger old.runs.items new.runs.items

-- What an event says

-- the call that begins in an event, if there is one
abbrev pub made_in : Option Event → Option Made
made_in None = None
made_in (Some event) = made_at event

-- the messages that a call has read which ends in an event
abbrev pub messages_at : Option Event → List Message
messages_at None = []
messages_at (Some (begins made)) = []
messages_at (Some (ends key out)) = out.messages

-- the runs of pages that a call has found which ends in an event
abbrev pub runs_at : Option Event → List Run
runs_at None = []
runs_at (Some (begins made)) = []
runs_at (Some (ends key out)) = out.runs

-- What no line says

-- a call with the address space that it changes, if it is a map call, and whether it closes the last descriptor of its object
abbrev pub settled : Made → ℕ → Bool → Made
settled made space last = record made { space = (if is_map_call made.call then space else made.space); last = last }

-- the same of an event, if a call begins there
abbrev pub settled_event : Event → ℕ → Bool → Event
settled_event (begins made) space last = begins (settled made space last)
settled_event (ends key out) space last = ends key out

-- events, once this is put into one of them
abbrev pub settled_at : List Event → ℕ → ℕ → Bool → List Event
settled_at [] at space last = []
settled_at (event ∷ events) zero space last = settled_event event space last ∷ events
settled_at (event ∷ events) (suc at) space last = event ∷ settled_at events at space last
