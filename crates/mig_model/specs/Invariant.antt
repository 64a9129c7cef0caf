-- The induction: what every world keeps, in clauses that each step keeps together. To believe the promises nobody has to read this file:
-- their words are in Promises.antt and Whereabouts.antt.
use Rattle.std.specs.Prelude.{◌≡◌, ◌≢◌, ℕ, ◌+◌, ◌/◌, ◌%◌, ◌<◌, ◌≤◌, ◌==◌, ◌&&◌, ◌||◌, ◌⊎◌, Bool, true, false, if◌then◌else◌, Option, Some, None, List, [], ◌∷◌, length}
use Rattle.std.specs.Option.{option_and_then}
use Rattle.std.specs.Ordering.{nat_cmp}
use Rattle.std.specs.FinMap as finmap
use Rattle.std.specs.FinMap.{FinMap, get, contains_key}
use Rattle.std.specs.FinSet.{FinSet, contains}
use Rattle.mig_base.specs.declared.phase.DestPhase.{DestPhase}
use Rattle.mig_base.specs.declared.phase.Received.{Received}
use Rattle.mig_base.specs.declared.phase.SourcePhase.{SourcePhase}
use Rattle.mig_base.specs.declared.command.Entry.{Entry}
use Rattle.foundation.specs.declared.TheConstants.{PAGE_SIZE}
use Rattle.mig_base.specs.declared.TheConstants.{HIGH_PAGE}
use Rattle.mig_base.specs.declared.message.Message.{Message}
use Rattle.mig_base.specs.declared.message.Message.TheVariants.{PageFault, Remap, Remove, Unmap}
use Rattle.foundation.specs.Tests.{is_empty}
use Rattle.mig_base.specs.Flat.{IsFlatRun, memory_of}
use Rattle.mig_model.specs.Host.{Host, memory}
use Rattle.mig_base.specs.Userfault.{Noted}
use Rattle.mig_model.specs.Space.{Space, fresh_space, IsSoundSpace}
use Rattle.mig_model.specs.Lengths.{text_len}
use Rattle.mig_model.specs.Wire.{Wire, Frame, Sent, Copy, is_copy}
use Rattle.mig_model.specs.Wire.Frame.{Advise, Page, Zero, Run, Discard, Package, End, Resume, Recv, Done}
use Rattle.mig_model.specs.Migration.{World}
use Rattle.mig_model.specs.Guest.{is_present}
use Rattle.mig_model.specs.Log.{no_pages}
use Rattle.mig_model.specs.Owed.{Owed, settled_by}
use Rattle.mig_model.specs.Source.{Source, is_stopped, space_of}
use Rattle.mig_model.specs.Promises.{AreFaults}
use Rattle.mig_model.specs.Whereabouts.{AreFaithful, IsPrecopying, IsReceiving, IsSwitching, are_requests, copies_of, current_by, has_copy, is_request, is_unread, is_urgent_or_left}
use Rattle.mig_model.specs.Destination.{Destination, settled}

-- Unread events

-- whether an event is of whole pages, and a move between ranges that lie apart, to one that lies in the address space
abbrev pub IsWholeEvent : Message → Type 0
IsWholeEvent (Remap from to len) =
    (from % PAGE_SIZE ≡ 0) × (to % PAGE_SIZE ≡ 0) × (len % PAGE_SIZE ≡ 0) × (to / PAGE_SIZE + len / PAGE_SIZE ≤ HIGH_PAGE)
    × ((from / PAGE_SIZE + len / PAGE_SIZE ≤ to / PAGE_SIZE) ⊎ (to / PAGE_SIZE + len / PAGE_SIZE ≤ from / PAGE_SIZE))
IsWholeEvent (Remove start end) = (start % PAGE_SIZE ≡ 0) × (end % PAGE_SIZE ≡ 0)
IsWholeEvent (Unmap start end) = (start % PAGE_SIZE ≡ 0) × (end % PAGE_SIZE ≡ 0)
IsWholeEvent (PageFault addr write wp tid) = ⊥

-- each of these unread events is such an event
abbrev pub AreWholeEvents : List Noted → Type 0
AreWholeEvents [] = Unit {0}
AreWholeEvents (noted ∷ events) = IsWholeEvent noted.message × AreWholeEvents events

-- What is in flight

-- the place of a wire to the destination in the order of its frames: Advise, copies, Discard, Package, copies, End
pub data Flow : Type 0 where
  BeforeAdvise : Flow
  Copies : Flow
  BeforePackage : Flow
  Pushed : Flow
  AfterEnd : Flow

-- the place after one more frame, if that frame may come there
abbrev pub flow_next : Flow → Frame → Option Flow
flow_next BeforeAdvise Advise = Some Copies
flow_next Copies (Page page bytes) = Some Copies
flow_next Copies (Zero page) = Some Copies
flow_next Copies (Run first pages) = Some Copies
flow_next Copies (Discard pages) = Some BeforePackage
flow_next BeforePackage (Package areas owed commands) = Some Pushed
flow_next Pushed (Page page bytes) = Some Pushed
flow_next Pushed (Zero page) = Some Pushed
flow_next Pushed (End urgent) = Some AfterEnd
flow_next flow frame = None

-- the place after the frames of a wire, if they come in this order
abbrev pub flow_after : Flow → List Sent → Option Flow
flow_after flow [] = Some flow
flow_after flow (sent ∷ rest) = option_and_then (λ next. flow_after next rest) (flow_next flow sent.frame)

-- each copy is a whole page
abbrev pub AreWhole : List Copy → Type 0
AreWhole [] = Unit {0}
AreWhole (copy ∷ copies) = (length copy.bytes ≡ PAGE_SIZE) × AreWhole copies

-- each frame was sent in this epoch
abbrev pub AreOf : ℕ → List Sent → Type 0
AreOf epoch [] = Unit {0}
AreOf epoch (sent ∷ rest) = (sent.epoch ≡ epoch) × AreOf epoch rest

-- whether a frame is Done
abbrev pub is_done : Frame → Bool
is_done Done = true
is_done frame = false

-- whether frames are any number of requests with one Done after them, as the last
abbrev pub are_requests_and_done : List Sent → Bool
are_requests_and_done [] = false
are_requests_and_done (sent ∷ rest) = is_request sent.frame && are_requests_and_done rest || is_done sent.frame && is_empty rest

-- What is in flight in each pair of phases, while the link is up

-- the place at the end of the wire, once Switch was made: after End if End was sent in this epoch
abbrev pub flow_of : Source → Flow
flow_of source = if source.end_epoch == source.epoch then AfterEnd else Pushed

-- what holds of owed pages while the destination runs and the source is stopped
pub record IsFlowing (source : Source) (destination : Destination) (forward urgent : List Sent) : Type 0 where
  -- each owed page is to be pushed, in flight on either wire, or arrived
  pub whereabouts : (page origin : ℕ) → get destination.owed page ≡ Some origin → (is_urgent_or_left source.remaining urgent origin || has_copy (copies_of forward) origin || has_copy destination.arrivals origin) ≡ true

-- the wires of a stopped source, by the phase of the destination
abbrev pub StoppedWires : Source → Destination → (forward back urgent : List Sent) → Type 0
StoppedWires source destination forward back urgent = elim destination.phase [
  | DestPhase.Idle ↦ (flow_after BeforeAdvise forward ≡ Some (flow_of source)) × (back ≡ []) × IsSwitching source destination.kept forward urgent
  | DestPhase.Advised ↦ (flow_after Copies forward ≡ Some (flow_of source)) × (back ≡ []) × IsSwitching source destination.kept forward urgent
  | DestPhase.Discarding ↦ (flow_after BeforePackage forward ≡ Some (flow_of source)) × (back ≡ []) × IsSwitching source destination.kept forward urgent
  | DestPhase.Running ↦ (flow_after Pushed forward ≡ Some (flow_of source)) × (are_requests back ≡ true) × IsFlowing source destination forward urgent
  | DestPhase.Paused ↦ ⊥
  | DestPhase.Ended ↦ (forward ≡ []) × (are_requests_and_done back ≡ true) × (source.end_epoch ≡ source.epoch)
]

-- the wires of a paused source
abbrev pub PausedWires : Source → Destination → List Sent → List Sent → Type 0
PausedWires source destination forward back = elim destination.phase [
  | DestPhase.Idle ↦ ⊥
  | DestPhase.Advised ↦ (forward ≡ []) × (back ≡ record { epoch = source.epoch; frame = Recv Received.NotRun no_pages } ∷ []) × (destination.kept ≡ finmap.empty) × (destination.has_run ≡ false)
  | DestPhase.Discarding ↦ ⊥
  | DestPhase.Running ↦ (forward ≡ []) × IsReceiving source destination Received.Running back
  | DestPhase.Paused ↦ (forward ≡ record { epoch = source.epoch; frame = Resume } ∷ []) × (back ≡ [])
  | DestPhase.Ended ↦ (forward ≡ []) × IsReceiving source destination Received.Ended back
]

-- the wires of a source that makes rounds of pre-copy
abbrev pub PrecopyWires : Source → Destination → List Sent → List Sent → Type 0
PrecopyWires source destination forward back = elim destination.phase [
  | DestPhase.Idle ↦ (flow_after BeforeAdvise forward ≡ Some Copies) × (back ≡ []) × IsPrecopying source destination.kept forward
  | DestPhase.Advised ↦ (flow_after Copies forward ≡ Some Copies) × (back ≡ []) × IsPrecopying source destination.kept forward
  | DestPhase.Discarding ↦ ⊥
  | DestPhase.Running ↦ ⊥
  | DestPhase.Paused ↦ ⊥
  | DestPhase.Ended ↦ ⊥
]

-- every pair of phases that occurs while the link is up, and what is in flight then
abbrev pub Wires : Source → Destination → (forward back urgent : List Sent) → Type 0
Wires source destination forward back urgent = elim source.phase [
  | SourcePhase.Idle ↦ (destination.phase ≡ DestPhase.Idle) × (forward ≡ []) × (back ≡ [])
  | SourcePhase.Precopy ↦ PrecopyWires source destination forward back
  | SourcePhase.Stopped ↦ StoppedWires source destination forward back urgent
  | SourcePhase.Paused ↦ PausedWires source destination forward back
  | SourcePhase.Released ↦ (destination.phase ≡ DestPhase.Ended) × (forward ≡ []) × (back ≡ [])
]

-- Phases

-- how the phase of the source says whether Switch was made; Paused does not say it
abbrev pub SwitchedAt : SourcePhase → Bool → Type 0
SwitchedAt SourcePhase.Idle switched = switched ≡ false
SwitchedAt SourcePhase.Precopy switched = switched ≡ false
SwitchedAt SourcePhase.Stopped switched = switched ≡ true
SwitchedAt SourcePhase.Paused switched = Unit {0}
SwitchedAt SourcePhase.Released switched = switched ≡ true

-- how the phase of the destination says whether it has run, and whether it has ended; Paused does not say it
abbrev pub RanAt : DestPhase → Bool → Bool → Type 0
RanAt DestPhase.Idle ran ended = ran ≡ false
RanAt DestPhase.Advised ran ended = ran ≡ false
RanAt DestPhase.Discarding ran ended = ran ≡ false
RanAt DestPhase.Running ran ended = (ran ≡ true) × (ended ≡ false)
RanAt DestPhase.Paused ran ended = Unit {0}
RanAt DestPhase.Ended ran ended = ended ≡ true

-- the epoch of a destination while the link is up: the source's, an earlier one while it is paused, and any while it is idle
abbrev pub EpochAt : DestPhase → ℕ → ℕ → Type 0
EpochAt DestPhase.Idle epoch source_epoch = Unit {0}
EpochAt DestPhase.Advised epoch source_epoch = epoch ≡ source_epoch
EpochAt DestPhase.Discarding epoch source_epoch = epoch ≡ source_epoch
EpochAt DestPhase.Running epoch source_epoch = epoch ≡ source_epoch
EpochAt DestPhase.Paused epoch source_epoch = epoch < source_epoch
EpochAt DestPhase.Ended epoch source_epoch = epoch ≡ source_epoch

-- The invariant

-- the transcript is a flat run, and what the guest sees is its last memory
pub record HoldsMemory (here there : Host) (owed : ℕ → Option ℕ) (has_run : Bool) (transcript : List Entry) : Type 0 where
  pub flat : IsFlatRun transcript
  pub holds : memory (current_by has_run here there owed) ≡ memory_of transcript

-- the spaces of both nodes are in order
pub record AreSoundSpaces (source destination : Space) : Type 0 where
  pub source_space : IsSoundSpace source
  pub destination_space : IsSoundSpace destination
  -- a page of the source is registered in both modes or in none; at the destination none is write-protected
  pub both_modes : (page : ℕ) → contains source.object.missing page ≡ contains source.object.protect page
  pub unprotected : (page : ℕ) → contains destination.protected page ≡ false
  pub only_missing : (page : ℕ) → contains destination.object.protect page ≡ false
  -- unread events are of whole pages, and moves are between ranges that lie apart
  pub source_events : AreWholeEvents source.object.events
  pub destination_events : AreWholeEvents destination.object.events
  -- the queue of page faults holds page faults alone: an event that was read from it would change the owed table before its turn
  pub destination_faults : AreFaults destination.object.faults

-- the phases of both nodes agree with whether Switch was made, and whether the destination has run and ended
pub record AreSoundPhases (from : SourcePhase) (switched : Bool) (to : DestPhase) (has_run ended : Bool) (events : List Noted) : Type 0 where
  pub source_phase : SwitchedAt from switched
  pub destination_phase : RanAt to has_run ended
  pub ran_after_switch : has_run ≡ true → switched ≡ true
  pub ended_after_run : ended ≡ true → has_run ≡ true
  -- a source that has stopped has no unread event
  pub source_quiet : switched ≡ true → events ≡ []

-- what the log says of the pages of a source that has not stopped
pub record IsSoundLog (from : SourcePhase) (switched : Bool) (space : Space) (clean todo sent : FinSet nat_cmp) : Type 0 where
  -- a source that has not started watches nothing and has sent nothing
  pub idle_source : from ≡ SourcePhase.Idle → (clean ≡ no_pages) × (todo ≡ no_pages) × (sent ≡ no_pages) × (space.object.events ≡ []) × ((page : ℕ) → contains space.object.missing page ≡ false)
  -- a clean page is present, registered and protected, and a page to be sent is present and registered, unless an unread event has
  -- changed it
  pub clean_protected : switched ≡ false → (page : ℕ) → contains clean page ≡ true → is_unread space.object.events page ≡ false → contains space.protected page ≡ true
  pub todo_sendable : switched ≡ false → (page : ℕ) → contains todo page ≡ true → is_unread space.object.events page ≡ false → (is_present space page ≡ true) × (contains space.object.protect page ≡ true)

-- what remains to be pushed, and whether End was sent: `end_epoch` is the epoch in which it was sent last
pub record IsSoundPushing (from : SourcePhase) (switched up : Bool) (epoch end_epoch : ℕ) (space : Space) (remaining : FinSet nat_cmp) : Type 0 where
  -- before Switch nothing remains, and End was not sent
  pub before_switch : switched ≡ false → (remaining ≡ no_pages) × (end_epoch ≢ epoch ⊎ (from ≡ SourcePhase.Idle))
  -- once End is sent nothing remains
  pub end_sent : end_epoch ≡ epoch → remaining ≡ no_pages
  -- what remains is present
  pub remaining_present : (page : ℕ) → contains remaining page ≡ true → is_present space page ≡ true
  pub ended_before : end_epoch ≤ epoch
  -- after a resumption End is not sent again before the source knows what the destination needs
  pub paused_fresh : up ≡ true → from ≡ SourcePhase.Paused → end_epoch ≢ epoch
  -- a released source holds nothing
  pub released_empty : from ≡ SourcePhase.Released → (space ≡ fresh_space) × (remaining ≡ no_pages)

-- only a destination that was advised and has not run keeps copies, and each copy is a whole page
pub record AreSoundCopies (to : DestPhase) (has_run : Bool) (kept : FinMap nat_cmp (List ℕ)) (forward : List Sent) : Type 0 where
  pub kept_none : has_run ≡ true → kept ≡ finmap.empty
  pub kept_advised : to ≡ DestPhase.Idle → kept ≡ finmap.empty
  pub kept_whole : (page : ℕ) (bytes : List ℕ) → get kept page ≡ Some bytes → length bytes ≡ PAGE_SIZE
  pub copies_whole : AreWhole (copies_of forward)

-- the pages that are owed, and the copies that have arrived for them
pub record IsSoundOwing (bytes : FinMap nat_cmp (List ℕ)) (destination : Space) (has_run ended : Bool) (owed : Owed) (arrivals : List Copy) : Type 0 where
  -- a destination that has not run is owed nothing, and has a fresh space and no arrival
  pub not_run : has_run ≡ false → (owed ≡ finmap.empty) × (destination ≡ fresh_space) × (arrivals ≡ [])
  -- no source page is owed to two pages, and each is present at the source
  pub one_to_one : (page other origin : ℕ) → get owed page ≡ Some origin → get owed other ≡ Some origin → page ≡ other
  pub owed_below : (page origin : ℕ) → get owed page ≡ Some origin → page < HIGH_PAGE
  pub origins_present : (page origin : ℕ) → get owed page ≡ Some origin → contains_key bytes origin ≡ true
  -- each page that is still owed is mapped, registered and missing
  pub pairs_missing : (page origin : ℕ) → settled_by destination.object.events (get owed) page ≡ Some origin → (contains destination.object.missing page ≡ true) × (is_present destination page ≡ false)
  -- the copies that came have the source's bytes
  pub arrivals_faithful : has_run ≡ true → AreFaithful bytes arrivals
  -- a destination that has ended is owed nothing, and no copy waits
  pub ended_empty : ended ≡ true → (owed ≡ finmap.empty) × (arrivals ≡ [])

-- what is in flight
pub record IsSoundFlight (source : Source) (destination : Destination) (forward back urgent : List Sent) (up : Bool) : Type 0 where
  -- once the destination has run, the copies in flight have the source's bytes
  pub flight_faithful : destination.has_run ≡ true → AreFaithful (space_of source).host.bytes (copies_of forward)
  -- while the link is down nothing is in flight, and a migration has begun and is not complete
  pub down : up ≡ false → (forward ≡ []) × (back ≡ []) × (source.phase ≢ SourcePhase.Idle) × (source.phase ≢ SourcePhase.Released)
  pub wires : up ≡ true → Wires source destination forward back urgent

-- every frame in flight is of the source's epoch, and the destination's epoch is not later
pub record AreSoundEpochs (epoch : ℕ) (to : DestPhase) (dest_epoch : ℕ) (forward back : List Sent) (up : Bool) : Type 0 where
  pub forward_epoch : AreOf epoch forward
  pub back_epoch : AreOf epoch back
  pub not_ahead : dest_epoch ≤ epoch
  pub epoch_at : up ≡ true → EpochAt to dest_epoch epoch

-- the bytes of the first frame that have come do not complete it, and there are none where nothing is in flight
abbrev pub HeldFits : List Sent → ℕ → Type 0
HeldFits [] held = held ≡ 0
HeldFits (sent ∷ rest) held = held < text_len sent.frame

-- the same of the wire to the destination and the wire back
pub record AreSoundWires (forward back : Wire) : Type 0 where
  pub forward_held : HeldFits forward.frames forward.held
  pub back_held : HeldFits back.frames back.held

-- The urgent wire

-- each frame carries the copy of one page
abbrev pub are_copies : List Sent → Bool
are_copies [] = true
are_copies (sent ∷ rest) = is_copy sent.frame && are_copies rest

-- an End was sent in the source's epoch, and announces how many urgent frames were sent in that epoch
abbrev pub IsTold : (epoch end_epoch count : ℕ) → Frame → Type 0
IsTold epoch end_epoch count (End urgent) = (end_epoch ≡ epoch) × (urgent ≡ count)
IsTold epoch end_epoch count frame = Unit {0}

-- the same of each frame in flight to the destination
abbrev pub AreTold : (epoch end_epoch count : ℕ) → List Sent → Type 0
AreTold epoch end_epoch count [] = Unit {0}
AreTold epoch end_epoch count (sent ∷ rest) = IsTold epoch end_epoch count sent.frame × AreTold epoch end_epoch count rest

-- what is on the urgent wire, and how many frames were sent on it and taken from it in this epoch
pub record IsSoundUrgent (from : SourcePhase) (epoch end_epoch count : ℕ) (bytes : FinMap nat_cmp (List ℕ)) (to : DestPhase) (has_run : Bool) (taken : ℕ) (forward : List Sent) (urgent : Wire) (up : Bool) : Type 0 where
  -- copies alone, of the source's epoch, with the source's bytes
  pub copies : are_copies urgent.frames ≡ true
  pub of_epoch : AreOf epoch urgent.frames
  pub faithful : AreFaithful bytes (copies_of urgent.frames)
  -- nothing unless the source is stopped and the link is up, and nothing once End was taken
  pub stopped : is_stopped from ≡ false → urgent.frames ≡ []
  pub down : up ≡ false → urgent.frames ≡ []
  pub ended : to ≡ DestPhase.Ended → urgent.frames ≡ []
  -- each frame that was sent was taken or is on the wire, and End announces how many
  pub counted : up ≡ true → to ≢ DestPhase.Paused → count ≡ taken + length urgent.frames
  pub told : AreTold epoch end_epoch count forward
  -- an epoch begins with none sent, and a destination that has not run has taken none
  pub fresh : up ≡ true → from ≡ SourcePhase.Paused → count ≡ 0
  pub none_taken : has_run ≡ false → taken ≡ 0
  pub fits : HeldFits urgent.frames urgent.held

-- the same of a world: the part of the invariant that is about its urgent wire
abbrev pub AreSoundUrgent : World → Type 0
AreSoundUrgent world =
    IsSoundUrgent world.source.phase world.source.epoch world.source.end_epoch world.source.urgent_sent (space_of world.source).host.bytes world.destination.phase world.destination.has_run
    world.destination.urgent_taken world.forward.frames world.urgent world.up

-- what every world keeps
pub record IsSoundWorld (world : World) : Type 0 where
  pub memory : HoldsMemory world.destination.guest.space.host (space_of world.source).host (settled world.destination) world.destination.has_run world.transcript
  pub spaces : AreSoundSpaces (space_of world.source) world.destination.guest.space
  pub phases : AreSoundPhases world.source.phase world.source.switched world.destination.phase world.destination.has_run world.destination.ended (space_of world.source).object.events
  pub precopy : IsSoundLog world.source.phase world.source.switched (space_of world.source) world.source.log.clean world.source.log.todo world.source.log.sent
  pub pushing : IsSoundPushing world.source.phase world.source.switched world.up world.source.epoch world.source.end_epoch (space_of world.source) world.source.remaining
  pub copies : AreSoundCopies world.destination.phase world.destination.has_run world.destination.kept world.forward.frames
  pub owing : IsSoundOwing (space_of world.source).host.bytes world.destination.guest.space world.destination.has_run world.destination.ended world.destination.owed world.destination.arrivals
  pub flight : IsSoundFlight world.source world.destination world.forward.frames world.back.frames world.urgent.frames world.up
  pub epochs : AreSoundEpochs world.source.epoch world.destination.phase world.destination.epoch world.forward.frames world.back.frames world.up
  pub held : AreSoundWires world.forward world.back
