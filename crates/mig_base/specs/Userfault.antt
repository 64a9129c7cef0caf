-- A userfault object: which pages it watches, and the messages that wait to be read. userfaultfd(2), API 0xAA, the missing and
-- the write-protect mode.
use Rattle.std.specs.Prelude.{ℕ, ◌+◌, ◌==◌, ◌&&◌, ◌||◌, not, Bool, true, false, if◌then◌else◌, Option, Some, None, List, [], ◌∷◌, ◌++◌, length}
use Rattle.std.specs.Ordering.{nat_cmp}
use Rattle.std.specs.FinSet.{FinSet, empty, contains}
use Rattle.foundation.specs.Modes.{Mode}
use Rattle.mig_base.specs.declared.message.Message.{Message}
use Rattle.mig_base.specs.declared.message.Message.TheVariants.{PageFault, Remap, Remove, Unmap}
use Rattle.foundation.specs.Bits.{is_one}
use Rattle.foundation.specs.Ranges.{none_below}
use Rattle.mig_base.specs.Sets.{without, pages_where, moved_set}

-- a message that waits, and the processor that caused it
pub record Noted : Type 0 where
  pub message : Message
  pub cpu : ℕ

-- a userfault object
pub record Object : Type 0 where
  -- whether the handshake UFFDIO_API was made, and the features that it asked for, as a word of bits
  pub enabled : Bool
  pub features : ℕ
  -- the pages registered in each mode
  pub missing : FinSet nat_cmp
  pub protect : FinSet nat_cmp
  -- the messages that are not read yet, in the order in which they were queued: page faults, and the other events
  pub faults : List Noted
  pub events : List Noted

-- an object that is not enabled and watches nothing
abbrev pub fresh_object : Object
fresh_object = record { enabled = false; features = 0; missing = empty; protect = empty; faults = []; events = [] }

-- the object after the handshake
abbrev pub enabled_with : Object → ℕ → Object
enabled_with object features = record object { enabled = true; features = features }

-- Registered pages

-- the mode of a page
abbrev pub mode_at : Object → ℕ → Mode
mode_at object page = record { missing = contains object.missing page; protect = contains object.protect page }

-- whether a page is registered in any mode
abbrev pub is_registered : Object → ℕ → Bool
is_registered object page = contains object.missing page || contains object.protect page

-- whether a page of a range is registered
abbrev pub is_watched : Object → ℕ → ℕ → Bool
is_watched object first count = not (none_below (λ i. is_registered object (first + i)) count)

-- whether a page has all modes asked for
abbrev pub has_modes : Object → ℕ → Mode → Bool
has_modes object page mode = (not mode.missing || contains object.missing page) && (not mode.protect || contains object.protect page)

-- the object once the pages that pass a test are registered: one that has all modes asked for keeps its own, and any other has
-- exactly these
abbrev pub registered_where : Object → (ℕ → Bool) → Mode → Object
registered_where object test mode =
    record object {
      missing = pages_where (λ page. if test page && not (has_modes object page mode) then mode.missing else contains object.missing page);
      protect = pages_where (λ page. if test page && not (has_modes object page mode) then mode.protect else contains object.protect page);
    }

-- the object once no page of a range is registered: UFFDIO_UNREGISTER, and what munmap(2) does
abbrev pub unregistered : Object → ℕ → ℕ → Object
unregistered object first count = record object { missing = without object.missing first count; protect = without object.protect first count }

-- the object once a range of pages has moved to a new place, where it may be longer or shorter: a page keeps its mode when it moves,
-- and the pages by which the range grows have the mode given
abbrev pub moved_modes : Object → ℕ → ℕ → ℕ → ℕ → Mode → Object
moved_modes object from count to new_count growth =
    record object {
      missing = moved_set object.missing from count to new_count growth.missing;
      protect = moved_set object.protect from count to new_count growth.protect;
    }

-- Messages: userfaultfd(2), Reading from the userfaultfd structure

-- whether a message is a page fault of this kind at the address: `kind` is true for a write-protect fault
abbrev pub is_fault_at : Message → ℕ → Bool → Bool
is_fault_at (PageFault addr write wp tid) other kind = addr == other && (wp && kind || not wp && not kind)
is_fault_at (Remap from to len) other kind = false
is_fault_at (Remove start end) other kind = false
is_fault_at (Unmap start end) other kind = false

-- whether a page fault of this kind at the address is unread
abbrev pub waits_fault : List Noted → ℕ → Bool → Bool
waits_fault [] addr kind = false
waits_fault (noted ∷ rest) addr kind = is_fault_at noted.message addr kind || waits_fault rest addr kind

-- the thread that a page fault of a processor names: its number plus 1 if UFFD_FEATURE_THREAD_ID, bit 8, was asked for, else 0
abbrev pub thread_id : Object → ℕ → ℕ
thread_id object cpu = if is_one object.features 8 then cpu + 1 else 0

-- the object once a processor sleeps on a page. There is at most one unread fault of each kind for a page, while the kernel has one for
-- each thread that sleeps
abbrev pub fault_queued : Object → ℕ → Bool → Bool → ℕ → Object
fault_queued object addr write wp cpu =
    if waits_fault object.faults addr wp then object
    else record object { faults = object.faults ++ record { message = PageFault addr write wp (thread_id object cpu); cpu = cpu } ∷ [] }

-- the object once an event is queued after the others
abbrev pub event_queued : Object → Message → ℕ → Object
event_queued object message cpu = record object { events = object.events ++ record { message = message; cpu = cpu } ∷ [] }

-- the first message of a queue
abbrev pub first_noted : List Noted → Option Noted
first_noted [] = None
first_noted (noted ∷ rest) = Some noted

-- the queue after its first message
abbrev pub rest_noted : List Noted → List Noted
rest_noted [] = []
rest_noted (noted ∷ rest) = rest

-- the message that is read next: page faults come before events, each in the order in which they were queued
abbrev pub next_of : List Noted → List Noted → Option Noted
next_of [] events = first_noted events
next_of (fault ∷ faults) events = Some fault

-- the message that read(2) returns next, if any
abbrev pub next_message : Object → Option Noted
next_message object = next_of object.faults object.events

-- the object once its next message is read, by its queue of page faults
abbrev pub read_by : List Noted → Object → Object
read_by [] object = record object { events = rest_noted object.events }
read_by (fault ∷ faults) object = record object { faults = faults }

-- the object once read(2) has returned its next message
abbrev pub message_read : Object → Object
message_read object = read_by object.faults object

-- how many events are unread. While there are any the address space is changing: the kernel's mmap_changing
abbrev pub changing : Object → ℕ
changing object = length object.events
