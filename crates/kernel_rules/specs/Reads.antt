-- read(2) and poll(2) of a userfault object. userfaultfd(2).
use Rattle.std.specs.Prelude.{ℕ, ◌/◌, ◌%◌, ◌==◌, ◌&&◌, ◌||◌, not, nat_le, nat_lt, Bool, true, false, if◌then◌else◌, Option, Some, None, is_some, List, [], ◌∷◌, ◌++◌, count_by, filter, length}
use Rattle.std.specs.List.{list_any}
use Rattle.foundation.specs.declared.TheConstants.{PAGE_SIZE}
use Rattle.foundation.specs.Tests.{is_empty}
use Rattle.uffd_log.specs.declared.line.Answer.{Answer}
use Rattle.uffd_log.specs.declared.line.Answer.TheVariants.{Value, Failed}
use Rattle.uffd_log.specs.declared.errno.Errno.{Errno}
use Rattle.uffd_log.specs.declared.errno.Errno.TheVariants.{Eintr, Eagain, Enomem, Efault, Einval}
use Rattle.uffd_log.specs.declared.call.Message.{Message}
use Rattle.uffd_log.specs.declared.call.Message.TheVariants as message
use Rattle.kernel_rules.specs.declared.fault.Fault.{Fault}
use Rattle.kernel_rules.specs.declared.difference.Difference.TheVariants as differs
use Rattle.kernel_rules.specs.declared.known.Phase.TheVariants.{Asleep}
use Rattle.kernel_rules.specs.declared.object.Object.{Object}
use Rattle.kernel_rules.specs.declared.object.Registration.{Registration}
use Rattle.kernel_rules.specs.State.{Kernel, allowed, asked_for, is_enabled, noted_if}
use Rattle.kernel_rules.specs.Faults.{is_unread, must_wait, of_fault, faults_without}
use Rattle.kernel_rules.specs.Ioctls.{has_removes, has_untold, span_of, tells_object}
use Rattle.kernel_rules.specs.MapCalls.{is_queued, numbers_without, spans_without, watches_in}
use Rattle.kernel_rules.specs.declared.calling.Span.{Span}
use Rattle.kernel_rules.specs.declared.calling.Untold.{Untold}

-- Page faults

-- the unread fault of an object that was queued first
abbrev pub first_unread : List Fault → ℕ → Option Fault
first_unread [] name = None
first_unread (fault ∷ faults) name = if fault.object == name && is_unread fault.phase then Some fault else first_unread faults name

-- whether a fault has the fields of its message. Without UFFD_FEATURE_EXACT_ADDRESS, bit 11, the address is that of the page. The thread is
-- named where UFFD_FEATURE_THREAD_ID, bit 8, was asked for, and none has the number 0; one of a number from 2^31 on is one that the log does
-- not name
abbrev pub is_message : Object → Fault → ℕ → ℕ → ℕ → Bool
is_message object fault addr flags thread =
    fault.page == addr / PAGE_SIZE && (asked_for object 11 || addr % PAGE_SIZE == 0) && fault.flags == flags && (if asked_for object 8 then fault.thread == thread && nat_lt 0 thread else thread == 0)

-- whether a message names the thread that reads it, where that is known. A thread that reads has left its fault, whose message went with it
abbrev pub is_own_fault : Option ℕ → ℕ → Bool
is_own_fault None thread = false
is_own_fault (Some reader) thread = reader == thread

-- the list with the fault of a thread read: it is to be answered if the thread still has to wait
abbrev pub fault_read : Kernel → Object → ℕ → Fault → List Fault
fault_read kernel object key fault =
    faults_without kernel.faults fault.thread
    ++ record fault { phase = Asleep; read_by = if must_wait kernel object.space fault then Some key else None } ∷ []

-- Events

-- the next event of a call, if it has any
abbrev pub first_event : List Untold → ℕ → Option Untold
first_event [] key = None
first_event (one ∷ others) key = if one.key == key then Some one else first_event others key

-- whether a page from one on and below another is registered with an object that a call tells
abbrev pub tells_within : Kernel → ℕ → ℕ → ℕ → ℕ → Bool
tells_within kernel key space first end =
    list_any (λ (range : Registration). tells_object kernel key range.object && watches_in kernel space first end range) kernel.ranges

-- whether such a page is registered with this object
abbrev pub watches_within : Kernel → ℕ → ℕ → ℕ → ℕ → Bool
watches_within kernel name space first end = list_any (λ (range : Registration). range.object == name && watches_in kernel space first end range) kernel.ranges

-- whether the pages from one on to another are those of the next REMOVE of a MADV_DONTNEED to an object, which has these to announce: of one
-- area, before which nobody gets an event
abbrev pub is_remove_of : Kernel → ℕ → ℕ → ℕ → ℕ → Span → Bool
is_remove_of kernel name key first last span =
    nat_le span.first first && nat_lt first last && nat_le last span.end && tells_object kernel key name
    && not (tells_within kernel key span.space span.first first)
    && watches_within kernel name span.space first last

-- whether two messages are the same event. The child of a fork is known to its reader alone
abbrev pub is_same_event : Message → Message → Bool
is_same_event (message.Remap from to len) (message.Remap other_from other_to other_len) = from == other_from && to == other_to && len == other_len
is_same_event (message.Unmap start end) (message.Unmap other other_end) = start == other && end == other_end
is_same_event (message.Fork child) (message.Fork other) = true
is_same_event _ _ = false

-- whether a message is the next REMOVE of a call, if it has one to tell
abbrev pub is_next_remove : Kernel → ℕ → ℕ → Message → Option Span → Bool
is_next_remove kernel name key event None = false
is_next_remove kernel name key event (Some span) = removes event where
  removes : Message → Bool
  removes (message.Remove start end) = is_remove_of kernel name key (start / PAGE_SIZE) (end / PAGE_SIZE) span
  removes _ = false

-- whether the next event of a call is this message to the object
abbrev pub is_next_of : Kernel → ℕ → ℕ → Message → Option Untold → Bool
is_next_of kernel name key event None = is_next_remove kernel name key event (span_of kernel.untold key)
is_next_of kernel name key event (Some one) = one.object == name && is_same_event one.message event

-- whether that is queued
abbrev pub is_queued_as : Kernel → ℕ → Message → ℕ → Bool
is_queued_as kernel name event key = is_queued kernel key && is_next_of kernel name key event (first_event kernel.events key)

-- the range that a call has still to announce after a page, if an object gets an event of a page there
abbrev pub rest_of : Kernel → ℕ → ℕ → Span → List Span
rest_of kernel key last span =
    if tells_within kernel key span.space last span.end then record span { first = last } ∷ [] else []

-- the ranges once a REMOVE of a call is read
abbrev pub removes_left : Kernel → ℕ → Message → Option Span → List Span
removes_left kernel key event None = kernel.untold
removes_left kernel key event (Some span) = left event where
  left : Message → List Span
  left (message.Remove start end) = spans_without kernel.untold key ++ rest_of kernel key (end / PAGE_SIZE) span
  left _ = kernel.untold

-- the kernel once the next event of a call is read
abbrev pub event_read : Kernel → ℕ → Message → Option Untold → Kernel
event_read kernel key event None =
    record kernel { queued = numbers_without kernel.queued key; untold = removes_left kernel key event (span_of kernel.untold key) }
event_read kernel key event (Some one) =
    record kernel {
      queued = numbers_without kernel.queued key;
      events = filter (λ (other : Untold). not (other.key == key && other.rank == one.rank)) kernel.events;
    }

-- whether a REMOVE is of the whole range of its call
abbrev pub is_whole : Message → Option Span → Bool
is_whole event None = true
is_whole event (Some span) = covers event where
  covers : Message → Bool
  covers (message.Remove start end) = start / PAGE_SIZE == span.first && end / PAGE_SIZE == span.end
  covers _ = true

-- the first of these calls whose next event is queued and is this message, and whether another one with an event for the object is before it
abbrev pub teller : Kernel → ℕ → Message → List ℕ → Bool → Option (ℕ × Bool)
teller kernel name event [] late = None
teller kernel name event (key ∷ keys) late =
    if is_queued_as kernel name event key then Some (key, late) else teller kernel name event keys (late || has_untold kernel name key)

-- the kernel once an event was read of a map call that was found to have it; the flag says whether an older call had one
abbrev pub event_taken : Kernel → Message → Option (ℕ × Bool) → Option Kernel
event_taken kernel event None = None
event_taken kernel event (Some found) =
    Some
    (noted_if found.1 differs.OrderOfTwoCalls
    (noted_if (not (is_whole event (span_of kernel.clears found.0))) differs.RemoveOfEachArea
    (event_read kernel found.0 event (first_event kernel.events found.0))))

-- One message, and several

-- the kernel once the first unread fault of an object was read, if the message is that fault's
abbrev pub fault_taken : Kernel → ℕ → Option ℕ → ℕ → Object → ℕ → ℕ → ℕ → Option Kernel
fault_taken kernel key reader name object addr flags thread = of_fault (first_unread kernel.faults name) (λ fault.
    allowed (is_message object fault addr flags thread && not (is_own_fault reader thread)) (record kernel { faults = fault_read kernel object key fault }))

-- whether a fault of the object is unread
abbrev pub has_unread_fault : Kernel → ℕ → Bool
has_unread_fault kernel name = is_some (first_unread kernel.faults name)

-- how many faults of an object are unread
abbrev pub unread_faults : List Fault → ℕ → ℕ
unread_faults faults name = count_by (λ (fault : Fault). fault.object == name && is_unread fault.phase) faults

-- whether a message is of a page fault
abbrev pub is_fault : Message → Bool
is_fault (message.Fault addr flags thread) = true
is_fault _ = false

-- the kernel once call `key` has read a message, and will read `later` page faults after it: these may have been queued once an event before
-- them was read, and other page faults are read before events
abbrev pub message_taken : Kernel → ℕ → Option ℕ → ℕ → Object → Message → ℕ → Option Kernel
message_taken kernel key reader name object (message.Fault addr flags thread) later = fault_taken kernel key reader name object addr flags thread
message_taken kernel key reader name object event later =
    if nat_le (unread_faults kernel.faults name) later then event_taken kernel event (teller kernel name event kernel.calls false) else None

-- the kernel once the first of these messages was read
abbrev pub first_taken : Kernel → ℕ → Option ℕ → ℕ → Object → List Message → Option Kernel
first_taken kernel key reader name object [] = None
first_taken kernel key reader name object (event ∷ events) = message_taken kernel key reader name object event (count_by is_fault events)

-- one rule after another, if the first allows its step
abbrev pub then_taken : Option Kernel → (Kernel → Option Kernel) → Option Kernel
then_taken None rule = None
then_taken (Some kernel) rule = rule kernel

-- the kernel once these messages were read in turn
abbrev pub messages_taken : Kernel → ℕ → Option ℕ → ℕ → Object → List Message → Option Kernel
messages_taken kernel key reader name object [] = Some kernel
messages_taken kernel key reader name object (event ∷ events) =
    then_taken (message_taken kernel key reader name object event (count_by is_fault events)) (λ after. messages_taken after key reader name object events)

-- read(2)

-- whether the next event of a call is for the object, or a REMOVE that is still to come
abbrev pub is_next_for : Kernel → ℕ → ℕ → Option Untold → Bool
is_next_for kernel name key None = has_removes kernel key name
is_next_for kernel name key (Some one) = one.object == name

-- whether the event that a call has queued is for the object
abbrev pub is_queued_for : Kernel → ℕ → ℕ → Bool
is_queued_for kernel name key = is_next_for kernel name key (first_event kernel.events key)

-- whether anything waits to be read
abbrev pub has_unread : Kernel → ℕ → Bool
has_unread kernel name = has_unread_fault kernel name || list_any (is_queued_for kernel name) kernel.queued

-- whether a read has room for this number of messages, if the log says what it has: each takes 32 bytes
abbrev pub has_room_for : ℕ → Option ℕ → Bool
has_room_for count None = true
has_room_for count (Some room) = nat_le count (room / 32)

-- why read(2) may fail
abbrev pub read_failed : Kernel → ℕ → Object → Option ℕ → Errno → Bool
read_failed kernel name object room Eagain = is_enabled object && not object.waits && not (has_unread kernel name)
read_failed kernel name object room Einval = not (is_enabled object) || not (has_room_for 1 room)
read_failed kernel name object room Eintr = is_enabled object
read_failed kernel name object room Efault = is_enabled object
read_failed kernel name object room _ = false

-- whether read(2) may say that it returns these messages
abbrev pub may_return_messages : Object → Option ℕ → List Message → Answer → Bool
may_return_messages object room messages (Value count) = is_enabled object && count == length messages && nat_lt 0 count && has_room_for count room
may_return_messages object room messages _ = false

-- read(2): it returns messages, or none and an error that the state allows
abbrev pub read : Kernel → ℕ → Option ℕ → ℕ → Object → Option ℕ → List Message → Answer → Option Kernel
read kernel key reader name object room messages (Value count) =
    if may_return_messages object room messages (Value count) then messages_taken kernel key reader name object messages else None
read kernel key reader name object room messages (Failed errno bytes) = allowed (is_empty messages && read_failed kernel name object room errno) kernel
read kernel key reader name object room messages _ = None

-- whether poll(2) may have found these events: POLLIN, 1, POLLERR, 8, or neither; POLLNVAL, 0x20, of a descriptor that another thread closes
abbrev pub may_poll : Kernel → ℕ → Object → ℕ → Bool
may_poll kernel name object events =
    events == 0x20
    || (if events == 8 then not (is_enabled object) || object.waits
    else is_enabled object && not object.waits && (if events == 1 then has_unread kernel name else events == 0 && not (has_unread kernel name)))

-- the errors of poll(2)
abbrev pub is_poll_error : Errno → Bool
is_poll_error Eintr = true
is_poll_error Enomem = true
is_poll_error Efault = true
is_poll_error Einval = true
is_poll_error _ = false

-- poll(2)
abbrev pub polled : Kernel → ℕ → Object → Answer → Option Kernel
polled kernel name object (Value events) = allowed (may_poll kernel name object events) kernel
polled kernel name object (Failed errno bytes) = allowed (is_poll_error errno) kernel
polled kernel name object _ = None
