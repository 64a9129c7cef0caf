-- The userfault object of the model beside one of a kernel: when what is known of both agrees, and what the model's answers are in a log.
use Rattle.std.specs.Prelude.{◌≡◌, ℕ, ◌+◌, ◌/◌, nat_le, Bool, true, false, Option, Some, None, Result, Ok, Err, List, [], ◌∷◌, ◌++◌, ◌*◌, ◌==◌, ◌&&◌, not, filter, map}
use Rattle.std.specs.List.{flat_map, list_any}
use Rattle.std.specs.FinMap.{contains_key}
use Rattle.std.specs.FinSet.{contains}
use Rattle.foundation.specs.declared.TheConstants.{PAGE_SIZE}
use Rattle.mig_base.specs.declared.TheConstants.{HIGH}
use Rattle.mig_base.specs.declared.command.Errno.{Errno}
use Rattle.mig_base.specs.declared.message.Message.{Message}
use Rattle.mig_base.specs.declared.wake.Wake.{Wake}
use Rattle.mig_base.specs.Messages.{fault_flags}
use Rattle.foundation.specs.Ranges.{in_range}
use Rattle.foundation.specs.Tests.{is_empty}
use Rattle.mig_base.specs.Userfault.{Noted, is_registered}
use Rattle.mig_model.specs.Ioctls.{Put}
use Rattle.mig_model.specs.Space.{IsSoundSpace, Space}
use Rattle.uffd_log.specs.declared.call.Message.{Message as LogMessage}
use Rattle.uffd_log.specs.declared.call.Message.TheVariants as log
use Rattle.uffd_log.specs.declared.errno.Errno.{Errno as KernelErrno}
use Rattle.uffd_log.specs.declared.errno.Errno.TheVariants as kernel
use Rattle.uffd_log.specs.declared.line.Answer.{Answer}
use Rattle.uffd_log.specs.declared.line.Answer.TheVariants as answer
use Rattle.kernel_rules.specs.Faults.{fault_of, faults_without, is_seen}
use Rattle.kernel_rules.specs.Ioctls.{is_own, span_of, tells_object}
use Rattle.kernel_rules.specs.Pages.{is_missing, is_poisoned, is_present}
use Rattle.kernel_rules.specs.Reads.{first_unread, is_message, is_same_event}
use Rattle.kernel_rules.specs.State.{Kernel, fresh_kernel}
use Rattle.kernel_rules.specs.declared.calling.Span.{Span}
use Rattle.kernel_rules.specs.declared.calling.Untold.{Untold}
use Rattle.kernel_rules.specs.declared.fault.Fault.{Fault}
use Rattle.kernel_rules.specs.declared.known.Page.{Page}
use Rattle.kernel_rules.specs.declared.object.Object.{Object}
use Rattle.kernel_rules.specs.declared.object.Registration.{Registration}

-- what is known of a page agrees with the page of a space: it is registered with this object, in the same modes; it is not known to be missing
-- where it is present, nor present where it is missing, nor poisoned; it is not registered for minor faults; and it is guarded where it is write-protected. The rules may guard more pages, as after
-- a refused call
pub record IsPage (space : Space) (name page : ℕ) (found : Page) : Type 0 where
  pub object : found.object ≡ name
  pub missing : found.missing ≡ contains space.object.missing page
  pub protect : found.protect ≡ contains space.object.protect page
  pub registered : is_registered space.object page ≡ true
  pub absent : is_missing found.presence ≡ true → contains_key space.host.bytes page ≡ false
  pub present : is_present found.presence ≡ true → contains_key space.host.bytes page ≡ true
  pub whole : is_poisoned found.presence ≡ false
  pub plain : found.minor ≡ false
  pub guarded : contains space.protected page ≡ true → found.guarded ≡ true

-- the page is registered with this object at both, or with none at either
abbrev pub AgreesAt : Space → ℕ → ℕ → Option Page → Type 0
AgreesAt space name page None = is_registered space.object page ≡ false
AgreesAt space name page (Some found) = IsPage space name page found

-- Unread messages

-- a message, as a log has it
abbrev pub message_of : Message → LogMessage
message_of (Message.PageFault addr write wp tid) = log.Fault addr (fault_flags write wp) tid
message_of (Message.Remap from to len) = log.Remap from to len
message_of (Message.Remove start end) = log.Remove start end
message_of (Message.Unmap start end) = log.Unmap start end

-- whether a message is that of a fault
abbrev pub is_message_of : Object → Fault → LogMessage → Bool
is_message_of object fault (log.Fault addr flags thread) = is_message object fault addr flags thread
is_message_of object fault _ = false

-- the fault of this message is one whose thread has found its page so, and has queued nothing yet
pub record IsOnItsWay (faults : List Fault) (name : ℕ) (object : Object) (message : LogMessage) (fault : Fault) : Type 0 where
  pub found : fault_of faults fault.thread ≡ Some fault
  pub watched : fault.object ≡ name
  pub seen : is_seen fault.phase ≡ true
  pub told : is_message_of object fault message ≡ true

-- each unread page fault of the model is that of a thread of its own on its way. So it stays unread when its sleeper is woken, as it does in
-- the model; a processor that sleeps without a message of its own is a thread that has not reached its page
abbrev pub AreOnTheirWay : List Fault → ℕ → Object → List Noted → Type 0
AreOnTheirWay faults name object [] = Unit {0}
AreOnTheirWay faults name object (noted ∷ rest) =
    (fault : Fault) × IsOnItsWay faults name object (message_of noted.message) fault × AreOnTheirWay (faults_without faults fault.thread) name object rest

-- the unread page faults agree: no other one of the object is queued
pub record AreUnread (faults : List Fault) (name : ℕ) (object : Object) (messages : List Noted) : Type 0 where
  pub on_their_way : AreOnTheirWay faults name object messages
  pub none_queued : first_unread faults name ≡ None

-- what map calls under way have to tell and to clear, of a kernel
abbrev pub telling : Kernel → Kernel
telling kernel =
    record fresh_kernel { calls = kernel.calls; told = kernel.told; events = kernel.events; queued = kernel.queued; untold = kernel.untold; clears = kernel.clears }

-- the REMOVE of a range
abbrev pub removes : Option Span → List LogMessage
removes None = []
removes (Some span) = log.Remove (PAGE_SIZE * span.first) (PAGE_SIZE * span.end) ∷ []

-- what a call has still to tell, in its order: one that clears a range, the REMOVE of it
abbrev pub messages_of : Kernel → ℕ → List LogMessage
messages_of kernel key = map (λ (one : Untold). one.message) (filter (λ (one : Untold). one.key == key) kernel.events) ++ removes (span_of kernel.untold key)

-- whether no number is twice in a list
abbrev pub are_once : List ℕ → Bool
are_once [] = true
are_once (number ∷ rest) = not (list_any (λ other. other == number) rest) && are_once rest

-- whether each event of a call has a rank of its own
abbrev pub have_ranks : List Untold → Bool
have_ranks [] = true
have_ranks (one ∷ rest) = not (list_any (λ (other : Untold). other.key == one.key && other.rank == one.rank) rest) && have_ranks rest

-- whether an event is not one that a map call tells the object
abbrev pub is_of_another : ℕ → Untold → Bool
is_of_another name one = not (one.object == name && is_same_event one.message one.message)

-- the unread events agree: call by call they are what the calls have still to tell. They tell no other object, and no event is queued
-- yet, as a kernel queues each when it likes
pub record AreUntold (name : ℕ) (kernel : Kernel) (events : List Noted) : Type 0 where
  pub same : flat_map (messages_of kernel) kernel.calls ≡ map (λ (noted : Noted). message_of noted.message) events
  pub once : are_once kernel.calls ≡ true
  pub ranks : have_ranks kernel.events ≡ true
  pub own : list_any (is_of_another name) kernel.events ≡ false
  pub tells : (key : ℕ) → is_empty (messages_of kernel key) ≡ false → tells_object kernel key name ≡ true
  pub none_queued : kernel.queued ≡ []

-- Objects

-- whether a page lies in a range, if it is one of the object
abbrev pub has_page : ℕ → ℕ → Registration → Bool
has_page name page range = is_own name range && in_range range.first range.count page

-- what the handshake asked for, if it was made
abbrev pub features_of : Bool → ℕ → Option ℕ
features_of true features = Some features
features_of false features = None

-- the object of a space agrees with the object of this name: both had the same handshake or none, the same messages are unread, no
-- other object has a page there, and each registered page lies in a range that the object has registered. No UFFDIO_WRITEPROTECT has
-- protected a part of its range
pub record Agree (space : Space) (kernel : Kernel) (name : ℕ) (object : Object) : Type 0 where
  pub sound : IsSoundSpace space
  pub named : kernel.objects name ≡ Some object
  pub features : object.features ≡ features_of space.object.enabled space.object.features
  pub pages : (page : ℕ) → AgreesAt space name page (kernel.pages object.space page)
  pub unread : AreUnread kernel.faults name object space.object.faults
  pub untold : AreUntold name (telling kernel) space.object.events
  pub alone : kernel.protected ≡ []
  pub ranged : (page : ℕ) → is_registered space.object page ≡ true → list_any (has_page name page) kernel.ranges ≡ true

-- two objects that agree
pub record Counterparts : Type 0 where
  pub space : Space
  pub kernel : Kernel
  pub name : ℕ
  pub object : Object
  pub agree : Agree space kernel name object

-- a rule takes a call with an answer, and what is known then agrees with the space after the call
pub record Takes (rule : Option Kernel) (space : Space) (name : ℕ) : Type 0 where
  pub kernel : Kernel
  pub object : Object
  pub taken : rule ≡ Some kernel
  pub agree : Agree space kernel name object

-- Answers, as a log has them

-- an error number
abbrev pub number_of : Errno → KernelErrno
number_of Errno.Eperm = kernel.Eperm
number_of Errno.Enoent = kernel.Enoent
number_of Errno.Eagain = kernel.Eagain
number_of Errno.Enomem = kernel.Enomem
number_of Errno.Efault = kernel.Efault
number_of Errno.Eexist = kernel.Eexist
number_of Errno.Einval = kernel.Einval

-- of a call that puts bytes: how many, or why it stopped. Where it stopped after the first page its result field is not negative; else it is
-- negative or absent. Of EINVAL the rules do not look at it
abbrev pub put_answer : Option Errno → ℕ → Answer
put_answer None bytes = answer.Value bytes
put_answer (Some Errno.Eagain) bytes = answer.Failed kernel.Eagain (Some bytes)
put_answer (Some errno) bytes = answer.Failed (number_of errno) None

-- of UFFDIO_COPY and UFFDIO_ZEROPAGE
abbrev pub answer_of_put : Put → Answer
answer_of_put put = put_answer put.fault put.bytes

-- of UFFDIO_WAKE, UFFDIO_UNREGISTER and UFFDIO_WRITEPROTECT
abbrev pub answer_of_wake : Result Wake Errno → Answer
answer_of_wake (Ok wake) = answer.Done
answer_of_wake (Err errno) = answer.Failed (number_of errno) None

-- of UFFDIO_API: the features that are offered, and which calls the object has
abbrev pub answer_of_api : (ioctls : ℕ) → Result ℕ Errno → Answer
answer_of_api ioctls (Ok offered) = answer.Features offered ioctls
answer_of_api ioctls (Err errno) = answer.Failed (number_of errno) None

-- of UFFDIO_REGISTER: which calls the pages have
abbrev pub answer_of_register : (ioctls : ℕ) → Option Errno → Answer
answer_of_register ioctls None = answer.Value ioctls
answer_of_register ioctls (Some errno) = answer.Failed (number_of errno) None

-- Unread events of which a kernel is known: those of calls that unmap and move

-- whether a message is UNMAP or REMAP
abbrev pub is_unmap_or_remap : Message → Bool
is_unmap_or_remap (Message.Unmap start end) = true
is_unmap_or_remap (Message.Remap from to len) = true
is_unmap_or_remap _ = false

-- the messages are UNMAP and REMAP
abbrev pub AreUnmapsAndRemaps : List Noted → Type 0
AreUnmapsAndRemaps [] = Unit {0}
AreUnmapsAndRemaps (noted ∷ rest) = (is_unmap_or_remap noted.message ≡ true) × AreUnmapsAndRemaps rest

-- Differences

-- a range ends in the address space of the model. One that leaves it is EINVAL there, where a kernel's address space goes on
abbrev pub is_inside : ℕ → ℕ → Bool
is_inside start len = nat_le (start + len) HIGH

-- each page of a range is mapped. UFFDIO_REGISTER of a range with holes registers the pages that are mapped, and the rules take it for all
abbrev pub AreMapped : Space → (start len : ℕ) → Type 0
AreMapped space start len = (page : ℕ) → in_range (start / PAGE_SIZE) (len / PAGE_SIZE) page ≡ true → contains_key space.host.areas page ≡ true
