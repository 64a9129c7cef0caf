-- What no ioctl does: a thread makes an access, and a message is read.
use Rattle.std.specs.Prelude.{◌≡◌, ℕ, ◌+◌, ◌*◌, Bool, true, false, if◌then◌else◌, Option, Some, None, List, [], ◌∷◌}
use Rattle.std.specs.FinSet.{contains}
use Rattle.foundation.specs.declared.TheConstants.{PAGE_SIZE}
use Rattle.mig_base.specs.declared.command.Access.{Access}
use Rattle.mig_base.specs.declared.command.Access.TheVariants.{Answered, Missing, Protected}
use Rattle.mig_base.specs.declared.command.Command.{Command}
use Rattle.mig_base.specs.declared.command.Errno.{Errno}
use Rattle.mig_base.specs.declared.message.Message.{Message}
use Rattle.foundation.specs.Bits.{is_one}
use Rattle.mig_base.specs.Commands.{is_access, is_store, page_of}
use Rattle.mig_base.specs.Messages.{fault_flags}
use Rattle.mig_base.specs.Userfault.{Noted, waits_fault}
use Rattle.mig_model.specs.Ioctls.{read_error}
use Rattle.uffd_log.specs.declared.call.Message.{Message as LogMessage}
use Rattle.uffd_log.specs.declared.call.Message.TheVariants as log
use Rattle.uffd_log.specs.declared.line.Answer.TheVariants.{Failed, Value}
use Rattle.kernel_rules.specs.Faults.{queues, sees, waits}
use Rattle.kernel_rules.specs.Ioctls.{span_of}
use Rattle.kernel_rules.specs.MapCalls.{tells}
use Rattle.kernel_rules.specs.Reads.{has_room_for, is_own_fault, read, then_taken, watches_within}
use Rattle.kernel_rules.specs.State.{Kernel}
use Rattle.kernel_rules.specs.declared.calling.Span.{Span}
use Rattle.kernel_laws.specs.Agreement.{Counterparts, message_of, number_of}

-- a thread makes an access of a processor: the object is enabled, and the thread waits nowhere. It is the processor's if the object asked for
-- thread numbers. The page is not registered for write-protect faults alone: once it was cleared the rules take such a page for missing
pub record Trying : Type 0 where
  pub one : Counterparts
  pub cpu : ℕ
  pub thread : ℕ
  pub command : Command
  pub access : is_access command ≡ true
  pub enabled : one.space.object.enabled ≡ true
  pub idle : waits one.kernel thread ≡ false
  pub named : is_one one.space.object.features 8 ≡ true → thread ≡ cpu + 1
  pub watched : contains one.space.object.protect (page_of command) ≡ true → contains one.space.object.missing (page_of command) ≡ true

-- a thread finds a page missing or write-protected. Where such a page fault is unread the model queues none, and the thread has not reached it yet
abbrev pub finds : Counterparts → (thread page : ℕ) → (write wp : Bool) → Option Kernel
finds one thread page write wp =
    if waits_fault one.space.object.faults (PAGE_SIZE * page) wp then Some one.kernel else sees one.kernel thread one.name page (fault_flags write wp)

-- a thread makes an access, which ends so for a processor. No rule speaks of one that is answered
abbrev pub makes : Access → Counterparts → ℕ → Command → Option Kernel
makes (Answered reply) one thread command = Some one.kernel
makes Missing one thread command = finds one thread (page_of command) (is_store command) false
makes Protected one thread command = finds one thread (page_of command) true true

-- whether a message is of a page fault of the thread that reads it, where that is known
abbrev pub is_of_reader : Option ℕ → LogMessage → Bool
is_of_reader reader (log.Fault addr flags thread) = is_own_fault reader thread
is_of_reader reader _ = false

-- read(2) has returned one message, once the thread whose fault it is has queued it
abbrev pub reads_fault : Counterparts → (thread key : ℕ) → (reader room : Option ℕ) → Message → Option Kernel
reads_fault one thread key reader room message =
    then_taken (queues one.kernel thread) (λ queued. read queued key reader one.name one.object room (message_of message ∷ []) (Value 1))

-- read(2) has returned one message, once the map call whose event it is has queued it
abbrev pub reads_event : Counterparts → (call key : ℕ) → (reader room : Option ℕ) → Message → Option Kernel
reads_event one call key reader room message =
    then_taken (tells one.kernel call) (λ queued. read queued key reader one.name one.object room (message_of message ∷ []) (Value 1))

-- a page of each range that a call is to clear is still registered. Once none is, a kernel may give the REMOVE, and the rules do not
abbrev pub AreWatched : Counterparts → Type 0
AreWatched one = (call : ℕ) (span : Span) → span_of one.kernel.untold call ≡ Some span → watches_within one.kernel one.name span.space span.first span.end ≡ true

-- a page fault is read next, not by its own thread, and the buffer has room for it, if the log says what it has
pub record FaultNext : Type 0 where
  pub one : Counterparts
  pub reader : Option ℕ
  pub room : Option ℕ
  pub fits : has_room_for 1 room ≡ true
  pub noted : Noted
  pub rest : List Noted
  pub enabled : one.space.object.enabled ≡ true
  pub first : one.space.object.faults ≡ noted ∷ rest
  pub other : is_of_reader reader (message_of noted.message) ≡ false

-- an event is read next
pub record EventNext : Type 0 where
  pub one : Counterparts
  pub room : Option ℕ
  pub fits : has_room_for 1 room ≡ true
  pub noted : Noted
  pub rest : List Noted
  pub enabled : one.space.object.enabled ≡ true
  pub no_fault : one.space.object.faults ≡ []
  pub first : one.space.object.events ≡ noted ∷ rest
  pub watched : AreWatched one

-- nothing is read next: read(2) of an object with O_NONBLOCK fails
pub record NoneNext : Type 0 where
  pub one : Counterparts
  pub errno : Errno
  pub is : read_error one.space ≡ Some errno
  pub waits : one.object.waits ≡ false

-- read(2) fails for this reason, and returns no message
abbrev pub fails_to_read : Counterparts → (key : ℕ) → (reader room : Option ℕ) → Errno → Option Kernel
fails_to_read one key reader room errno = read one.kernel key reader one.name one.object room [] (Failed (number_of errno) None)
