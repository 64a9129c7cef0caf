-- An address space with its userfault object: what loads, stores and map calls do in it. userfaultfd(2), ioctl_userfaultfd(2).
use Rattle.std.specs.Prelude.{◌≡◌, ℕ, ◌+◌, ◌-◌, ◌*◌, ◌/◌, ◌==◌, ◌&&◌, not, nat_lt, Bool, true, false, if◌then◌else◌, List, [], ◌∷◌, ◌++◌, length}
use Rattle.std.specs.Ordering.{nat_cmp}
use Rattle.std.specs.FinMap.{contains_key}
use Rattle.std.specs.FinSet.{FinSet, empty, contains}
use Rattle.foundation.specs.declared.TheConstants.{PAGE_SIZE}
use Rattle.mig_base.specs.declared.TheConstants.{HIGH}
use Rattle.mig_base.specs.declared.command.Errno.TheVariants.{Enomem}
use Rattle.mig_base.specs.declared.command.Command.{Command}
use Rattle.mig_base.specs.declared.command.Command.TheVariants.{Mmap, Munmap, Mremap, DontNeed}
use Rattle.mig_base.specs.declared.command.Reply.{Reply}
use Rattle.mig_base.specs.declared.command.Reply.TheVariants.{Value, Done, At, Refused}
use Rattle.mig_base.specs.declared.command.Access.{Access}
use Rattle.mig_base.specs.declared.command.Access.TheVariants.{Answered, Missing, Protected}
use Rattle.mig_base.specs.declared.message.Message.{Message}
use Rattle.mig_base.specs.declared.message.Message.TheVariants.{Remap, Remove, Unmap}
use Rattle.mig_base.specs.Commands.{is_store, page_of}
use Rattle.foundation.specs.Ranges.{lesser, pages_of, rounded}
use Rattle.mig_base.specs.Sets.{without, moved_set}
use Rattle.mig_base.specs.Flat.{reply_of}
use Rattle.mig_model.specs.Host.{Host, bare_host, memory, host_after, IsSound}
use Rattle.mig_base.specs.Userfault.{Object, fresh_object, mode_at, is_registered, is_watched, unregistered, moved_modes, fault_queued, event_queued}

-- a host, its present pages that are write-protected, and its userfault object
pub record Space : Type 0 where
  pub host : Host
  pub protected : FinSet nat_cmp
  pub object : Object

-- nothing is mapped, and the object is not enabled
abbrev pub fresh_space : Space
fresh_space = record { host = bare_host; protected = empty; object = fresh_object }

-- what every space keeps
pub record IsSoundSpace (space : Space) : Type 0 where
  pub host : IsSound space.host
  -- each registered page is mapped
  pub mapped : (page : ℕ) → is_registered space.object page ≡ true → contains_key space.host.areas page ≡ true
  -- each protected page is present, and registered for write-protect faults
  pub present : (page : ℕ) → contains space.protected page ≡ true → contains_key space.host.bytes page ≡ true
  pub watched : (page : ℕ) → contains space.protected page ≡ true → contains space.object.protect page ≡ true

-- Loads and stores

-- whether the flat memory would make the access
abbrev pub is_made : Reply → Bool
is_made (Value number) = true
is_made Done = true
is_made _ = false

-- how a load or store ends. One that is wrong or not permitted is answered as the flat memory answers it. One of a missing page that is
-- registered for missing faults, or a store to a write-protected page that is registered for that, is a page fault. Any other is answered
abbrev pub access_of : Space → Command → Access
access_of space command =
    if not (is_made (reply_of (memory space.host) command)) then Answered (reply_of (memory space.host) command)
    else if not (contains_key space.host.bytes (page_of command)) && contains space.object.missing (page_of command) then Missing
    else if is_store command && contains space.object.protect (page_of command) && contains space.protected (page_of command) then Protected
    else Answered (reply_of (memory space.host) command)

-- the space after such an access of a processor: one that is answered is made, and else its page fault is queued: UFFD_EVENT_PAGEFAULT
abbrev pub accessed_by : Access → Space → ℕ → Command → Space
accessed_by (Answered reply) space cpu command = record space { host = host_after space.host command }
accessed_by Missing space cpu command = record space { object = fault_queued space.object (PAGE_SIZE * page_of command) (is_store command) false cpu }
accessed_by Protected space cpu command = record space { object = fault_queued space.object (PAGE_SIZE * page_of command) true true cpu }

-- the space after a load or store of a processor
abbrev pub accessed : Space → ℕ → Command → Space
accessed space cpu command = accessed_by (access_of space command) space cpu command

-- Map calls

-- one message if the test holds, else none
abbrev pub message_if : Bool → Message → List Message
message_if true message = message ∷ []
message_if false message = []

-- the events of mremap(2): UNMAP of a replaced target, UNMAP of a tail that was cut off, and REMAP of the range that moved, each only if
-- a page of it was registered
abbrev pub remap_messages : Object → ℕ → ℕ → ℕ → ℕ → List Message
remap_messages object addr count target new_count =
    let from = addr / PAGE_SIZE in
    let to = target / PAGE_SIZE in
    message_if (not (to == from) && is_watched object to new_count) (Unmap target (target + PAGE_SIZE * new_count))
    ++ message_if (nat_lt new_count count && is_watched object (from + new_count) (count - new_count)) (Unmap (addr + PAGE_SIZE * new_count) (addr + PAGE_SIZE * count))
    ++ message_if (not (to == from) && is_watched object from (lesser count new_count)) (Remap addr target (PAGE_SIZE * lesser count new_count))

-- the events of a map call with this reply, by the object as it was before: userfaultfd(2), UFFD_EVENT_UNMAP, UFFD_EVENT_REMOVE and
-- UFFD_EVENT_REMAP. A range ends at the end of the address space at the latest
abbrev pub call_messages : Object → Command → Reply → List Message
call_messages object (Mmap len prot place) (At start) = message_if (is_watched object (start / PAGE_SIZE) (pages_of len)) (Unmap start (start + rounded len))
call_messages object (Munmap addr len) Done = message_if (is_watched object (addr / PAGE_SIZE) (pages_of len)) (Unmap addr (addr + rounded len))
call_messages object (Mremap addr old_len new_len may_move fixed) (At target) = remap_messages object addr (pages_of old_len) target (pages_of new_len)
call_messages object (DontNeed addr len) Done = message_if (is_watched object (addr / PAGE_SIZE) (pages_of len)) (Remove addr (addr + rounded len))
call_messages object (DontNeed addr len) (Refused Enomem) = message_if (is_watched object (addr / PAGE_SIZE) (pages_of len)) (Remove addr (lesser (addr + rounded len) HIGH))
call_messages object _ _ = []

-- the registered pages after a map call. A page keeps its mode when it moves, the pages by which a range grows have that of its last
-- page, and madvise(2) leaves the modes as they are
abbrev pub modes_after : Object → Command → Reply → Object
modes_after object (Mmap len prot place) (At start) = unregistered object (start / PAGE_SIZE) (pages_of len)
modes_after object (Munmap addr len) Done = unregistered object (addr / PAGE_SIZE) (pages_of len)
modes_after object (Mremap addr old_len new_len may_move fixed) (At target) =
    moved_modes object (addr / PAGE_SIZE) (pages_of old_len) (target / PAGE_SIZE) (pages_of new_len) (mode_at object (addr / PAGE_SIZE + (pages_of old_len - 1)))
modes_after object _ _ = object

-- the write-protected pages after a map call: a page keeps its protection when it moves, and a page that is not present has none
abbrev pub protected_after : FinSet nat_cmp → Command → Reply → FinSet nat_cmp
protected_after pages (Mmap len prot place) (At start) = without pages (start / PAGE_SIZE) (pages_of len)
protected_after pages (Munmap addr len) Done = without pages (addr / PAGE_SIZE) (pages_of len)
protected_after pages (Mremap addr old_len new_len may_move fixed) (At target) = moved_set pages (addr / PAGE_SIZE) (pages_of old_len) (target / PAGE_SIZE) (pages_of new_len) false
protected_after pages (DontNeed addr len) Done = without pages (addr / PAGE_SIZE) (pages_of len)
protected_after pages (DontNeed addr len) (Refused Enomem) = without pages (addr / PAGE_SIZE) (pages_of len)
protected_after pages _ _ = pages

-- the object once all the messages of a processor are queued, in their order
abbrev pub all_queued : Object → List Message → ℕ → Object
all_queued object [] cpu = object
all_queued object (message ∷ messages) cpu = all_queued (event_queued object message cpu) messages cpu

-- the space after a map call of a processor with this reply: the call is made, and its events are queued. The processor stays in the
-- call until all of them are read
abbrev pub called_with : Space → ℕ → Command → Reply → Space
called_with space cpu command reply =
    record {
      host = host_after space.host command;
      protected = protected_after space.protected command reply;
      object = all_queued (modes_after space.object command reply) (call_messages space.object command reply) cpu;
    }

-- the space after a map call of a processor, which has the reply of the flat memory
abbrev pub called : Space → ℕ → Command → Space
called space cpu command = called_with space cpu command (reply_of (memory space.host) command)

-- how many messages a map call queues
abbrev pub queued_by : Space → Command → ℕ
queued_by space command = length (call_messages space.object command (reply_of (memory space.host) command))
