-- The guest at a node: its memory with the userfault object, and its processors; and how a command, a message that is read and a fault
-- that is resolved change them.
use Rattle.std.specs.Prelude.{ℕ, ◌+◌, ◌-◌, ◌/◌, ◌^◌, ◌==◌, ◌||◌, not, nat_lt, Bool, true, false, List, [], ◌∷◌, ◌++◌, set}
use Rattle.std.specs.FinMap.{contains_key}
use Rattle.foundation.specs.declared.TheConstants.{PAGE_SIZE}
use Rattle.mig_base.specs.declared.command.Command.{Command}
use Rattle.mig_base.specs.declared.message.Message.{Message}
use Rattle.mig_base.specs.declared.message.Message.TheVariants.{PageFault, Remap, Remove, Unmap}
use Rattle.foundation.specs.Ranges.{in_range, lesser}
use Rattle.mig_base.specs.Bytes.{zero_page}
use Rattle.mig_base.specs.Flat.{reply_of}
use Rattle.mig_model.specs.Host.{memory}
use Rattle.mig_base.specs.Userfault.{changing, is_registered, message_read}
use Rattle.mig_model.specs.Space.{Space, access_of, accessed, called, queued_by}
use Rattle.mig_model.specs.Ioctls.{installed}
use Rattle.mig_model.specs.Cpus.{Cpus, Took, access_took, call_took, processor_at, processor_after, all_woken, message_less}

-- the guest at one node: its address space, and the processors that run in it
pub record Guest : Type 0 where
  -- the address space with its userfault object
  pub space : Space
  -- the state of each processor
  pub cpus : Cpus

-- Commands

-- how a command ends; the first argument says whether it is a load or store
abbrev pub took_by : Bool → Space → Command → Took
took_by true space command = access_took (access_of space command)
took_by false space command = call_took (reply_of (memory space.host) command) (queued_by space command)

-- the space after a command of a processor
abbrev pub space_by : Bool → Space → ℕ → Command → Space
space_by true space cpu command = accessed space cpu command
space_by false space cpu command = called space cpu command

-- the guest once a processor has tried a command
abbrev pub tried : Bool → Guest → ℕ → Command → Guest
tried access guest cpu command =
    record guest {
      space = space_by access guest.space cpu command;
      cpus = set guest.cpus cpu (processor_after command (took_by access guest.space command));
    }

-- Messages

-- whether a page lies in the address range from `start` up to `end`, both in bytes and multiples of the page size
abbrev pub in_bytes : ℕ → ℕ → ℕ → Bool
in_bytes start end page = in_range (start / PAGE_SIZE) (end / PAGE_SIZE - start / PAGE_SIZE) page

-- the pages that an event changed: those that are gone, and of a move both ranges
abbrev pub is_changed_by : Message → ℕ → Bool
is_changed_by (Remap from to len) page = in_bytes from (from + len) page || in_bytes to (to + len) page
is_changed_by (Remove start end) page = in_bytes start end page
is_changed_by (Unmap start end) page = in_bytes start end page
is_changed_by (PageFault addr write wp tid) page = false

-- the pages whose sleepers are woken when it is read: those that are gone, and of a move those that moved away
abbrev pub is_left_by : Message → ℕ → Bool
is_left_by (Remap from to len) page = in_bytes from (from + len) page
is_left_by message page = is_changed_by message page

-- the processors once a message is read that processor `cpu` has caused. An event wakes those that sleep on pages that are gone or moved
-- away, and its own processor waits for one message less
abbrev pub cpus_read : Cpus → ℕ → Message → Cpus
cpus_read cpus cpu (PageFault addr write wp tid) = cpus
cpus_read cpus cpu message = all_woken (is_left_by message) (set cpus cpu (message_less (processor_at cpus cpu)))

-- the guest once its handler has read a message that processor `cpu` has caused
abbrev pub read_guest : Guest → ℕ → Message → Guest
read_guest guest cpu message =
    record { space = record guest.space { object = message_read guest.space.object }; cpus = cpus_read guest.cpus cpu message }

-- Faults

-- a fault that a handler has read: its page, and whether it is a write-protect fault
pub record Fault : Type 0 where
  pub page : ℕ
  pub wp : Bool

-- the faults that are held once a message is read
abbrev pub held_after : List Fault → Message → List Fault
held_after held (PageFault addr write wp tid) = held ++ record { page = addr / PAGE_SIZE; wp = wp } ∷ []
held_after held message = held

-- the faults after the first
abbrev pub rest_held : List Fault → List Fault
rest_held [] = []
rest_held (fault ∷ rest) = rest

-- a count of 64 bits once `more` is added: it stops at its greatest value
abbrev pub counted : ℕ → ℕ → ℕ
counted count more = lesser (count + more) (2 ^ 64 - 1)

-- how many page faults a message reports: 1 or 0
abbrev pub fault_count : Message → ℕ
fault_count (PageFault addr write wp tid) = 1
fault_count message = 0

-- the guest once a fault is resolved: it has this space, and those that sleep on the page are woken
abbrev pub resolved : Guest → ℕ → Space → Guest
resolved guest page space = record { space = space; cpus = all_woken (λ q. q == page) guest.cpus }

-- the space once a missing page is zeros: UFFDIO_ZEROPAGE
abbrev pub zero_installed : Space → ℕ → Space
zero_installed space page = installed space page 1 (λ i. zero_page) false

-- whether a page is gone for the handler: not mapped, or not registered
abbrev pub is_forgotten : Space → ℕ → Bool
is_forgotten space page = not (contains_key space.host.areas page) || not (is_registered space.object page)

-- whether a page is present: it has bytes of its own
abbrev pub is_present : Space → ℕ → Bool
is_present space page = contains_key space.host.bytes page

-- whether a guest has unread events: its address space is changing, which is the refusal Changing
abbrev pub is_changing : Guest → Bool
is_changing guest = nat_lt 0 (changing guest.space.object)
