-- A map of bytes, and how it acts on all that has contents at one host: pages, numbers, commands, replies, spaces and guests. It changes
-- no address, page number, protection, message or count.
use Rattle.std.specs.Prelude.{◌≡◌, ℕ, zero, suc, ◌+◌, ◌*◌, ◌/◌, ◌%◌, ◌^◌, ◌<◌, ◌&&◌, nat_lt, if◌then◌else◌, List, map, Some}
use Rattle.std.specs.Option.{option_map}
use Rattle.std.specs.Ordering.{nat_cmp}
use Rattle.std.specs.FinMap.{FinMap, entries, from_entries, get}
use Rattle.mig_base.specs.declared.command.Access.{Access}
use Rattle.mig_base.specs.declared.command.Access.TheVariants.{Answered}
use Rattle.mig_base.specs.declared.command.Command.{Command}
use Rattle.mig_base.specs.declared.command.Command.TheVariants.{Store}
use Rattle.mig_base.specs.declared.command.Entry.{Entry}
use Rattle.mig_base.specs.declared.command.Reply.{Reply}
use Rattle.mig_base.specs.declared.command.Reply.TheVariants.{Value}
use Rattle.mig_base.specs.declared.cpu_state.CpuState.{CpuState}
use Rattle.mig_base.specs.Flat.{Cell, Memory, is_aligned}
use Rattle.mig_model.specs.Bounds.{IsPageBytes}
use Rattle.mig_model.specs.Cpus.{Took}
use Rattle.mig_model.specs.Guest.{Guest}
use Rattle.mig_model.specs.Host.{Host}
use Rattle.mig_model.specs.Space.{Space}

-- a map of bytes that keeps 0
pub record IsByteMap (f : ℕ → ℕ) : Type 0 where
  pub keeps_zero : f 0 ≡ 0
  pub byte : (n : ℕ) → n < 256 → f n < 256

-- Numbers

-- a number with each of its lowest `width` bytes changed
unfoldable pub digits_under : (ℕ → ℕ) → ℕ → ℕ → ℕ
digits_under f zero number = 0
digits_under f (suc width) number = f (number % 256) + 256 * digits_under f width (number / 256)

-- a number of 64 bits with each of its 8 bytes changed
abbrev pub number_under : (ℕ → ℕ) → ℕ → ℕ
number_under f number = digits_under f 8 number

-- the value of a store: each of its bytes is changed. One of a wrong form, which no memory answers but by BadAccess, keeps its value
abbrev pub stored_under : (ℕ → ℕ) → ℕ → ℕ → ℕ → ℕ
stored_under f addr width value = if is_aligned addr width && nat_lt value (256 ^ width) then number_under f value else value

-- Commands and replies

-- a command: the value of a store
abbrev pub command_under : (ℕ → ℕ) → Command → Command
command_under f (Store addr width value) = Store addr width (stored_under f addr width value)
command_under f command = command

-- a reply: the value of a load
abbrev pub reply_under : (ℕ → ℕ) → Reply → Reply
reply_under f (Value number) = Value (number_under f number)
reply_under f reply = reply

-- how a load or store ends
abbrev pub access_under : (ℕ → ℕ) → Access → Access
access_under f (Answered reply) = Answered (reply_under f reply)
access_under f access = access

-- an entry of the transcript
abbrev pub entry_under : (ℕ → ℕ) → Entry → Entry
entry_under f entry = record entry { command = command_under f entry.command; reply = reply_under f entry.reply }

-- how a command ends
abbrev pub took_under : (ℕ → ℕ) → Took → Took
took_under f (Took.Answer reply) = Took.Answer (reply_under f reply)
took_under f Took.Sleep = Took.Sleep
took_under f (Took.Call reply left) = Took.Call (reply_under f reply) left

-- a processor: the command that waits, or the reply of the map call that it is in
abbrev pub cpu_under : (ℕ → ℕ) → CpuState → CpuState
cpu_under f CpuState.Idle = CpuState.Idle
cpu_under f (CpuState.Asleep command) = CpuState.Asleep (command_under f command)
cpu_under f (CpuState.Woken command) = CpuState.Woken (command_under f command)
cpu_under f (CpuState.InCall reply left) = CpuState.InCall (reply_under f reply) left

-- Memory

-- a flat memory
abbrev pub memory_under : (ℕ → ℕ) → Memory → Memory
memory_under f memory = λ addr. option_map (λ (cell : Cell). record cell { byte = f cell.byte }) (memory addr)

-- a finite map with a function applied to each of its values
unfoldable pub map_values : {X : Type 0} → (X → X) → FinMap nat_cmp X → FinMap nat_cmp X
map_values change pages = from_entries (map (λ e. (e.0, change e.1)) (entries pages))

-- pages: each byte of each page
abbrev pub pages_under : (ℕ → ℕ) → FinMap nat_cmp (List ℕ) → FinMap nat_cmp (List ℕ)
pages_under f pages = map_values (map f) pages

-- a host
abbrev pub host_under : (ℕ → ℕ) → Host → Host
host_under f host = record host { bytes = pages_under f host.bytes }

-- an address space
abbrev pub space_under : (ℕ → ℕ) → Space → Space
space_under f space = record space { host = host_under f space.host }

-- a guest
abbrev pub guest_under : (ℕ → ℕ) → Guest → Guest
guest_under f guest = record { space = space_under f guest.space; cpus = map (cpu_under f) guest.cpus }

-- each page that a map has is the bytes of one page: PAGE_SIZE numbers below 256
abbrev pub AreWholePages : FinMap nat_cmp (List ℕ) → Type 0
AreWholePages pages = (page : ℕ) (bytes : List ℕ) → get pages page ≡ Some bytes → IsPageBytes bytes

-- a map of bytes, and a host whose contents it changes
pub record Changes (f : ℕ → ℕ) (host : Host) : Type 0 where
  pub map : IsByteMap f
  pub whole : AreWholePages host.bytes
