-- The processors of the guest: the state of each, and how a command, a message that is read and a wake-up change it.
use Rattle.std.specs.Prelude.{ℕ, zero, suc, nat_lt, Bool, true, false, if◌then◌else◌, Option, Some, None, Result, Ok, Err, List, [], ◌∷◌, length, map, get_or, replicate}
use Rattle.mig_base.specs.declared.command.Access.{Access}
use Rattle.mig_base.specs.declared.command.Access.TheVariants.{Answered, Missing, Protected}
use Rattle.mig_base.specs.declared.command.Command.{Command}
use Rattle.mig_base.specs.declared.command.Entry.{Entry}
use Rattle.mig_base.specs.declared.command.Reply.{Reply}
use Rattle.mig_base.specs.declared.cpu_state.CpuState.{CpuState}
use Rattle.mig_base.specs.declared.refusal.Refusal.{Refusal}
use Rattle.mig_base.specs.Commands.{page_of}

-- the state of each processor, in the order of their numbers
abbrev pub Cpus : Type 0
Cpus = List CpuState

-- `count` idle processors
abbrev pub idle_processors : ℕ → List CpuState
idle_processors count = replicate count CpuState.Idle

-- the state of processor k; Idle if the guest has no such processor
abbrev pub processor_at : List CpuState → ℕ → CpuState
processor_at processors k = get_or processors k CpuState.Idle

-- whether a processor has no command under way, so that Issue can give it one
abbrev pub is_idle : CpuState → Bool
is_idle CpuState.Idle = true
is_idle _ = false

-- whether a processor was woken and has not retried its command since, so that Retry can
abbrev pub is_woken : CpuState → Bool
is_woken (CpuState.Woken command) = true
is_woken _ = false

-- the command that a processor still has to make: asleep or woken. A map call was made at its Issue, and waits for its messages alone
abbrev pub outstanding : CpuState → Option Command
outstanding CpuState.Idle = None
outstanding (CpuState.Asleep command) = Some command
outstanding (CpuState.Woken command) = Some command
outstanding (CpuState.InCall reply left) = None

-- the state in which the destination's processor takes over an outstanding command of the Package: it must be retried
abbrev pub taken_over : Option Command → CpuState
taken_over None = CpuState.Idle
taken_over (Some command) = CpuState.Woken command

-- a processor, which is woken if it sleeps on a page that passes the test
abbrev pub woken_if : (ℕ → Bool) → CpuState → CpuState
woken_if test (CpuState.Asleep command) = if test (page_of command) then CpuState.Woken command else CpuState.Asleep command
woken_if test processor = processor

-- all processors, of which those are woken that sleep on a page that passes the test: UFFDIO_WAKE
abbrev pub all_woken : (ℕ → Bool) → List CpuState → List CpuState
all_woken test processors = map (woken_if test) processors

-- a processor in a map call, once one more of its messages is read: it is idle after the last
abbrev pub message_less : CpuState → CpuState
message_less (CpuState.InCall reply (suc (suc left))) = CpuState.InCall reply (suc left)
message_less (CpuState.InCall reply (suc zero)) = CpuState.Idle
message_less processor = processor

-- the reply that a processor in a map call gets when its last message is read; none before that
abbrev pub handed_over : CpuState → Option Reply
handed_over (CpuState.InCall reply (suc zero)) = Some reply
handed_over processor = None

-- Commands

-- how a command ends: with a reply, asleep on a page, or in a map call that returns once `left` messages are read
pub data Took : Type 0 where
  Answer : (reply : Reply) → Took
  Sleep : Took
  Call : (reply : Reply) → (left : ℕ) → Took

-- how a load or store ends: with a reply, or asleep on a page fault
abbrev pub access_took : Access → Took
access_took (Answered reply) = Answer reply
access_took Missing = Sleep
access_took Protected = Sleep

-- the processor after that
abbrev pub processor_after : Command → Took → CpuState
processor_after command (Answer reply) = CpuState.Idle
processor_after command Sleep = CpuState.Asleep command
processor_after command (Call reply left) = CpuState.InCall reply left

-- how a map call ends, by its reply and the number of messages that it has queued: without any it returns at once
abbrev pub call_took : Reply → ℕ → Took
call_took reply zero = Answer reply
call_took reply (suc left) = Call reply (suc left)

-- the entries that a command makes in the transcript: one if it takes effect, none if it sleeps
abbrev pub entries_of : ℕ → Command → Took → List Entry
entries_of cpu command (Answer reply) = record { cpu = cpu; command = command; reply = reply } ∷ []
entries_of cpu command Sleep = []
entries_of cpu command (Call reply left) = record { cpu = cpu; command = command; reply = reply } ∷ []

-- Which processor may begin or retry a command

-- what processor k answers, by its state alone; NoCpu if the guest has no such processor
abbrev pub answer_by : {A : Type 0} → (CpuState → Result A Refusal) → List CpuState → ℕ → Result A Refusal
answer_by by processors k = if nat_lt k (length processors) then by (processor_at processors k) else Err Refusal.NoCpu

-- only an idle processor begins a command
abbrev pub idle_by : CpuState → Result (Unit {0}) Refusal
idle_by CpuState.Idle = Ok tt
idle_by _ = Err Refusal.Busy

-- whether processor k may begin a command: refused as NoCpu if there is no such processor, Busy unless it is idle
abbrev pub idle_answer : List CpuState → ℕ → Result (Unit {0}) Refusal
idle_answer processors k = answer_by idle_by processors k

-- only a processor that was woken retries its command
abbrev pub woken_command : CpuState → Result Command Refusal
woken_command CpuState.Idle = Err Refusal.NotAsleep
woken_command (CpuState.Asleep command) = Err Refusal.NotWoken
woken_command (CpuState.Woken command) = Ok command
woken_command (CpuState.InCall reply left) = Err Refusal.NotAsleep

-- the command that processor k retries: refused as NoCpu if there is no such processor, NotAsleep if it is idle or in a map call,
-- NotWoken while it sleeps
abbrev pub woken_answer : List CpuState → ℕ → Result Command Refusal
woken_answer processors k = answer_by woken_command processors k
