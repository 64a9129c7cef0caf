-- A processor of a node's guest, in numbers.
use Rattle.std.specs.Prelude.{◌≡◌, ℕ, Result, Ok, Err, List}
use Rattle.std.specs.declared.option.Option.{Option}
use Rattle.std.specs.declared.option.Option.TheVariants.{Some}
use Rattle.mig_base.specs.declared.cpu_state.CpuState.{CpuState}
use Rattle.mig_base.specs.declared.refusal.Refusal.{Refusal}
use Rattle.mig_model.specs.Cpus.{outstanding}
use Rattle.postmig_c.specs.Commands.{command_of}
use Rattle.postmig_c.specs.Refusals.{refusal_status}
use Rattle.postmig_c.specs.declared.handle.Content.{Content}
use Rattle.postmig_c.specs.declared.handle.Content.TheVariants.{Source, Destination}
use Rattle.postmig_c.specs.declared.processors.ProcessorNumbers.{ProcessorNumbers}

-- the number of a state
abbrev pub processor_state : CpuState → ℕ
processor_state CpuState.Idle = 0
processor_state (CpuState.Asleep command) = 1
processor_state (CpuState.Woken command) = 2
processor_state (CpuState.InCall reply left) = 3

-- how many messages of its map call are unread
abbrev pub messages_left : CpuState → ℕ
messages_left (CpuState.InCall reply left) = left
messages_left processor = 0

-- a processor in numbers, and its command is the one that it still has to make
pub record IsProcessor (processor : CpuState) (numbers : ProcessorNumbers) : Type 0 where
  pub state : numbers.state ≡ processor_state processor
  pub messages : numbers.messages ≡ messages_left processor
  pub command : command_of numbers.command ≡ outstanding processor

-- the numbers of a processor, or the status of its refusal
abbrev pub ShowsProcessor : Result CpuState Refusal → ℕ → ProcessorNumbers → Type 0
ShowsProcessor (Ok processor) status numbers = (status ≡ 0) × IsProcessor processor numbers
ShowsProcessor (Err refusal) status numbers = status ≡ refusal_status refusal

-- the handle has a node, and this holds of the processors of its guest
abbrev pub TellsProcessors : Option Content → (List CpuState → Type 0) → Type 0
TellsProcessors (Some (Source traced)) P = P traced.node.node.guest.cpus
TellsProcessors (Some (Destination traced)) P = P traced.node.node.guest.cpus
TellsProcessors content P = ⊥
