-- How many processors a guest may have, and what the calls of `Cpus` answer that no step of the machine asks.
use Rattle.std.specs.Prelude.{ℕ, ◌&&◌, nat_le, Bool, Option, Result, Ok, Err, List}
use Rattle.mig_base.specs.declared.TheConstants.{MAX_CPUS}
use Rattle.mig_base.specs.declared.command.Command.{Command}
use Rattle.mig_base.specs.declared.command.Reply.{Reply}
use Rattle.mig_base.specs.declared.cpu_state.CpuState.{CpuState}
use Rattle.mig_base.specs.declared.refusal.Refusal.{Refusal}
use Rattle.mig_model.specs.Cpus.{answer_by, outstanding, handed_over}

-- whether a guest may have this number of processors
abbrev pub is_count : ℕ → Bool
is_count n = nat_le 1 n && nat_le n MAX_CPUS

-- the state of processor k
abbrev pub state_answer : List CpuState → ℕ → Result CpuState Refusal
state_answer processors k = answer_by (λ processor. Ok processor) processors k

-- the command that processor k still has to make: that of a processor that sleeps or was woken
abbrev pub outstanding_answer : List CpuState → ℕ → Result (Option Command) Refusal
outstanding_answer processors k = answer_by (λ processor. Ok (outstanding processor)) processors k

-- the reading of one message of a processor's map call: the last one hands over the call's reply
abbrev pub message_by : CpuState → Result (Option Reply) Refusal
message_by (CpuState.InCall reply left) = Ok (handed_over (CpuState.InCall reply left))
message_by _ = Err Refusal.NotAsleep

-- the reply that processor k is handed when one more message of its map call is read, if that was the last
abbrev pub message_answer : List CpuState → ℕ → Result (Option Reply) Refusal
message_answer processors k = answer_by message_by processors k
