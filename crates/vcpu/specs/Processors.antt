-- The invariant of the processors of a guest.
use Rattle.std.specs.Prelude.{◌<◌, ◌≤◌, List, length, All}
use Rattle.mig_base.specs.declared.cpu_state.CpuState.{CpuState}
use Rattle.mig_base.specs.declared.TheConstants.{MAX_CPUS}

-- if the processor is in a map call, the call has a message that is still to be read
abbrev pub HasMessage : CpuState → Type 0
HasMessage CpuState.Idle = Unit {0}
HasMessage (CpuState.Asleep command) = Unit {0}
HasMessage (CpuState.Woken command) = Unit {0}
HasMessage (CpuState.InCall reply left) = 0 < left

-- there are 1 to 16 processors, and each map call has a message that is still to be read
pub record AreProcessors (processors : List CpuState) : Type 0 where
  pub some : 0 < length processors
  pub few : length processors ≤ MAX_CPUS
  pub calls : All HasMessage processors
