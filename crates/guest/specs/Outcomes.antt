-- The outcome of a command, as the code has it.
use Rattle.std.specs.Prelude.{◌≡◌, ◌<◌, true}
use Rattle.mig_base.specs.declared.command.Command.{Command}
use Rattle.mig_base.specs.Commands.{is_access}
use Rattle.mig_model.specs.Cpus as machine
use Rattle.guest.specs.declared.took.Took.{Took}

-- the machine's outcome that an outcome of the code means
abbrev pub took_of : Took → machine.Took
took_of (Took.Answer reply) = machine.Took.Answer reply
took_of Took.Sleep = machine.Took.Sleep
took_of (Took.Call reply left) = machine.Took.Call reply left

-- a command may have this outcome: only a load or a store sleeps, and a map call that continues has messages
abbrev pub IsOutcome : Command → Took → Type 0
IsOutcome command (Took.Answer reply) = Unit {0}
IsOutcome command Took.Sleep = is_access command ≡ true
IsOutcome command (Took.Call reply left) = 0 < left
