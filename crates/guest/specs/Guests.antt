-- The guest of the calls.
use Rattle.mig_base.specs.Commands.{is_access}
use Rattle.mig_base.specs.declared.command.Command.{Command}
use Rattle.mig_model.specs.Cpus.{Cpus, Took}
use Rattle.mig_model.specs.Guest.{Guest, took_by}
use Rattle.mig_model.specs.Space.{Space}

-- the guest that has this space and these processors
abbrev pub guest_with : Space → Cpus → Guest
guest_with space cpus = record { space = space; cpus = cpus }

-- the outcome of a command in a space
abbrev pub took_in : Space → Command → Took
took_in space command = took_by (is_access command) space command
