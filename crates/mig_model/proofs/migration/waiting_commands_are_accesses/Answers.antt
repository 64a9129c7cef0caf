use Rattle.mig_model.proofs.transcript.WaitingAccesses.{are_accesses}
use Rattle.mig_model.proofs.migration.waiting_commands_are_accesses.Goals as goal

pub returns : goal.returns
returns c world reached = are_accesses world reached
