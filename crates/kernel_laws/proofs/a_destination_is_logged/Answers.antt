use Rattle.kernel_laws.proofs.FirstCalls.{has-log}
use Rattle.kernel_laws.proofs.DestinationRuns.{steps-logged}
use Rattle.kernel_laws.proofs.a_destination_is_logged.Goals as goal

pub returns-clause-steps : goal.returns-clause-steps
returns-clause-steps c at key steps followed = steps-logged at key steps followed

pub returns-clause-whole : goal.returns-clause-whole
returns-clause-whole c it steps followed = has-log it steps followed
