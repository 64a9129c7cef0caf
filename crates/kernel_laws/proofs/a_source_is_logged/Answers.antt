use Rattle.kernel_laws.proofs.SourceOpens.{source-always-has-log, source-has-log}
use Rattle.kernel_laws.proofs.SourceRuns.{source-logged}
use Rattle.kernel_laws.proofs.a_source_is_logged.Goals as goal

pub returns-clause-steps : goal.returns-clause-steps
returns-clause-steps c at key steps followed kept = source-logged at key steps followed kept

pub returns-clause-whole : goal.returns-clause-whole
returns-clause-whole c it steps followed kept = source-has-log it steps followed kept

pub returns-clause-released : goal.returns-clause-released
returns-clause-released c it steps followed = source-always-has-log it steps followed
