use Rattle.mig_model.proofs.steps.EveryStep.{kept-reached}
use Rattle.mig_model.proofs.migration.every_schedule.Goals as goal

pub returns-clause-transcript : goal.returns-clause-transcript
returns-clause-transcript c world reached = (kept-reached world reached).memory.flat

pub returns-clause-current : goal.returns-clause-current
returns-clause-current c world reached = (kept-reached world reached).memory.holds
