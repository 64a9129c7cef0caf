use Rattle.mig_model.proofs.steps.EveryStep.{kept-reached, urgent-reached}
use Rattle.mig_model.proofs.migration.the_invariant.Goals as goal

pub returns-clause-world : goal.returns-clause-world
returns-clause-world c world reached = kept-reached world reached

pub returns-clause-urgent : goal.returns-clause-urgent
returns-clause-urgent c world reached = urgent-reached world reached
