use Rattle.mig_model.proofs.steps.EveryStep.{kept-reached}
use Rattle.mig_model.proofs.transcript.PromiseLemmas.{is_precopying}
use Rattle.mig_model.proofs.migration.clean_copies.Goals as goal

pub returns : goal.returns
returns c world reached up precopy = is_precopying world (kept-reached world reached) up precopy
