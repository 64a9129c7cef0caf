use Rattle.mig_model.proofs.steps.EveryStep.{kept-reached}
use Rattle.mig_model.proofs.transcript.PromiseLemmas.{are_paired}
use Rattle.mig_model.proofs.migration.owed_pairs.Goals as goal

pub returns : goal.returns
returns c world reached = are_paired world (kept-reached world reached)
