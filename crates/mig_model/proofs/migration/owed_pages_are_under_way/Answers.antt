use Rattle.mig_model.proofs.steps.EveryStep.{kept-reached, urgent-reached}
use Rattle.mig_model.proofs.transcript.PromiseLemmas.{are_under_way}
use Rattle.mig_model.proofs.migration.owed_pages_are_under_way.Goals as goal

pub returns : goal.returns
returns c world reached ran = are_under_way world (kept-reached world reached) (urgent-reached world reached) ran
