use Rattle.report.proofs.CheckLemmas.{wrong_no_run}
use Rattle.report.proofs.laws.wrong_is_no_flat_run.Goals as goal

pub returns : goal.returns
returns c = wrong_no_run
