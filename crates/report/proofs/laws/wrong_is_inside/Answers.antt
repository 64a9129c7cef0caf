use Rattle.report.proofs.CheckLemmas.{wrong_inside}
use Rattle.report.proofs.laws.wrong_is_inside.Goals as goal

pub returns : goal.returns
returns c = wrong_inside
