use Rattle.report.proofs.CheckLemmas.{one_wrong}
use Rattle.report.proofs.laws.one_first_wrong.Goals as goal

pub returns : goal.returns
returns c = one_wrong
