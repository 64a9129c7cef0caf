use Rattle.engine.proofs.OneRun.{one_run}
use Rattle.engine.proofs.laws.one_output.Goals as goal

pub returns : goal.returns
returns c = one_run
