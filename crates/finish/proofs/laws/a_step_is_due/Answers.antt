use Rattle.finish.proofs.Strategy.{step_is_due}
use Rattle.finish.proofs.laws.a_step_is_due.Goals as goal

pub returns : goal.returns
returns c world reached count = step_is_due world reached count
