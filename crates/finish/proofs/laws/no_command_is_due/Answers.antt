use Rattle.finish.proofs.OwnSteps.{of_strategy}
use Rattle.finish.proofs.laws.no_command_is_due.Goals as goal

pub returns : goal.returns
returns c world = of_strategy world
