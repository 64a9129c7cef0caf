use Rattle.std.proofs.Common.{inr}
use Rattle.thread_tests.proofs.rigs.turns.ListedTurns.serve.Goals as goal

pub returns-clause-outcome : goal.returns-clause-outcome
returns-clause-outcome c = inr (c.step-outcome.new.self, (c.args.self.now.world, c.headline.ensures.reached, c.step-outcome.ensures.happens))
