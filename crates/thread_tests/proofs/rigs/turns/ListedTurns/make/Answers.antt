use Rattle.thread_tests.proofs.rigs.turns.ListedTurns.make.Goals as goal

pub returns-clause-outcome : goal.returns-clause-outcome
returns-clause-outcome c = (c.step-outcome.new.self, (c.args.self.now.world, c.headline.ensures.reached, c.step-outcome.ensures.happens))
