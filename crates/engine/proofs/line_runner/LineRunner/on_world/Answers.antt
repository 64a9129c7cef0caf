use Rattle.std.proofs.Common.{rules}
use Rattle.engine.proofs.line_runner.LineRunner.on_world.Goals as goal

pub returns-clause-ok : goal.returns-clause-ok
returns-clause-ok c = search rules
