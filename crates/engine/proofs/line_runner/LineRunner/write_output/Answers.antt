use Rattle.std.proofs.Common.{rules}
use Rattle.engine.proofs.line_runner.LineRunner.write_output.Goals as goal

pub returns-clause-none : goal.returns-clause-none
returns-clause-none g c = search rules
