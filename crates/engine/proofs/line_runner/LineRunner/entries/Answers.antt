use Rattle.std.proofs.Common.{rules}
use Rattle.engine.proofs.line_runner.LineRunner.entries.Goals as goal

pub returns-in-Keep : goal.returns-in-Keep
returns-in-Keep c = search rules
