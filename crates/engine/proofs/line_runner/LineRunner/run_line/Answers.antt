use Rattle.std.proofs.Common.{ap}
use Rattle.engine.proofs.line_runner.LineRunner.run_line.Goals as goal

pub returns-in-None-clause-kept : goal.returns-in-None-clause-kept
returns-in-None-clause-kept c = ap (λ gathered. gathered.output) c.self.view_is
