use Rattle.std.proofs.Common.{arith}
use Rattle.std.proofs.lemmas.Grind.{common_steps}
use Rattle.audit.proofs.audit.print_finding.Goals as goal

pub returns : goal.returns
returns c = record { said = c.first_line.result.now; one = c.first_line.ensures; parts = grind (arith, common_steps) }
