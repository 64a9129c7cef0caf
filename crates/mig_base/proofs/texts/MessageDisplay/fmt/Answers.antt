use Rattle.std.proofs.Common.{arith}
use Rattle.std.proofs.lemmas.Grind.{common_steps}
use Rattle.mig_base.proofs.texts.MessageDisplay.fmt.Goals as goal

pub returns-in-Remove-clause-writes : goal.returns-in-Remove-clause-writes
returns-in-Remove-clause-writes c after = grind (arith, common_steps)
