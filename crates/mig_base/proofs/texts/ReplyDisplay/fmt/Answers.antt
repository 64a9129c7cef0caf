use Rattle.std.proofs.Common.{arith}
use Rattle.std.proofs.lemmas.Grind.{common_steps}
use Rattle.mig_base.proofs.texts.ReplyDisplay.fmt.Goals as goal

pub returns-in-Segv-true-clause-writes : goal.returns-in-Segv-true-clause-writes
returns-in-Segv-true-clause-writes c after = grind (arith, common_steps)
