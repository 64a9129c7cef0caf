use Rattle.std.proofs.Common.{arith}
use Rattle.std.proofs.lemmas.Grind.{common_steps}
use Rattle.grammar.proofs.texts.CommandTextDisplay.fmt.Goals as goal

pub returns-in-Load-clause-writes : goal.returns-in-Load-clause-writes
returns-in-Load-clause-writes c after = grind (arith, common_steps)

pub returns-in-Munmap-clause-writes : goal.returns-in-Munmap-clause-writes
returns-in-Munmap-clause-writes c after = grind (arith, common_steps)
