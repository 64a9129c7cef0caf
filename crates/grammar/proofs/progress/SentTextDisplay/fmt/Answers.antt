use Rattle.std.proofs.Common.{arith}
use Rattle.std.proofs.lemmas.Grind.{common_steps}
use Rattle.grammar.specs.Printed.{sent_text}
use Rattle.grammar.proofs.progress.SentTextDisplay.fmt.Goals as goal

pub returns-clause-writes : goal.returns-clause-writes
unfolding sent_text
returns-clause-writes c after = grind (arith, common_steps)
