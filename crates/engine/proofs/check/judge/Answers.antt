use Rattle.std.proofs.Common.{arith}
use Rattle.std.proofs.lemmas.Grind.{common_steps}
use Rattle.engine.proofs.check.judge.Goals as goal

pub returns-in_ok-write-in-Ok-clause-ok : goal.returns-in_ok-write-in-Ok-clause-ok
returns-in_ok-write-in-Ok-clause-ok c = grind (arith, common_steps)

pub returns-in_ok-write-in-Err-Wrong-clause-ok : goal.returns-in_ok-write-in-Err-Wrong-clause-ok
returns-in_ok-write-in-Err-Wrong-clause-ok c = grind (arith, common_steps)
