use Rattle.std.proofs.Common.{arith}
use Rattle.std.proofs.lemmas.Grind.{common_steps}
use Rattle.vcpu.proofs.cpus.Cpus.new.Goals as goal

pub returns-clause-cpus : goal.returns-clause-cpus
returns-clause-cpus c = grind (arith, common_steps)
