use Rattle.std.proofs.Common.{arith}
use Rattle.std.proofs.lemmas.Grind.{common_steps}
use Rattle.vcpu.proofs.cpus.Cpus.ensure_idle.Goals as goal

pub returns-in-Idle : goal.returns-in-Idle
returns-in-Idle c = grind (arith, common_steps)
