use Rattle.std.proofs.Common.{◌∙◌, ap, set}
use Rattle.mig_base.specs.declared.cpu_state.CpuState.{CpuState}
use Rattle.vcpu.proofs.cpus.Cpus.fall_asleep.Goals as goal

pub returns : goal.returns
returns c = c.put.ensures ∙ ap (λ k. set c.args.self.now k (CpuState.Asleep c.args.command)) c.from.ensures
