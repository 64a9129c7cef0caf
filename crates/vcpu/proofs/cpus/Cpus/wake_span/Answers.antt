use Rattle.vcpu.proofs.cpus.Cpus.wake_span.Goals as goal

pub returns : goal.returns
returns c = c.wake.ensures
