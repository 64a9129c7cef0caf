use Rattle.std.proofs.Common.{refl}
use Rattle.mig_model.specs.Space.{access_of}
use Rattle.mig_model.proofs.memory.SpaceLemmas.{IsSoundSpace-accessed}
use Rattle.kernel_laws.proofs.Accesses.{makes-taken}
use Rattle.kernel_laws.proofs.a_thread_waits_as_a_processor.Goals as goal

pub returns : goal.returns
returns c it =
    makes-taken it.one it.cpu it.thread it.command (access_of it.one.space it.command) it.access it.enabled it.idle it.named it.watched (IsSoundSpace-accessed it.one.space it.cpu it.command it.access it.one.agree.sound) refl
