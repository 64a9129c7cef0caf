use Rattle.mig_model.proofs.memory.SpaceLemmas.{IsSoundSpace-fresh}
use Rattle.uffd_ioctl.proofs.space.Space.new.Goals as goal

pub invariant_of-result : goal.invariant_of-result
invariant_of-result c = rw (c.new.ensures, c.new-2.ensures.0, c.new-2.ensures.1, c.new-3.ensures) IsSoundSpace-fresh
