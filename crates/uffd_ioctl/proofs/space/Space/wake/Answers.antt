use Rattle.std.proofs.Common.{rules}
use Rattle.uffd_ioctl.proofs.space.Space.wake.Goals as goal

pub returns : goal.returns
returns c = search rules
