use Rattle.std.proofs.Common.{rules}
use Rattle.uffd_ioctl.proofs.space.Space.is_protected.Goals as goal

pub returns : goal.returns
returns c = search rules
