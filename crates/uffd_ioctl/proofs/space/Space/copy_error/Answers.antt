use Rattle.std.proofs.Common.{rules}
use Rattle.uffd_ioctl.proofs.space.Space.copy_error.Goals as goal

pub returns : goal.returns
returns c = search rules
