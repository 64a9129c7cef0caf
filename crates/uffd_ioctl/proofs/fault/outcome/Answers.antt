use Rattle.std.proofs.Common.{rules}
use Rattle.uffd_ioctl.proofs.fault.outcome.Goals as goal

pub returns-in-None : goal.returns-in-None
returns-in-None c = search rules
