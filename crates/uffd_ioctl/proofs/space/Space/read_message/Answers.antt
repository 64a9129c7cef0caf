use Rattle.std.proofs.Common.{rules}
use Rattle.uffd_ioctl.proofs.space.Space.read_message.Goals as goal

pub returns-clause-ok : goal.returns-clause-ok
returns-clause-ok c = search rules
