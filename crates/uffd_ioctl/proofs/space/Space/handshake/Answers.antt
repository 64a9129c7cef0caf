use Rattle.std.proofs.Common.{rules}
use Rattle.uffd_ioctl.proofs.space.Space.handshake.Goals as goal

pub returns-clause-answer : goal.returns-clause-answer
returns-clause-answer c = search rules
