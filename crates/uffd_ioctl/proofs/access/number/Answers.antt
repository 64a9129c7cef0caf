use Rattle.std.proofs.Common.{◌∙◌}
use Rattle.uffd_ioctl.proofs.NumberLemmas.{little_number-all}
use Rattle.uffd_ioctl.proofs.access.number.Goals as goal

pub returns : goal.returns
returns c = c.read_uint.ensures ∙ little_number-all c.args.bytes.now
