use Rattle.uffd_ioctl.proofs.remap.apply.Goals as goal

pub unreachable-requires : goal.unreachable-requires
unreachable-requires c = c.in_default.ensures.none c.requires.range.some c.requires.prot.0 c.requires.prot.1
