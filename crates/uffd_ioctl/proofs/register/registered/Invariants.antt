use Rattle.std.proofs.Common.{◌≡◌, take}
use Rattle.mig_base.specs.Userfault.{registered_where}
use Rattle.userfault.specs.Modes.{mode_of}
use Rattle.uffd_ioctl.proofs.RegisterLemmas.{is_mapped_by}
use Rattle.uffd_ioctl.proofs.register.registered.Given as goal

abbrev pub invariant-loop-area : goal.invariant-loop-area
invariant-loop-area l = l.after ≡ registered_where l.fn.object (is_mapped_by l.fn.range.first l.fn.range.count (take l.area-index l.area-items)) (mode_of l.fn.mode)
