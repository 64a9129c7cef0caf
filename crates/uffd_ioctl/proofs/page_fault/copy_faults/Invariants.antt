use Rattle.std.proofs.Common.{◌≡◌, take}
use Rattle.uffd_ioctl.proofs.page_fault.copy_faults.Given as goal

abbrev pub invariant-loop-i : goal.invariant-loop-i
invariant-loop-i l = l.copy.items ≡ take l.i l.faults.items
