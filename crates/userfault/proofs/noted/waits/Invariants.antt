use Rattle.std.proofs.Common.{◌≡◌, false, take}
use Rattle.std.specs.List.{list_any}
use Rattle.mig_base.specs.Userfault.{is_fault_at}
use Rattle.userfault.proofs.noted.waits.Given as goal

abbrev pub invariant-loop-i : goal.invariant-loop-i
invariant-loop-i l = list_any (λ noted. is_fault_at noted.message l.addr l.wp) (take l.i l.faults.items) ≡ false
