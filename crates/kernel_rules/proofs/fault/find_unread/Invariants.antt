use Rattle.std.proofs.Common.{◌≡◌, drop}
use Rattle.kernel_rules.specs.Reads.{first_unread}
use Rattle.kernel_rules.proofs.fault.find_unread.Given as goal

abbrev pub invariant-loop-fault : goal.invariant-loop-fault
invariant-loop-fault l = first_unread (drop l.fault-index l.faults) l.object ≡ first_unread l.faults l.object
