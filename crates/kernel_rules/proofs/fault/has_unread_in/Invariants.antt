use Rattle.std.proofs.Common.{◌≡◌, drop}
use Rattle.std.specs.List.{list_any}
use Rattle.kernel_rules.specs.Faults.{is_unread_in}
use Rattle.kernel_rules.proofs.fault.has_unread_in.Given as goal

abbrev pub invariant-loop-fault : goal.invariant-loop-fault
invariant-loop-fault l = list_any (is_unread_in l.object l.reach) (drop l.fault-index l.faults) ≡ list_any (is_unread_in l.object l.reach) l.faults
