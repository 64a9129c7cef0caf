use Rattle.std.proofs.Common.{◌≡◌, drop}
use Rattle.kernel_rules.specs.Faults.{fault_of}
use Rattle.kernel_rules.proofs.fault.find.Given as goal

abbrev pub invariant-loop-fault : goal.invariant-loop-fault
invariant-loop-fault l = fault_of (drop l.fault-index l.faults) l.thread ≡ fault_of l.faults l.thread
