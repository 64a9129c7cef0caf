use Rattle.std.proofs.Common.{◌≡◌, drop}
use Rattle.std.specs.List.{list_any}
use Rattle.kernel_rules.specs.Faults.{is_twin}
use Rattle.kernel_rules.proofs.fault.has_twin.Given as goal

abbrev pub invariant-loop-other : goal.invariant-loop-other
invariant-loop-other l = list_any (is_twin l.fault) (drop l.other-index l.faults) ≡ list_any (is_twin l.fault) l.faults
