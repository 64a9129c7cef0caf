use Rattle.std.proofs.Common.{◌≡◌, drop}
use Rattle.std.specs.Prelude.{◌++◌, filter_map, true}
use Rattle.kernel_rules.specs.Faults.{left_unanswered}
use Rattle.kernel_rules.proofs.fault.note_all.Given as goal

abbrev pub invariant-loop-fault : goal.invariant-loop-fault
invariant-loop-fault l =
    l.unanswered.items ++ filter_map (left_unanswered (λ fault. true)) (drop l.fault-index l.faults) ≡ l.fn.unanswered.items ++ filter_map (left_unanswered (λ fault. true)) l.faults
