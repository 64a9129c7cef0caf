use Rattle.std.proofs.Common.{◌≡◌, drop}
use Rattle.std.specs.Prelude.{◌++◌, filter_map}
use Rattle.kernel_rules.specs.Faults.{left_unanswered, sleeps}
use Rattle.kernel_rules.proofs.fault.note_unanswered.Given as goal

abbrev pub invariant-loop-fault : goal.invariant-loop-fault
invariant-loop-fault l = l.unanswered.items ++ filter_map (left_unanswered (sleeps l.object l.reach)) (drop l.fault-index l.faults) ≡ l.fn.unanswered.items ++ filter_map (left_unanswered (sleeps l.object l.reach)) l.faults
