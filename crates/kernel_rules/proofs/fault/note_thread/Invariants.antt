use Rattle.std.proofs.Common.{◌≡◌, drop}
use Rattle.std.specs.Prelude.{◌++◌, filter_map}
use Rattle.kernel_rules.specs.Faults.{left_unanswered, is_of_thread}
use Rattle.kernel_rules.proofs.fault.note_thread.Given as goal

abbrev pub invariant-loop-fault : goal.invariant-loop-fault
invariant-loop-fault l =
    l.unanswered.items ++ filter_map (left_unanswered (is_of_thread l.thread)) (drop l.fault-index l.faults) ≡ l.fn.unanswered.items ++ filter_map (left_unanswered (is_of_thread l.thread)) l.faults
