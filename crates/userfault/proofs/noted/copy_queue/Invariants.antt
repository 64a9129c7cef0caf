use Rattle.std.proofs.Common.{◌≡◌, take}
use Rattle.userfault.proofs.noted.copy_queue.Given as goal

abbrev pub invariant-loop-i : goal.invariant-loop-i
invariant-loop-i l = l.copy.items ≡ take l.i l.queue.items
