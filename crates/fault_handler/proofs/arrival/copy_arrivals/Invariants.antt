use Rattle.std.proofs.Common.{◌≡◌, take}
use Rattle.fault_handler.proofs.arrival.copy_arrivals.Given as goal

abbrev pub invariant-loop-i : goal.invariant-loop-i
invariant-loop-i l = l.copies.items ≡ take l.i l.arrivals.items
