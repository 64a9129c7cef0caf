use Rattle.std.proofs.Common.{◌≡◌, take}
use Rattle.fault_handler.proofs.arrival.are_same_arrivals.Given as goal

abbrev pub invariant-loop-i : goal.invariant-loop-i
invariant-loop-i l = take l.i l.arrivals.items ≡ take l.i l.others.items
