use Rattle.std.proofs.Common.{◌≡◌, ◌≤◌, ◌+◌, length}
use Rattle.threads.specs.Calls.{AreCalls, calls_with}
use Rattle.threads.proofs.summary.has_all_calls.Given as goal

abbrev pub invariant-loop-rest : goal.invariant-loop-rest
invariant-loop-rest l =
    (AreCalls l.seat.cpu l.stores l.n l.rest → AreCalls l.seat.cpu l.stores 0 l.seat.answers)
    × (l.n + length l.rest ≡ length l.seat.answers) × (l.n ≤ calls_with l.stores)

abbrev pub decreases-loop-rest : goal.decreases-loop-rest
decreases-loop-rest l = length l.rest
