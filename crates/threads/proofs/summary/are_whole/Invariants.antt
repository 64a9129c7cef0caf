use Rattle.std.proofs.Common.{◌≡◌, ◌+◌, length}
use Rattle.threads.specs.Report.{AreFrom}
use Rattle.threads.proofs.summary.are_whole.Given as goal

abbrev pub invariant-loop-rest : goal.invariant-loop-rest
invariant-loop-rest l = (AreFrom l.cpu l.stores l.rest → AreFrom 0 l.stores l.seats) × (l.cpu + length l.rest ≡ length l.seats)

abbrev pub decreases-loop-rest : goal.decreases-loop-rest
decreases-loop-rest l = length l.rest
