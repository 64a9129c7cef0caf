use Rattle.std.proofs.Common.{ℕ}
use Rattle.show.proofs.Passing.{Passed}
use Rattle.show.proofs.cut.first_lines.Given as goal

abbrev pub invariant-loop : goal.invariant-loop
invariant-loop l = Passed l.bytes l.counter l.lines.bytes
