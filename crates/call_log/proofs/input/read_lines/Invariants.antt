use Rattle.std.proofs.Common.{List, ℕ, []}
use Rattle.call_log.specs.Reading.{At, Ran}
use Rattle.call_log.proofs.input.read_lines.Given as goal

abbrev pub invariant-loop : goal.invariant-loop
invariant-loop g l =
    (name : List ℕ) → At name [] (g.W.Write.contents l.fn.writer) l.fn.reader (g.W.Write.contents l.fn.writer)
    → Ran name (g.R.Read.remaining l.fn.input) (g.R.Read.remaining l.input) l.reader (g.W.Write.contents l.fn.writer) (g.W.Write.contents l.writer)
