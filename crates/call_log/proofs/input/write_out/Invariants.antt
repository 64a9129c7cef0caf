use Rattle.std.proofs.Common.{length}
use Rattle.call_log.proofs.Writes.{Wrote}
use Rattle.call_log.proofs.input.write_out.Given as goal

abbrev pub invariant-loop-rest : goal.invariant-loop-rest
invariant-loop-rest g l = Wrote l.bytes l.rest (g.W.Write.contents l.fn.writer) (g.W.Write.contents l.writer)

abbrev pub decreases-loop-rest : goal.decreases-loop-rest
decreases-loop-rest g l = length l.rest
