use Rattle.std.proofs.Common.{◌≡◌, ◌*◌, ◌+◌, ◌≤◌, []}
use Rattle.engine.proofs.Reading.{Ran}
use Rattle.engine.proofs.line_reader.read_lines.Given as goal

abbrev pub invariant-loop : goal.invariant-loop
invariant-loop g l = record {
  ran : Ran g.S.LineSink.takes l.fn.sink (g.R.Read.remaining l.fn.reader) (g.R.Read.remaining l.reader) l.sink l.lines (g.W.Write.contents l.fn.writer) (g.W.Write.contents l.writer);
  clean : l.lines.output.items ≡ [];
  number : l.lines.number + l.lines.len ≤ 16384 * l.counter;
}
