use Rattle.std.proofs.Common.{◌+◌, ◌≤◌, length}
use Rattle.engine.proofs.Reading.{Led}
use Rattle.engine.proofs.line_reader.LineReader.feed.Given as goal

abbrev pub invariant-loop-line : goal.invariant-loop-line
invariant-loop-line g l = record {
  led : Led g.S.LineSink.takes l.fn.sink l.fn.self l.bytes l.line-iterator.bytes l.sink l.self;
  number : l.self.number + l.self.len + length l.line-iterator.bytes ≤ l.fn.self.number + l.fn.self.len + length l.bytes;
}
