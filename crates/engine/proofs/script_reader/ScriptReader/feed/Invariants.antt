use Rattle.std.proofs.Common.{◌+◌, ◌≤◌, length}
use Rattle.engine.proofs.Pieces.{Feeds}
use Rattle.engine.proofs.script_reader.ScriptReader.feed.Given as goal

abbrev pub invariant-loop-line : goal.invariant-loop-line
invariant-loop-line l = record {
  feeds : Feeds l.fn.self l.bytes l.line-iterator.bytes l.self;
  number : l.self.number + length l.line-iterator.bytes ≤ l.fn.self.number + length l.bytes;
}
