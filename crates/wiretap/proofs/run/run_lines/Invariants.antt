use Rattle.std.proofs.Common.{◌≡◌, ◌+◌, ◌≤◌, [], length}
use Rattle.grammar.specs.Lines.{HasNoFeed}
use Rattle.wiretap.specs.Moves.{IsRunning}
use Rattle.wiretap.proofs.Whole.{Done}
use Rattle.wiretap.proofs.run.run_lines.Given as goal

abbrev pub invariant-loop-line : goal.invariant-loop-line
invariant-loop-line g l = record {
  done : Done g.T.Write.contents l.fn.script l.bytes l.line-iterator.bytes l.script (g.W.Write.contents l.fn.writer) (g.W.Write.contents l.writer) l.fn.taps l.taps;
  clean : l.script.output ≡ [];
  one : HasNoFeed l.script.line;
  runs : IsRunning l.script.work;
  number : l.script.number + length l.line-iterator.bytes ≤ l.fn.script.number + length l.bytes;
}
