use Rattle.std.proofs.Common.{◌≡◌, ◌*◌, ◌≤◌, []}
use Rattle.grammar.specs.Lines.{HasNoFeed}
use Rattle.wiretap.specs.Moves.{IsRunning}
use Rattle.wiretap.proofs.Whole.{Ran}
use Rattle.wiretap.proofs.taps.Taps.read_lines.Given as goal

abbrev pub invariant-loop : goal.invariant-loop
invariant-loop g l = record {
  ran : Ran g.T.Write.contents l.fn.script.work (g.R.Read.remaining l.fn.reader) (g.R.Read.remaining l.reader) l.script (g.W.Write.contents l.fn.writer) (g.W.Write.contents l.writer) l.fn.self l.self;
  clean : l.script.output ≡ [];
  one : HasNoFeed l.script.line;
  runs : IsRunning l.script.work;
  number : l.script.number ≤ 16384 * l.counter;
}
