use Rattle.std.proofs.Common.{◌≡◌, []}
use Rattle.frames.specs.Parts.{IsCounted}
use Rattle.frames.proofs.Whole.{Ran}
use Rattle.frames.proofs.run.read_frames.Given as goal

abbrev pub invariant-loop : goal.invariant-loop
invariant-loop g l = record {
  ran : Ran l.fn.frames.taker.destination (g.R.Read.remaining l.fn.reader) (g.R.Read.remaining l.reader) l.frames (g.W.Write.contents l.fn.writer) (g.W.Write.contents l.writer);
  counted : IsCounted l.frames.decoder l.frames.held;
  clean : l.frames.taker.output.items ≡ [];
}
