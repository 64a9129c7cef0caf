use Rattle.std.proofs.Common.{take}
use Rattle.wiretap.proofs.Pieces.{Behind}
use Rattle.wiretap.proofs.taps.write_behind.Given as goal

abbrev pub invariant-loop-index : goal.invariant-loop-index
invariant-loop-index g l = Behind l.known (take l.index l.wire.pieces) l.left (g.W.Write.contents l.fn.writer) (g.W.Write.contents l.writer)
