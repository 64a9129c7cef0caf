use Rattle.std.proofs.Common.{◌≡◌, take}
use Rattle.std.specs.Prelude.{sum_by}
use Rattle.frames.proofs.Lengths.{frame_len}
use Rattle.frames.proofs.reader.len_of.Given as goal

abbrev pub invariant-loop-frame : goal.invariant-loop-frame
invariant-loop-frame l = l.len ≡ sum_by frame_len (take l.frame-index l.frames)
