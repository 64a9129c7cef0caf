use Rattle.std.proofs.Common.{◌≡◌, ◌+◌, ◌≤◌, length, map, vec_len}
use Rattle.std.specs.List.{AllByRecursion}
use Rattle.std.specs.Prelude.{reverse}
use Rattle.mig_model.specs.Bounds.{IsFrame}
use Rattle.mig_model.specs.Wire.{wire_with}
use Rattle.page_stream.specs.Frames.{frame_of}
use Rattle.wires.proofs.wire.Wire.push_all.Given as goal

abbrev pub invariant-loop-frame : goal.invariant-loop-frame
invariant-loop-frame l = record {
  sent : wire_with l.self.wire l.epoch (map frame_of (reverse l.frames.items)) ≡ wire_with l.fn.self.wire l.epoch (map frame_of l.fn.frames.items);
  well_formed : AllByRecursion IsFrame (map frame_of (reverse l.frames.items));
  room : l.fn.self.room + length l.frames.items ≤ l.self.room + length l.fn.frames.items;
}

abbrev pub decreases-loop-frame : goal.decreases-loop-frame
decreases-loop-frame l = vec_len l.frames
