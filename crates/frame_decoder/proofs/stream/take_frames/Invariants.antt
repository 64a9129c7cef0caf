use Rattle.std.proofs.Common.{◌≤◌, length}
use Rattle.frame_decoder.specs.Streams.{sents}
use Rattle.frame_decoder.proofs.Whole.{IsReading}
use Rattle.frame_decoder.proofs.stream.take_frames.Given as goal

abbrev pub invariant-frames : goal.invariant-frames
invariant-frames l = record { reads : IsReading l.fn.fixed l.bytes (sents l.frames.items) l.rest l.version; inside : length l.rest ≤ length l.bytes }

abbrev pub decreases-frames : goal.decreases-frames
decreases-frames l = length l.rest
