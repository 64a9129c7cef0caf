use Rattle.std.proofs.Common.{arith}
use Rattle.page_stream.proofs.LengthBounds.{text_short}
use Rattle.page_stream.specs.Frames.{frame_of}
use Rattle.frame_tests.proofs.well_formed.length.Goals as goal

pub text_len-requires : goal.text_len-requires
text_len-requires c = let short = text_short (frame_of c.args.frame.now) (c.is_well_formed.ensures.0 c.if-is_well_formed.true) in omega arith
