use Rattle.frame_decoder.proofs.Feeds.{wait_part}
use Rattle.frame_decoder.proofs.decoder.wait_for_more.Goals as goal

pub returns-clause-part : goal.returns-clause-part
returns-clause-part c = rw c.in_ok-extend_from_slice.ensures.items (wait_part c.args.fixed c.args.held.now.items c.args.piece.now c.requires.part c.requires.less)
