use Rattle.std.proofs.Common.{◌++◌}
use Rattle.frame_decoder.proofs.Feeds.{taken_real}
use Rattle.frame_decoder.proofs.decoder.read_piece.Goals as goal

pub returns-then-is_empty-clause-real : goal.returns-then-is_empty-clause-real
returns-then-is_empty-clause-real c = taken_real c.args.fixed c.args.piece.now c.read_in_place.new.held.items c.read_in_place.result c.read_in_place.ensures.ok

pub returns-clause-real : goal.returns-clause-real
returns-clause-real c = taken_real c.args.fixed (c.args.held.now.items ++ c.args.piece.now) c.read_joined.new.held.items c.read_joined.result c.read_joined.ensures.ok
