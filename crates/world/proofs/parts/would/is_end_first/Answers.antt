use Rattle.world.proofs.EndLemmas.{end_first}
use Rattle.world.proofs.parts.would.is_end_first.Goals as goal

pub returns : goal.returns
returns c sent rest first = end_first c.args.wire.now.wire.frames sent rest c.byte_at.result first c.byte_at.ensures
