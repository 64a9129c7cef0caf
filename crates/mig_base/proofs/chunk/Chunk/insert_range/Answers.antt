use Rattle.mig_base.proofs.ChunkSets.{chunk_filled}
use Rattle.mig_base.proofs.chunk.Chunk.insert_range.Goals as goal

pub returns : goal.returns
returns c = chunk_filled c.self.inside.words c.fill_bits.new.words c.args.self.now c.args.first c.args.count c.self.view_is c.requires c.fill_bits.ensures
