use Rattle.std.proofs.Common.{refl}
use Rattle.wires.proofs.ChunkLemmas.{all_empty}
use Rattle.wires.proofs.chunks.Chunks.clear.Goals as goal

pub returns-clause-chunks : goal.returns-clause-chunks
returns-clause-chunks c = (all_empty (record { reading = c.clear.new.self; taken = 0; full = c.clear-2.new.self; writing = c.clear-3.new.self }) refl c.clear.ensures.items c.clear-2.ensures.items c.clear-3.ensures.items).0

pub returns-clause-none : goal.returns-clause-none
returns-clause-none c = (all_empty (record { reading = c.clear.new.self; taken = 0; full = c.clear-2.new.self; writing = c.clear-3.new.self }) refl c.clear.ensures.items c.clear-2.ensures.items c.clear-3.ensures.items).1
