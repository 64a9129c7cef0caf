use Rattle.std.proofs.Common.{refl}
use Rattle.wires.proofs.ChunkLemmas.{all_empty}
use Rattle.wires.proofs.chunks.Chunks.new.Goals as goal

pub returns-clause-chunks : goal.returns-clause-chunks
returns-clause-chunks c = (all_empty (record { reading = c.new.result; taken = 0; full = c.new-2.result; writing = c.new-3.result }) refl c.new.ensures.items c.new-2.ensures.items c.new-3.ensures.items).0

pub returns-clause-none : goal.returns-clause-none
returns-clause-none c = (all_empty (record { reading = c.new.result; taken = 0; full = c.new-2.result; writing = c.new-3.result }) refl c.new.ensures.items c.new-2.ensures.items c.new-3.ensures.items).1
