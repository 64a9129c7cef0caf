use Rattle.std.proofs.Common.{refl, ◌∙◌}
use Rattle.wires.proofs.ChunkLemmas.{copied}
use Rattle.wires.proofs.chunks.Chunks.copy.Goals as goal

pub returns-clause-chunks : goal.returns-clause-chunks
returns-clause-chunks c =
    (copied c.args.self.now (record { reading = c.in_ok-reading.reading; taken = 0; full = c.in_ok-full.full; writing = c.in_ok-writing.writing }) c.requires refl (c.in_ok-reading.ensures.items ∙ c.left.ensures) c.in_ok-full.ensures (c.in_ok-writing.ensures.items ∙ c.deref.ensures.value)).0

pub returns-clause-same : goal.returns-clause-same
returns-clause-same c =
    (copied c.args.self.now (record { reading = c.in_ok-reading.reading; taken = 0; full = c.in_ok-full.full; writing = c.in_ok-writing.writing }) c.requires refl (c.in_ok-reading.ensures.items ∙ c.left.ensures) c.in_ok-full.ensures (c.in_ok-writing.ensures.items ∙ c.deref.ensures.value)).1.0

pub returns-clause-bytes : goal.returns-clause-bytes
returns-clause-bytes c =
    (copied c.args.self.now (record { reading = c.in_ok-reading.reading; taken = 0; full = c.in_ok-full.full; writing = c.in_ok-writing.writing }) c.requires refl (c.in_ok-reading.ensures.items ∙ c.left.ensures) c.in_ok-full.ensures (c.in_ok-writing.ensures.items ∙ c.deref.ensures.value)).1.1
