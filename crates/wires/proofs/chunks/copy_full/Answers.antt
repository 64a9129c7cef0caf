use Rattle.std.proofs.Common.{arith, ◌∙◌}
use Rattle.wires.proofs.ChunkLemmas.{copied_more}
use Rattle.wires.proofs.chunks.copy_full.Goals as goal

pub loop-i-preserved : goal.loop-i-preserved
loop-i-preserved c =
    rw c.in_ok-push_back.ensures.items
    (copied_more c.args.chunks.now.items c.loop-i.copy.items c.loop-i.i c.index.result.now c.in_ok-from_slice.field-0 c.loop-i.invariant (omega arith) c.index.ensures (c.in_ok-from_slice.ensures.items ∙ c.deref.ensures.value))
