use Rattle.std.proofs.Common.{◌*◌}
use Rattle.mig_base.proofs.ChunkLemmas.{IsFilled}
use Rattle.mig_base.proofs.words.fill_bits.Given as goal

abbrev pub invariant-loop-at : goal.invariant-loop-at
invariant-loop-at l = IsFilled l.value l.fn.words l.words l.first l.count (64 * l.at)
