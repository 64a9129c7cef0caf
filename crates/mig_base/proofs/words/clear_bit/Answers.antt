use Rattle.std.proofs.Common.{arith}
use Rattle.mig_base.proofs.ChunkLemmas.{has_bit-without}
use Rattle.mig_base.proofs.words.clear_bit.Goals as goal

pub returns : goal.returns
returns c = λ j l. has_bit-without c.args.words.now c.args.i c.filled.result j (omega (arith, c.told-words)) c.filled.ensures
