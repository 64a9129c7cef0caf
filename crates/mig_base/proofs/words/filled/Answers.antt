use Rattle.std.proofs.Common.{arith, leb, ltb, ◌&&◌}
use Rattle.mig_base.proofs.BitLemmas.{is_one-put, is_one-cleared}
use Rattle.mig_base.proofs.words.filled.Goals as goal

pub returns-then-value : goal.returns-then-value
returns-then-value c = λ i l. rw c.if-value.true (is_one-put c.args.word c.mask-part.result i (leb c.args.low i && ltb i c.args.high) (c.mask-part.ensures i l))

pub returns-else-value : goal.returns-else-value
returns-else-value c = λ i l. rw c.if-value.false (is_one-cleared c.args.word c.mask-part.result i (leb c.args.low i && ltb i c.args.high) (omega arith) l (c.mask-part.ensures i l))
