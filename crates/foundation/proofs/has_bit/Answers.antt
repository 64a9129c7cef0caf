use Rattle.std.proofs.Common.{ap, eqb}
use Rattle.std.proofs.lemmas.Nat.Bits.{shr_and_one}
use Rattle.foundation.specs.Bits.{is_one}
use Rattle.foundation.proofs.has_bit.Goals as goal

pub returns : goal.returns
unfolding is_one
returns c = ap (λ b. eqb b 1) (shr_and_one c.args.flags c.args.i)
