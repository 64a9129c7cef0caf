use Rattle.std.proofs.Common.{arith}
use Rattle.expected.proofs.cut.split_answer.Goals as goal

pub returns-in_err-at-clause-none : goal.returns-in_err-at-clause-none
returns-in_err-at-clause-none c = rw c.from_residual.ensures (λ front answer cut. c.in_err-at.ensures cut.at (omega arith) (omega (arith, cut.occurs.fits)) cut.occurs)
