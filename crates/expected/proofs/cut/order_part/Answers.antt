use Rattle.expected.proofs.Cuts.{one_front}
use Rattle.expected.proofs.cut.order_part.Goals as goal

pub returns-in-Some-clause-cut : goal.returns-in-Some-clause-cut
returns-in-Some-clause-cut c = λ front answer cut. one_front c.args.text.now c.in-Some.front.now c.in-Some.field-0-1.now front answer c.in-Some.ensures.found cut

pub returns-in-None-clause-cut : goal.returns-in-None-clause-cut
returns-in-None-clause-cut c = λ front answer cut. absurd (c.in-None.ensures.none front answer cut)
