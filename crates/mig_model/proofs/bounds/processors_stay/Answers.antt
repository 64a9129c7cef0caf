use Rattle.std.proofs.Common.{◌∙◌}
use Rattle.mig_model.proofs.invariant.Bounded.{bounded-reached}
use Rattle.mig_model.proofs.transcript.WaitingAccesses.{as_many}
use Rattle.mig_model.proofs.bounds.processors_stay.Goals as goal

pub returns : goal.returns
returns c world reached = let many = (bounded-reached world reached).ready.many in (many, as_many world reached ∙ many)
