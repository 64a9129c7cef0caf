use Rattle.mig_model.proofs.invariant.UrgentFew.{few-reached}
use Rattle.mig_model.proofs.bounds.urgent_frames_are_few.Goals as goal

pub returns : goal.returns
returns c world reached = few-reached world reached
