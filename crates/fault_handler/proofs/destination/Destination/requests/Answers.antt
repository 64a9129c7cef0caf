use Rattle.std.proofs.Common.{subst}
use Rattle.mig_model.specs.Destination.{Destination}
use Rattle.fault_handler.proofs.destination.Destination.requests.Goals as goal
use Rattle.mig_model.specs.Bounds.{AreListed}

pub returns-clause-mapped : goal.returns-clause-mapped
returns-clause-mapped c = subst (λ (n : Destination). AreListed n.requests) c.self.view_is c.self.invariant.1.listed
