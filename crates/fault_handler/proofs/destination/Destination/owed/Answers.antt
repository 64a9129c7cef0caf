use Rattle.std.proofs.Common.{subst}
use Rattle.mig_model.specs.Bounds.{AreFewPages}
use Rattle.mig_model.specs.Destination.{Destination}
use Rattle.mig_model.specs.Owed.{origins}
use Rattle.fault_handler.proofs.PageLemmas.{few_origins}
use Rattle.fault_handler.proofs.destination.Destination.owed.Goals as goal

pub returns-clause-few : goal.returns-clause-few
returns-clause-few c = subst (λ (n : Destination). AreFewPages (origins n.owed)) c.self.view_is (few_origins c.self.inside.owed c.self.inside.requests c.self.invariant.1)
