use Rattle.fault_handler.proofs.PageLemmas.{requested_paged}
use Rattle.fault_handler.proofs.destination.Destination.request.Goals as goal

pub invariant_of-self-2 : goal.invariant_of-self-2
invariant_of-self-2 c = (c.self.invariant.0, requested_paged c.self.inside.owed c.self.inside.requests _ c.args.origin c.in_ok-is_new.ensures.ok c.requires.page c.self.invariant.1)
