use Rattle.precopy.proofs.OrderLemmas.{registered_order}
use Rattle.precopy.proofs.source.Source.start.Goals as goal

pub invariant_of-self-2 : goal.invariant_of-self-2
invariant_of-self-2 c = (
  registered_order _ _ c.self.inside.space _ _ c.is_in_order.ensures c.in_ok-register_new.ensures.ok c.register_new.ensures.lent c.self.invariant.0,
  rw c.in_ok-register_new.ensures.ok c.self.invariant.1,
)
