use Rattle.std.proofs.Common.{ap, ◌∙◌}
use Rattle.precopy.proofs.OrderLemmas.{round_order}
use Rattle.precopy.proofs.source.Source.round.Goals as goal

pub invariant_of-self-2 : goal.invariant_of-self-2
invariant_of-self-2 c = (
  round_order _ _ c.self.inside.space _ c.self.inside.log _ c.is_in_order.ensures c.in_ok-register_new.ensures.ok c.register_new.ensures.lent (c.begin_round.ensures ∙ ap (λ t. record c.self.inside.log { todo = t }) c.in_ok-todo.ensures) c.self.invariant.0,
  rw c.in_ok-register_new.ensures.ok c.self.invariant.1,
)
