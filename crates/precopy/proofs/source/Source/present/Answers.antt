use Rattle.std.proofs.lemmas.Result.{IfOk-weaker}
use Rattle.dirty_log.proofs.SpaceLemmas.{present_is}
use Rattle.precopy.proofs.GuestLemmas.{few_present}
use Rattle.precopy.proofs.source.Source.present.Goals as goal

pub returns-clause-few : goal.returns-clause-few
returns-clause-few c =
    IfOk-weaker c.present.result _ _ (λ pages same. few_present c.self.inside.space c.self.inside.cpus pages c.is_in_order.ensures c.self.invariant.1 (present_is c.self.inside.space pages c.is_in_order.ensures same)) c.present.ensures

pub returns-clause-present : goal.returns-clause-present
returns-clause-present c = rw (← c.self.view_is) (IfOk-weaker c.present.result _ _ (λ pages same. present_is c.self.inside.space pages c.is_in_order.ensures same) c.present.ensures)
