use Rattle.std.proofs.Common.{sym, ap, ◌∙◌}
use Rattle.mig_model.specs.NodeSteps.{first_of}
use Rattle.precopy.proofs.HandlerLemmas.{next_told}
use Rattle.precopy.proofs.source.Source.next_act.Goals as goal

pub returns : goal.returns
returns c =
    let told = c.next_act.ensures in
    next_told c.args.self.now c.next_act.result (sym c.is_handling.ensures ∙ c.if-not-is_handling.false) (rw (← c.self.view_is) told.accepted) (rw (← c.self.view_is) told.refused)
    (rw (← c.self.view_is) (λ fault rest held. told.act fault (ap first_of held)))
