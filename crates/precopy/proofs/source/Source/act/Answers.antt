use Rattle.std.proofs.Common.{◌≡◌, refl, subst, sym, ap, ◌∙◌, ◌∷◌, ◌*◌}
use Rattle.mig_base.specs.Acts.{act_effect}
use Rattle.mig_base.specs.Userfault.{changing}
use Rattle.precopy.specs.contracts.source.Source.{the_view}
use Rattle.mig_model.specs.NodeSteps.{first_of}
use Rattle.mig_model.specs.Source.{source_act, source_acted, space_of}
use Rattle.dirty_log.specs.Spaces.{source_of}
use Rattle.precopy.proofs.HandlerLemmas.{IsHeld, act_done, acted_is, some_held}
use Rattle.precopy.proofs.OrderLemmas.{acted_order}
use Rattle.precopy.proofs.GuestLemmas.{acted_guest}
use Rattle.precopy.proofs.source.Source.act.Goals as goal

-- the fault that was resolved, and how the machine resolves it
held : (c : goal.After-effect) → IsHeld c.self.inside.log c.self.inside.space
held c = some_held c.self.inside.log c.self.inside.space _ refl c.in_ok-act.ensures.accepted

acted : (c : goal.After-effect) → source_of c.act.new.self c.act.new.space c.act.new.cpus ≡ source_acted (source_of c.self.inside.log c.self.inside.space c.self.inside.cpus) (held c).fault
acted c = c.in_ok-act.ensures.acted (held c).fault (ap first_of (held c).is)

pub invariant_of-self-2 : goal.invariant_of-self-2
invariant_of-self-2 c = (
  acted_order _ _ (source_of c.self.inside.log c.self.inside.space c.self.inside.cpus) _ _ (held c).fault c.is_in_order.ensures (ap space_of (acted c)) c.act.ensures.lent (ap (λ node. node.log) (acted c)) c.self.invariant.0,
  acted_guest (source_of c.self.inside.log c.self.inside.space c.self.inside.cpus) _ (held c).fault (acted c) c.self.invariant.1,
)

pub returns-clause-made : goal.returns-clause-made
returns-clause-made c =
    let fault = (held c).fault in
    let done = c.in_ok-act.ensures.act fault (ap first_of (held c).is) in
    act_done c.args.self.now _ c.effect.result fault (held c).rest (sym c.is_handling.ensures ∙ c.if-not-is_handling.false)
    (subst (λ node. node.log.held ≡ fault ∷ (held c).rest) c.self.view_is (held c).is)
    (subst (λ node. changing (space_of node).object ≡ 0) c.self.view_is (held c).quiet)
    (subst (λ node. c.effect.result ≡ act_effect (source_act node fault) (4096 * fault.page)) c.self.view_is (c.effect.ensures ∙ (λ i. act_effect (done.0 i) (done.1 i))))
    (acted_is (the_view c.self.inside) c.act.new.space c.act.new.cpus c.act.new.self fault (acted c) ∙ ap (λ node. source_acted node fault) c.self.view_is)
