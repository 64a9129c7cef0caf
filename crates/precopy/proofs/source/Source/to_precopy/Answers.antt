use Rattle.std.proofs.Common.{◌≡◌, false, sym, subst}
use Rattle.precopy.proofs.RecoveryLemmas.{precopy_order}
use Rattle.precopy.proofs.source.Source.to_precopy.Goals as goal

pub invariant_of-self : goal.invariant_of-self
invariant_of-self c = (
  precopy_order _ c.self.inside.switched c.self.inside.space c.self.inside.log _ (subst (λ node. node.switched ≡ false) (sym c.self.view_is) c.requires) c.forget.ensures c.self.invariant.0,
  c.self.invariant.1,
)
