use Rattle.std.proofs.Common.{subst, IfSome, IfNone}
use Rattle.mig_base.specs.declared.Prot.{Prot}
use Rattle.area_map.specs.Ranges.{HasOneProt}
use Rattle.area_map.proofs.ViewLemmas.{same_prots}
use Rattle.area_map.proofs.AreaMap.one_prot.Goals as goal

pub returns-clause-some : goal.returns-clause-some
returns-clause-some c =
    subst (λ prots. IfSome c.one_prot_of.result (HasOneProt prots c.args.first c.args.count)) (same_prots c.self.inside.areas.items c.deref.result.now c.args.self.now c.deref.ensures.value c.self.view_is) c.one_prot_of.ensures.some

pub returns-clause-none : goal.returns-clause-none
returns-clause-none c = λ some.
    subst (λ prots. IfNone c.one_prot_of.result ((prot : Prot) → HasOneProt prots c.args.first c.args.count prot → ⊥)) (same_prots c.self.inside.areas.items c.deref.result.now c.args.self.now c.deref.ensures.value c.self.view_is) c.one_prot_of.ensures.none
