use Rattle.std.proofs.Common.{◌∙◌, sym, ap, ◌&&◌, not, eqb}
use Rattle.std.specs.FinSet.{contains}
use Rattle.mig_base.specs.PageSets.{in_chunk}
use Rattle.mig_base.proofs.SetLemmas.{member_removed}
use Rattle.mig_base.proofs.slots.slot_remove.Goals as goal

pub returns-in-Some : goal.returns-in-Some
returns-in-Some c = λ j.
    ap (λ s. contains s j) c.remove.ensures
    ∙ member_removed _ c.args.i j
    ∙ ap (λ b. not (eqb j c.args.i) && b) (ap (λ s. contains s j) c.deref_mut.ensures.value ∙ sym (ap (λ o. in_chunk o j) c.in-Some.is))
