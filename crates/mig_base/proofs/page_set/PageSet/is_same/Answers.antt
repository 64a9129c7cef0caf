use Rattle.std.proofs.Common.{◌≤◌, ◌<◌, ◌∙◌, sym, refl, ⊎_elim, arith}
use Rattle.std.proofs.lemmas.Bool.{cases_lt}
use Rattle.mig_base.proofs.SetLemmas.{same_members}
use Rattle.mig_base.proofs.page_set.PageSet.is_same.Goals as goal

pub returns : goal.returns
returns c = (
  λ _. same_members c.args.self.now c.args.other.now (λ q. ⊎_elim
      (λ (below : q < c.loop-at.at). c.loop-at.invariant.same q below)
      (λ (past : c.loop-at.at ≤ q). c.ends_by_high_page.ensures q (omega arith) ∙ sym (c.ends_by_high_page-2.ensures q (omega arith)))
      (cases_lt q c.loop-at.at)),
  λ e. refl,
)
