use Rattle.std.proofs.Common.{◌∙◌, ◌&&◌, ap, not, eqb}
use Rattle.std.specs.FinMap.{contains_key}
use Rattle.std.specs.FinSet.{contains}
use Rattle.mig_base.proofs.SetLemmas.{member_removed}
use Rattle.fault_handler.proofs.KeptLemmas.{copied_there, one_out, one_stays}
use Rattle.fault_handler.proofs.kept.remove_missing.Goals as goal
use Rattle.fault_handler.proofs.kept.remove_missing.Goals.{then-is_none, else-is_none}

pub loop-page-preserved : goal.loop-page-preserved
loop-page-preserved c q =
    elim c.if-is_none.branch [
      | then-is_none w ↦
          ap (λ s. contains s q) (w.kept-is ∙ w.remove.ensures) ∙ member_removed c.loop-page.kept c.loop-page.page q ∙ ap (λ b. not (eqb q c.loop-page.page) && b) (c.loop-page.invariant q)
          ∙ one_out q c.args.first c.loop-page.page (contains c.args.kept.now q) (contains_key c.args.pages.now.bytes) c.loop-page.auto.page (copied_there c.get.result _ c.get.ensures ∙ w.if-is_none.ensures)
      | else-is_none w ↦
          ap (λ s. contains s q) w.kept-is ∙ c.loop-page.invariant q ∙ one_stays q c.args.first c.loop-page.page (contains c.args.kept.now q) (contains_key c.args.pages.now.bytes) c.loop-page.auto.page (copied_there c.get.result _ c.get.ensures ∙ w.if-is_none.ensures)
    ]
