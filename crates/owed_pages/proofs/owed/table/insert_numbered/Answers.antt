use Rattle.std.proofs.Common.{◌≡◌, ◌+◌, ◌∙◌, ap, sym, arith, is_some}
use Rattle.std.specs.FinSet.{contains}
use Rattle.owed_pages.specs.Tables.{page_number}
use Rattle.owed_pages.proofs.GatherLemmas.{gathered_more, gathered_past}
use Rattle.owed_pages.proofs.owed.table.insert_numbered.Goals as goal
use Rattle.owed_pages.proofs.owed.table.insert_numbered.Goals.{then-is_some+in_ok-insert, else-is_some}

pub loop-page-preserved : goal.loop-page-preserved
loop-page-preserved c = elim c.if-is_some.branch [
  | then-is_some+in_ok-insert w ↦ λ q.
      ap (λ s. contains s q) (w.pages-is ∙ w.in_ok-insert.ensures.ok)
      ∙ gathered_more c.args.places.now.items c.loop-page.pages c.loop-page.page c.loop-page.invariant (sym (ap is_some c.get_number.ensures) ∙ sym c.is_some.ensures ∙ w.if-is_some.true) q
  | else-is_some w ↦ λ q.
      ap (λ s. contains s q) w.pages-is
      ∙ gathered_past c.args.places.now.items c.loop-page.pages c.loop-page.page (c.loop-page.page + 1) (omega arith) c.loop-page.invariant
      (λ p a b. let same : p ≡ c.loop-page.page = omega arith in ap (λ n. is_some (page_number c.args.places.now.items n)) same ∙ sym (ap is_some c.get_number.ensures) ∙ sym c.is_some.ensures ∙ w.if-is_some.false) q
]
