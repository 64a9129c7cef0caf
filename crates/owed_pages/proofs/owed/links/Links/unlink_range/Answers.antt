use Rattle.std.proofs.Common.{◌∙◌, ◌-◌, sym, ap, arith, cond, None}
use Rattle.foundation.specs.Ranges.{in_range}
use Rattle.mig_base.proofs.PlaceLemmas.{same_leaf}
use Rattle.owed_pages.specs.Tables.{page_number}
use Rattle.owed_pages.proofs.TableLemmas.{none_without_place}
use Rattle.owed_pages.proofs.LinkLemmas.{range_on, range_skipped}
use Rattle.owed_pages.proofs.owed.links.Links.unlink_range.Goals as goal

pub loop-page-preserved : goal.loop-page-preserved
loop-page-preserved c = record {
  pairs = λ q.
      range_skipped c.loop-page.page (c.next_leaf-next.result - c.loop-page.page) q (page_number c.loop-page.self.forth.items)
      (λ p a b. none_without_place c.loop-page.self.forth.items p (same_leaf c.loop-page.self.forth.items c.loop-page.page p (c.next_leaf-next.ensures.same p a (omega arith)) (sym c.has_leaf.ensures ∙ c.if-has_leaf.false)))
      ∙ ap (λ o. cond (in_range c.loop-page.page (c.next_leaf-next.result - c.loop-page.page) q) None o) (c.loop-page.invariant.pairs q)
      ∙ range_on c.args.first c.loop-page.page c.next_leaf-next.result q (page_number c.args.self.now.forth.items q) (omega arith) (omega arith);
  stay = c.loop-page.invariant.stay;
  from = omega arith;
  up = omega arith;
}

pub loop-page-preserved-then-has_leaf : goal.loop-page-preserved-then-has_leaf
loop-page-preserved-then-has_leaf c = record {
  pairs = λ q. c.unlink_run.ensures.pairs q
      ∙ ap (λ o. cond (in_range c.loop-page.page (c.next_leaf-next.result - c.loop-page.page) q) None o) (c.loop-page.invariant.pairs q)
      ∙ range_on c.args.first c.loop-page.page c.next_leaf-next.result q (page_number c.args.self.now.forth.items q) (omega arith) (omega arith);
  stay = λ q. c.unlink_run.ensures.stay q ∙ c.loop-page.invariant.stay q;
  from = omega arith;
  up = omega arith;
}
