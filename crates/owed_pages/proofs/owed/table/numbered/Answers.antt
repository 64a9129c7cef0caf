use Rattle.std.proofs.Common.{◌∙◌, ap, sym, arith, is_some}
use Rattle.std.specs.FinSet.{contains}
use Rattle.owed_pages.proofs.TableLemmas.{none_without_place}
use Rattle.owed_pages.proofs.GatherLemmas.{gathered_none, gathered_past, gathered_all}
use Rattle.owed_pages.proofs.owed.table.numbered.Goals as goal
use Rattle.mig_base.proofs.PlaceLemmas.{same_leaf}

pub loop-page-init : goal.loop-page-init
loop-page-init c = record {
  gathered = λ q. ap (λ s. contains s q) c.new-pages.ensures ∙ gathered_none c.args.places.now.items q;
  up = omega arith;
}

pub loop-page-preserved : goal.loop-page-preserved
loop-page-preserved c = record {
  gathered = gathered_past c.args.places.now.items c.loop-page.pages c.loop-page.page c.next_leaf-next.result (omega arith) c.loop-page.invariant.gathered
      (λ p a b. ap is_some (none_without_place c.args.places.now.items p (same_leaf c.args.places.now.items c.loop-page.page p (c.next_leaf-next.ensures.same p a b) (sym c.has_leaf.ensures ∙ c.if-has_leaf.false))));
  up = c.next_leaf-next.ensures.range.1;
}

pub returns : goal.returns
returns c = gathered_all c.args.places.now.items c.loop-page.pages c.loop-page.page (omega arith) c.loop-page.invariant.gathered
