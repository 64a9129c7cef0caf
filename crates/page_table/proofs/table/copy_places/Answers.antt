use Rattle.std.proofs.Common.{◌∙◌, ap, arith, length, length-append}
use Rattle.page_table.specs.Leaves.{cell_in}
use Rattle.page_table.proofs.TableLemmas.{copied_more, copied_all}
use Rattle.mig_base.proofs.PlaceLemmas.{read_place}
use Rattle.page_table.proofs.table.copy_places.Goals as goal

pub loop-at-preserved : goal.loop-at-preserved
loop-at-preserved c = record {
  size = rw c.in_ok-push.ensures.items (simp length-append (omega arith));
  same = rw c.in_ok-push.ensures.items
      (copied_more c.args.places.now.items c.loop-at.copies.items c.loop-at.at c.in_ok-place_copy.field-0 c.loop-at.invariant.size c.loop-at.invariant.same
      (λ i l. c.in_ok-place_copy.ensures i l ∙ ap (λ o. cell_in o i) (read_place c.args.places.now.items c.loop-at.at c.index.result.now (omega arith) c.index.ensures)));
}

pub returns-clause-same : goal.returns-clause-same
returns-clause-same c =
    copied_all c.args.places.now.items c.loop-at.copies.items (length c.args.places.now.items) (omega arith) (omega arith) (λ k l. c.loop-at.invariant.same k (omega arith))
