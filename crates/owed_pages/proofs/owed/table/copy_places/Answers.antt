use Rattle.std.proofs.Common.{◌≡◌, ◌∙◌, ap, arith, length, length-append}
use Rattle.owed_pages.specs.Tables.{number_in}
use Rattle.owed_pages.proofs.TableLemmas.{copied_more, copied_all}
use Rattle.mig_base.proofs.PlaceLemmas.{read_place}
use Rattle.owed_pages.proofs.owed.table.copy_places.Goals as goal

pub loop-at-preserved : goal.loop-at-preserved
loop-at-preserved c = record {
  size = rw c.in_ok-push.ensures.items (simp length-append (omega arith));
  same = rw c.in_ok-push.ensures.items
      (copied_more c.args.places.now.items c.loop-at.copies.items c.loop-at.at c.in_ok-place_copy.field-0 c.loop-at.invariant.size c.loop-at.invariant.same
      (λ i. c.in_ok-place_copy.ensures i ∙ ap (λ o. number_in o i) (read_place c.args.places.now.items c.loop-at.at c.index.result.now (omega arith) c.index.ensures)));
}

pub returns-clause-same : goal.returns-clause-same
returns-clause-same c =
    let size : length c.loop-at.copies.items ≡ length c.args.places.now.items = omega arith in
    copied_all c.args.places.now.items c.loop-at.copies.items size (λ k l. c.loop-at.invariant.same k (omega arith))
