use Rattle.std.proofs.Common.{◌≡◌, ◌∙◌, sym, refl, arith}
use Rattle.owed_pages.proofs.TableLemmas.{both_missing, same_all, same_more}
use Rattle.owed_pages.proofs.owed.table.have_same_numbers.Goals as goal
use Rattle.owed_pages.proofs.owed.table.have_same_numbers.Goals.{then-has_leaf, else-has_leaf, else-has_one-via-then-has_one+else-not-are_same_in, else-has_one-via-else-has_one}

pub loop-page-preserved : goal.loop-page-preserved
loop-page-preserved c = record {
  same = same_more c.args.places.now.items c.args.others.now.items c.loop-page.page c.next_leaf-next.result c.loop-page.invariant.same
      (elim c.else-has_one.branch [
        | else-has_one-via-then-has_one+else-not-are_same_in w ↦ w.are_same_in.ensures.0 w.if-not-are_same_in.false
        | else-has_one-via-else-has_one w ↦ elim c.if-has_leaf.branch [
          | then-has_leaf v ↦ let there = v.has_one-is in let none = w.if-has_one.false in cc
          | else-has_leaf v ↦ both_missing c.args.places.now.items c.args.others.now.items c.loop-page.page c.next_leaf-next.result c.next_leaf-next.ensures.same
              (sym c.has_leaf.ensures ∙ v.if-has_leaf.false) (sym v.has_leaf-has_one.ensures ∙ sym v.has_one-is ∙ w.if-has_one.false)
        ]
      ]);
  up = c.next_leaf-next.ensures.range.1;
}

pub returns : goal.returns
returns c = (λ _. same_all c.args.places.now.items c.args.others.now.items c.loop-page.page (omega arith) (omega arith) c.loop-page.invariant.same, λ _. refl)
