use Rattle.std.proofs.Common.{◌∙◌, true≢false, refl, sym, arith}
use Rattle.page_table.proofs.TableLemmas.{copied_all, same_in_place}
use Rattle.page_table.proofs.table.are_same.Goals as goal

pub returns-then-not-is_same_at : goal.returns-then-not-is_same_at
returns-then-not-is_same_at c = (
  λ e. absurd (true≢false (sym e)),
  λ same. sym c.if-not-is_same_at.true ∙ c.is_same_at.ensures.1 (λ i l. same_in_place c.args.places.now.items c.args.others.now.items c.loop-at.at i same l),
)

pub returns : goal.returns
returns c = (λ _. copied_all c.args.others.now.items c.args.places.now.items c.max-at-end.result (omega arith) (omega arith) (λ k l. c.loop-at.invariant k (omega arith)), λ _. refl)
