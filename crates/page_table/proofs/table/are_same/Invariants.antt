use Rattle.page_table.proofs.TableLemmas.{IsCopied}
use Rattle.page_table.proofs.table.are_same.Given as goal

abbrev pub invariant-loop-at : goal.invariant-loop-at
invariant-loop-at l = IsCopied l.others.items l.places.items l.at
