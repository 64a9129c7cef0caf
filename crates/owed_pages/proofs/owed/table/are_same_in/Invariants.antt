use Rattle.owed_pages.proofs.TableLemmas.{AreSame}
use Rattle.owed_pages.proofs.owed.table.are_same_in.Given as goal

abbrev pub invariant-loop-page : goal.invariant-loop-page
invariant-loop-page l = AreSame l.places.items l.others.items l.first l.page
