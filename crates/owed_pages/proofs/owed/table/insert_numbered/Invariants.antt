use Rattle.owed_pages.proofs.GatherLemmas.{IsGathered}
use Rattle.owed_pages.proofs.owed.table.insert_numbered.Given as goal

abbrev pub invariant-loop-page : goal.invariant-loop-page
invariant-loop-page l = IsGathered l.places.items l.pages l.page
