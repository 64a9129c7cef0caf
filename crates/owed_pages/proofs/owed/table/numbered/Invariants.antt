use Rattle.std.proofs.Common.{◌≤◌, ◌-◌}
use Rattle.owed_pages.proofs.GatherLemmas.{IsGathered}
use Rattle.owed_pages.proofs.owed.table.numbered.Given as goal

abbrev pub invariant-loop-page : goal.invariant-loop-page
invariant-loop-page l = record { gathered : IsGathered l.places.items l.pages l.page; up : l.page ≤ l.end }

abbrev pub decreases-loop-page : goal.decreases-loop-page
decreases-loop-page l = l.end - l.page
