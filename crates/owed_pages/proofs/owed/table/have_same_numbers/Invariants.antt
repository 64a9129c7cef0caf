use Rattle.std.proofs.Common.{◌≤◌, ◌-◌}
use Rattle.owed_pages.proofs.TableLemmas.{AreSame}
use Rattle.owed_pages.proofs.owed.table.have_same_numbers.Given as goal

abbrev pub invariant-loop-page : goal.invariant-loop-page
invariant-loop-page l = record { same : AreSame l.places.items l.others.items 0 l.page; up : l.page ≤ l.end }

abbrev pub decreases-loop-page : goal.decreases-loop-page
decreases-loop-page l = l.end - l.page
