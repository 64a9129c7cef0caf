use Rattle.std.proofs.Common.{◌≡◌, ◌≤◌, ℕ, ◌-◌, ◌+◌, length}
use Rattle.owed_pages.specs.Tables.{page_number, has_place}
use Rattle.owed_pages.proofs.owed.table.make_leaf.Given as goal

abbrev pub invariant-loop-places : goal.invariant-loop-places
invariant-loop-places l = record { same : (q : ℕ) → page_number l.places.items q ≡ page_number l.fn.places.items q; kept : (q : ℕ) → has_place l.places.items q ≡ has_place l.fn.places.items q; few : length l.places.items ≤ 1024 }

abbrev pub decreases-loop-places : goal.decreases-loop-places
decreases-loop-places l = l.at + 1 - length l.places.items
