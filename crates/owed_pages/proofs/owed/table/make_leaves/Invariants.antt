use Rattle.std.proofs.Common.{◌≡◌, ◌≤◌, ◌<◌, ◌*◌, ℕ, true, length}
use Rattle.owed_pages.specs.Tables.{page_number, has_place}
use Rattle.owed_pages.proofs.owed.table.make_leaves.Given as goal

abbrev pub invariant-loop-at : goal.invariant-loop-at
invariant-loop-at l = record { same : (q : ℕ) → page_number l.places.items q ≡ page_number l.fn.places.items q; few : length l.places.items ≤ 1024; there : (q : ℕ) → l.first ≤ q → q < 1024 * l.at → has_place l.places.items q ≡ true; stay : (q : ℕ) → has_place l.fn.places.items q ≡ true → has_place l.places.items q ≡ true }
