use Rattle.std.proofs.Common.{◌≡◌, ◌≤◌, ◌-◌, ℕ}
use Rattle.owed_pages.specs.Tables.{page_number, has_place, moved_number}
use Rattle.owed_pages.proofs.owed.links.Links.move_links.Given as goal

abbrev pub invariant-loop-moved : goal.invariant-loop-moved
invariant-loop-moved l = record { moved : (q : ℕ) → page_number l.self.forth.items q ≡ moved_number (page_number l.fn.self.forth.items) l.from l.to l.moved q; stay : (q : ℕ) → has_place l.self.forth.items q ≡ has_place l.fn.self.forth.items q; few : l.moved ≤ l.count }

abbrev pub decreases-loop-moved : goal.decreases-loop-moved
decreases-loop-moved l = l.count - l.moved
