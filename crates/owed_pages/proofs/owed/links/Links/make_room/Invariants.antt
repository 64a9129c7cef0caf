use Rattle.std.proofs.Common.{◌≡◌, ◌≤◌, ◌-◌, ℕ}
use Rattle.owed_pages.specs.Tables.{page_number, has_place}
use Rattle.owed_pages.specs.Owed.{HasRoom}
use Rattle.owed_pages.proofs.owed.links.Links.make_room.Given as goal

abbrev pub invariant-loop-made : goal.invariant-loop-made
invariant-loop-made l = record { same : (q : ℕ) → page_number l.self.forth.items q ≡ page_number l.fn.self.forth.items q; room : HasRoom (page_number l.self.forth.items) (has_place l.self.forth.items) l.from l.to l.made; few : l.made ≤ l.count }

abbrev pub decreases-loop-made : goal.decreases-loop-made
decreases-loop-made l = l.count - l.made
