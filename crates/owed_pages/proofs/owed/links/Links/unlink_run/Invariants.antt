use Rattle.std.proofs.Common.{◌≡◌, ℕ, cond, None}
use Rattle.foundation.specs.Ranges.{in_range}
use Rattle.owed_pages.specs.Tables.{page_number, has_place}
use Rattle.owed_pages.proofs.owed.links.Links.unlink_run.Given as goal

abbrev pub invariant-loop-i : goal.invariant-loop-i
invariant-loop-i l = record { pairs : (q : ℕ) → page_number l.self.forth.items q ≡ cond (in_range l.first l.i q) None (page_number l.fn.self.forth.items q); stay : (q : ℕ) → has_place l.self.forth.items q ≡ has_place l.fn.self.forth.items q }
