use Rattle.std.proofs.Common.{◌≡◌, ℕ, length}
use Rattle.page_table.specs.Leaves.{cell_at, has_place, moved_cell}
use Rattle.page_table.proofs.table.move_cells.Given as goal

abbrev pub invariant-loop-i : goal.invariant-loop-i
invariant-loop-i l = record { moved : (q : ℕ) → cell_at l.places.items q ≡ moved_cell (cell_at l.fn.places.items) l.from l.to l.i q; size : length l.places.items ≡ length l.fn.places.items; kept : (q : ℕ) → has_place l.places.items q ≡ has_place l.fn.places.items q }
