use Rattle.std.proofs.Common.{◌≡◌, ◌≤◌, ℕ, length, vec_len}
use Rattle.page_table.specs.Leaves.{cell_at, has_place, put_cell}
use Rattle.page_table.proofs.table.put_cells.Given as goal

abbrev pub invariant-loop-bytes : goal.invariant-loop-bytes
invariant-loop-bytes l = record {
  put : (q : ℕ) → put_cell (cell_at l.places.items) l.first l.run.items q ≡ put_cell (cell_at l.fn.places.items) l.first l.fn.run.items q;
  few : length l.run.items ≤ length l.fn.run.items;
  size : length l.places.items ≡ length l.fn.places.items;
  kept : (q : ℕ) → has_place l.places.items q ≡ has_place l.fn.places.items q;
}

abbrev pub decreases-loop-bytes : goal.decreases-loop-bytes
decreases-loop-bytes l = vec_len l.run
