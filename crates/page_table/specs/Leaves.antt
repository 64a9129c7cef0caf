-- Leaves of 1024 pages each, and what they show of a page.
use Rattle.std.specs.Prelude.{ℕ, ◌+◌, ◌-◌, ◌/◌, ◌%◌, ◌&&◌, not, if◌then◌else◌, Bool, false, List, [], Option, Some, None, Result, length, slice_index_or}
use Rattle.std.specs.FinSet.{contains}
use Rattle.std.specs.declared.boxed.Box.{Box}
use Rattle.std.specs.declared.alloc.Global.{Global}
use Rattle.foundation.specs.Ranges.{in_range}
use Rattle.mig_base.specs.declared.chunk.TheConstants.{CHUNK}
use Rattle.page_table.specs.declared.leaf.Leaf.{Leaf}
use Rattle.page_table.specs.Bytes.{stored_page}
-- whether a place has a leaf
pub use Rattle.mig_base.specs.Places.{is_place}
-- whether the place of a page has a leaf
unfoldable pub use Rattle.mig_base.specs.Places.{has_place}

-- a page's bytes, none if it is missing, and whether it is write-protected
abbrev pub Cell : Type 0
Cell = Option (List ℕ) × Bool

-- a place for a leaf, which may be empty
abbrev pub Place : Type 0
Place = Option (Box Leaf Global)

-- the page with number i of a leaf
abbrev pub leaf_cell : Leaf → ℕ → Cell
leaf_cell leaf i = (slice_index_or leaf.pages.items i None, contains leaf.protected i)

-- the page with number i of a place: missing if the place has no leaf
abbrev pub cell_in : Place → ℕ → Cell
cell_in None i = (None, false)
cell_in (Some leaf) i = leaf_cell leaf.value i

-- page q in a list of places
unfoldable pub cell_at : List Place → ℕ → Cell
cell_at places q = cell_in (slice_index_or places (q / CHUNK) None) (q % CHUNK)

-- a missing page
abbrev pub no_cell : Cell
no_cell = (None, false)

-- the same page, protected or not
abbrev pub with_protection : Cell → Bool → Cell
with_protection cell protected = (cell.0, protected)

-- the same page, not protected if the flag is set
abbrev pub opened_cell : Cell → Bool → Cell
opened_cell cell here = (cell.0, cell.1 && not here)

-- a cell after bytes were to be written from byte offset on: a missing page is written as a page of zeros, and a refused write changes
-- nothing
abbrev pub stored_cell : {A E : Type 0} → Result A E → Cell → ℕ → List ℕ → Cell
stored_cell result cell offset bytes = (stored_page result cell.0 offset bytes, cell.1)

-- the cells after a range moved to another one
abbrev pub moved_cell : (ℕ → Cell) → ℕ → ℕ → ℕ → ℕ → Cell
moved_cell cells from to count q =
    if in_range to count q then cells (from + (q - to)) else if in_range from count q then no_cell else cells q

-- the cells after the pages from the first on got new bytes, which leaves them not protected
abbrev pub put_cell : (ℕ → Cell) → ℕ → List (List ℕ) → ℕ → Cell
put_cell cells first run q =
    if in_range first (length run) q then (Some (slice_index_or run (q - first) []), false) else cells q
