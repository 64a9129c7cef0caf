-- Tables of one number, or none, for each page.
use Rattle.std.specs.Prelude.{ℕ, ◌+◌, ◌-◌, ◌/◌, ◌%◌, if◌then◌else◌, List, Option, Some, None, slice_index_or}
use Rattle.std.specs.declared.boxed.Box.{Box}
use Rattle.std.specs.declared.alloc.Global.{Global}
use Rattle.mig_base.specs.declared.chunk.TheConstants.{CHUNK}
use Rattle.foundation.specs.Ranges.{in_range}
-- whether a place has a leaf
pub use Rattle.mig_base.specs.Places.{is_place}
-- whether the place of a page has a leaf
unfoldable pub use Rattle.mig_base.specs.Places.{has_place}

-- a place for the numbers of 1024 pages
abbrev pub Place : Type 0
Place = Option (Box (List (Option ℕ)) Global)

-- the number of page i of a place, none if the place has no leaf
abbrev pub number_in : Place → ℕ → Option ℕ
number_in None i = None
number_in (Some leaf) i = slice_index_or leaf.value i None

-- the number of a page
unfoldable pub page_number : List Place → ℕ → Option ℕ
page_number places page = number_in (slice_index_or places (page / CHUNK) None) (page % CHUNK)

-- the numbers after a range moved to another that it does not overlap
abbrev pub moved_number : (ℕ → Option ℕ) → ℕ → ℕ → ℕ → ℕ → Option ℕ
moved_number numbers from to count page =
    if in_range to count page then numbers (from + (page - to)) else if in_range from count page then None else numbers page
