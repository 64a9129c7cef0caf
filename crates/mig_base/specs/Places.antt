-- Lists of places, each empty or with a leaf for 1024 pages.
use Rattle.std.specs.Prelude.{ℕ, ◌/◌, Bool, true, false, List, Option, Some, None, slice_index_or}
use Rattle.mig_base.specs.declared.chunk.TheConstants.{CHUNK}

-- whether a place has a leaf
abbrev pub is_place : {A : Type 0} → Option A → Bool
is_place None = false
is_place (Some leaf) = true

-- whether there is a leaf for a page
unfoldable pub has_place : {A : Type 0} → List (Option A) → ℕ → Bool
has_place places page = is_place (slice_index_or places (page / CHUNK) None)
