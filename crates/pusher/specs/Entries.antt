-- The pages with their indexes, sorted for a search.
use Rattle.std.specs.Prelude.{◌≡◌, ℕ, ◌<◌, List, length, slice_index, All, Contains}
use Rattle.std.specs.List.Sorted.{IsNonDecreasingBy}

-- the entries are each page with its index, in ascending order of pages
pub record IsIndexed (pages : List ℕ) (entries : List (ℕ × ℕ)) : Type 0 where
  pub right : All (λ e. (e.1 < length pages) × (slice_index pages e.1 ≡ e.0)) entries
  pub each : (i : ℕ) → i < length pages → Contains entries (slice_index pages i, i)
  pub rise : IsNonDecreasingBy (λ (e : ℕ × ℕ). e.0) entries
