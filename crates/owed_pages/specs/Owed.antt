-- The table of owed pages: a one to one relation between a page where it belongs now and its page at the source.
use Rattle.std.specs.Prelude.{◌≡◌, ℕ, ◌+◌, ◌-◌, ◌<◌, ◌≤◌, ◌↔◌, Bool, true, List, Option, Some, length}
use Rattle.std.specs.Ordering.{nat_cmp}
use Rattle.std.specs.FinMap.{FinMap, len}
use Rattle.mig_base.specs.declared.TheConstants.{HIGH_PAGE}
use Rattle.mig_base.specs.declared.chunk.TheConstants.{CHUNKS}
use Rattle.mig_base.specs.Pages.{map_below}
-- the model's owed table: whether a page is owed at another, where a page of the source belongs now, and the pages of the source owed
pub use Rattle.mig_model.specs.Owed.{owes_to, home, origins}
-- the table in which each page of a set is owed at its own place
unfoldable pub use Rattle.mig_model.specs.Owed.{own_places}
use Rattle.owed_pages.specs.Tables.{Place, page_number}

-- the map from page to origin that a table shows
unfoldable pub pairs_of : List Place → FinMap nat_cmp ℕ
pairs_of forth = map_below (page_number forth) HIGH_PAGE

-- the table from pages to origins and the table from origins to pages have the same pairs, `count` of them
pub record AreLinks (forth back : List Place) (count : ℕ) : Type 0 where
  pub few : length forth ≤ CHUNKS
  pub few_back : length back ≤ CHUNKS
  pub agree : (page origin : ℕ) → (page_number forth page ≡ Some origin) ↔ (page_number back origin ≡ Some page)
  pub counted : len (pairs_of forth) ≡ count

-- each page of the target range has a leaf if the page that will move there has a number
abbrev pub HasRoom : (ℕ → Option ℕ) → (ℕ → Bool) → ℕ → ℕ → ℕ → Type 0
HasRoom numbers leaves from to count = (q s : ℕ) → to ≤ q → q < to + count → numbers (from + (q - to)) ≡ Some s → leaves q ≡ true
