-- The copies that a destination keeps until it runs, as a table with the set of its pages.
use Rattle.std.specs.Prelude.{◌≡◌, ℕ}
use Rattle.std.specs.Ordering.{nat_cmp}
use Rattle.std.specs.FinMap.{contains_key}
use Rattle.std.specs.FinSet as set
use Rattle.page_table.specs.Views.{Pages}

-- no page of the table is write-protected, and the set has exactly the pages that are present in it
pub record IsKept (pages : Pages) (kept : set.FinSet nat_cmp) : Type 0 where
  pub unprotected : pages.protected ≡ set.empty
  pub same : (page : ℕ) → set.contains kept page ≡ contains_key pages.bytes page
