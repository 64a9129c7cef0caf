-- A table of pages as callers see it.
use Rattle.std.specs.Prelude.{◌≡◌, ℕ, ◌≤◌, true, List, length, is_some, refl}
use Rattle.std.specs.Ordering.{nat_cmp}
use Rattle.std.specs.FinMap as map
use Rattle.std.specs.FinSet as set
use Rattle.std.specs.Coded.{Coded, code_by, coded×, coded_ℕ, coded_list}
use Rattle.mig_base.specs.declared.TheConstants.{HIGH_PAGE}
use Rattle.mig_base.specs.declared.chunk.TheConstants.{CHUNKS}
use Rattle.mig_base.specs.Pages.{map_below}
use Rattle.mig_base.specs.Sets.{set_below}
use Rattle.page_table.specs.Leaves.{Place, cell_at}

-- the bytes of the present pages, and the pages that are protected
pub record Pages : Type 0 where
  pub bytes : map.FinMap nat_cmp (List ℕ)
  pub protected : set.FinSet nat_cmp

-- the code of pages: the pair of their fields
abbrev pub coded_pages : Coded Pages
coded_pages = code_by (map.FinMap nat_cmp (List ℕ) × set.FinSet nat_cmp) (coded× (map.code coded_ℕ (coded_list coded_ℕ)) (set.code coded_ℕ)) (λ p. (p.bytes, p.protected)) (λ p. record { bytes = p.0; protected = p.1 }) (λ _. refl)

-- the pages that the places show
unfoldable pub shown_pages : List Place → Pages
shown_pages places = record { bytes = map_below (λ q. (cell_at places q).0) HIGH_PAGE; protected = set_below (λ q. (cell_at places q).1) HIGH_PAGE }

-- there are no more places than the address space needs, and only present pages are protected
pub record IsTable (places : List Place) : Type 0 where
  pub few : length places ≤ CHUNKS
  pub inside : (q : ℕ) → (cell_at places q).1 ≡ true → is_some (cell_at places q).0 ≡ true
