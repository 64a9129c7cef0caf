-- Lists of areas, and the pages that they map.
use Rattle.std.specs.Prelude.{◌≡◌, ◌≢◌, ℕ, ◌+◌, ◌<◌, ◌≤◌, if◌then◌else◌, Option, Some, None, List, [], ◌∷◌}
use Rattle.std.specs.List.{All, sum_by}
use Rattle.std.specs.Vec.{vec_len, vec_capacity}
use Rattle.std.specs.Global.{Vec}
use Rattle.std.specs.Ordering.{nat_cmp}
use Rattle.std.specs.FinMap.{FinMap, empty}
use Rattle.mig_base.specs.declared.TheConstants.{HIGH_PAGE}
use Rattle.mig_base.specs.declared.Prot.{Prot}
use Rattle.mig_base.specs.declared.Area.{Area}
use Rattle.foundation.specs.Ranges.{in_range}
use Rattle.mig_base.specs.Pages.{set_range}

-- the map from each page of the areas to its protection
unfoldable pub pages_in : List Area → FinMap nat_cmp Prot
pages_in [] = empty
pages_in (area ∷ areas) = set_range (pages_in areas) area.first area.count area.prot

-- the protection of a page, if an area contains it
unfoldable pub prot_in : List Area → ℕ → Option Prot
prot_in [] page = None
prot_in (area ∷ areas) page = if in_range area.first area.count page then Some area.prot else prot_in areas page

-- the number of pages of the areas
abbrev pub page_sum : List Area → ℕ
page_sum areas = sum_by (λ area. area.count) areas

-- an area is not empty, and ends inside the address space
pub record IsArea (a : Area) : Type 0 where
  pub some : 0 < a.count
  pub bound : a.first + a.count ≤ HIGH_PAGE

-- the first area lies before the second, and they are not one run: if they touch, their protections differ
pub record IsBefore (a b : Area) : Type 0 where
  pub apart : a.first + a.count ≤ b.first
  pub differ : a.first + a.count ≡ b.first → a.prot ≢ b.prot

-- the areas are the maximal runs of their pages, in order: each lies before all that follow
abbrev pub AreRuns : List Area → Type 0
AreRuns [] = Unit {0}
AreRuns (a ∷ rest) = IsArea a × All (IsBefore a) rest × AreRuns rest

-- the areas are maximal runs, with this number of pages
pub record AreCounted (areas : List Area) (mapped : ℕ) : Type 0 where
  pub runs : AreRuns areas
  pub count : mapped ≡ page_sum areas

-- the area begins at the page or below it
abbrev pub BeginsBy : ℕ → Area → Type 0
BeginsBy page area = area.first ≤ page

-- the area begins after the page
abbrev pub BeginsAfter : ℕ → Area → Type 0
BeginsAfter page area = page < area.first

-- the area ends below the page without touching it: at least one page lies between them
abbrev pub EndsBefore : ℕ → Area → Type 0
EndsBefore page area = area.first + area.count < page

-- the area contains the page, lies after it, or ends right before it
abbrev pub EndsFrom : ℕ → Area → Type 0
EndsFrom page area = page ≤ area.first + area.count

-- the areas are counted, and the list has room for six more: two changes add no more
pub record AreRoomy (areas : Vec Area) (mapped : ℕ) : Type 0 where
  pub counted : AreCounted areas.items mapped
  pub room : vec_len areas + 6 ≤ vec_capacity areas
