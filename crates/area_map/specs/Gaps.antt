-- Free places among areas.
use Rattle.std.specs.Prelude.{◌≡◌, ℕ, ◌+◌, ◌<◌, ◌≤◌, None, List}
use Rattle.mig_base.specs.declared.TheConstants.{LOW_PAGE, HIGH_PAGE}
use Rattle.mig_base.specs.declared.Area.{Area}
use Rattle.area_map.specs.Areas.{prot_in}

-- the `count` pages from `start` on are not mapped, and lie inside the address space
pub record IsFreeRange (areas : List Area) (count start : ℕ) : Type 0 where
  pub low : LOW_PAGE ≤ start
  pub high : start + count ≤ HIGH_PAGE
  pub free : (page : ℕ) → start ≤ page → page < start + count → prot_in areas page ≡ None

-- `start` is the lowest page from which `count` pages are free
pub record IsFreePage (areas : List Area) (count start : ℕ) : Type 0 where
  pub range : IsFreeRange areas count start
  pub least : (other : ℕ) → IsFreeRange areas count other → start ≤ other
