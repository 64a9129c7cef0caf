-- Ranges of pages: one protection throughout, and a move.
use Rattle.std.specs.Prelude.{◌≡◌, ℕ, ◌+◌, ◌-◌, ◌<◌, ◌≤◌, if◌then◌else◌, Option, Some, None}
use Rattle.mig_base.specs.declared.Prot.{Prot}
use Rattle.foundation.specs.Ranges.{in_range}

-- each page of the range is mapped with the protection
abbrev pub HasOneProt : (ℕ → Option Prot) → ℕ → ℕ → Prot → Type 0
HasOneProt prots first count prot = (page : ℕ) → first ≤ page → page < first + count → prots page ≡ Some prot

-- the protection of each page after the pages of one range moved to another
abbrev pub moved_protections : (ℕ → Option Prot) → ℕ → ℕ → ℕ → ℕ → Option Prot
moved_protections prots from to count page =
    if in_range to count page then prots (from + (page - to)) else (if in_range from count page then None else prots page)
