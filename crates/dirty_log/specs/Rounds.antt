-- How far a round has come.
use Rattle.std.specs.Prelude.{◌≡◌, ℕ, ◌<◌, ◌≤◌, false}
use Rattle.std.specs.Ordering.{nat_cmp}
use Rattle.std.specs.FinSet.{FinSet, contains}
use Rattle.mig_base.specs.declared.TheConstants.{HIGH_PAGE}

-- no page that the round still has to send lies below this one
pub record HasComeTo (todo : FinSet nat_cmp) (from : ℕ) : Type 0 where
  pub inside : from ≤ HIGH_PAGE
  pub none : (page : ℕ) → page < from → contains todo page ≡ false
