-- The space that a node lends to the calls.
use Rattle.std.specs.Prelude.{◌≡◌, ℕ, ◌<◌, true, false}
use Rattle.std.specs.FinMap.{contains_key}
use Rattle.mig_base.specs.declared.TheConstants.{LOW_PAGE}
use Rattle.mig_model.specs.Space.{Space}
use Rattle.mig_model.specs.Ioctls.{has_events}

-- the space may be lent: its object is enabled, for the three events at least, and nothing is mapped below the lowest address
pub record IsLent (space : Space) : Type 0 where
  pub enabled : space.object.enabled ≡ true
  pub events : has_events space.object ≡ true
  pub low : (page : ℕ) → page < LOW_PAGE → contains_key space.host.areas page ≡ false
