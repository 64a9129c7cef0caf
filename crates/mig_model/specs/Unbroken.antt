-- What the destination keeps from a Switch until it runs, if the channel does not break.
use Rattle.std.specs.Prelude.{◌≡◌, ℕ, true, Ok, IsOk, List, [], ◌∷◌}
use Rattle.std.specs.FinMap.{get, contains_key}
use Rattle.std.specs.FinSet.{contains}
use Rattle.mig_base.specs.declared.effect.Effect.{Effect}
use Rattle.mig_base.specs.declared.schedule.Step.{Step}
use Rattle.mig_model.specs.Source.{space_of}
use Rattle.mig_model.specs.Migration.{World, after_steps, next, outcome}

-- the link is up after each step of a list, so none of them is a Break that is accepted
abbrev pub StaysUp : World → List Step → Type 0
StaysUp world [] = Unit {0}
StaysUp world (step ∷ steps) = ((next world step).up ≡ true) × StaysUp (next world step) steps

-- a Switch is accepted, the link stays up, and after these steps the destination takes the Package
pub record TakesPackage (world : World) (steps : List Step) (n owed : ℕ) : Type 0 where
  pub switched : IsOk (outcome world Step.Switch)
  pub up : StaysUp (next world Step.Switch) steps
  pub taken : outcome (after_steps (next world Step.Switch) steps) (Step.Deliver n) ≡ Ok (Effect.TookPackage owed)

-- the destination keeps exactly the pages that were clean at the source before, with the bytes that they had there
pub record KeepsClean (before now : World) : Type 0 where
  pub pages : (page : ℕ) → contains_key now.destination.kept page ≡ contains before.source.log.clean page
  pub bytes : (page : ℕ) → contains before.source.log.clean page ≡ true → get now.destination.kept page ≡ get (space_of before.source).host.bytes page
