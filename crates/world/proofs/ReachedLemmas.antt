-- Each world stays one, whatever step happens.
use Rattle.std.proofs.Common.{◌≡◌, true, Err, [], ◌∷◌, ◌++◌, length, refl, sym, ap, ◌∙◌, subst, ⊎_elim}
use Rattle.mig_base.specs.declared.refusal.Refusal.{Refusal}
use Rattle.mig_base.specs.declared.schedule.Step.{Step}
use Rattle.mig_model.specs.Bounds.{IsCpuCount}
use Rattle.mig_model.specs.Migration.{World, first_world_with, next, outcome}
use Rattle.mig_model.specs.Promises.{IsReached}
use Rattle.mig_model.specs.Runs.{Happens, Outcome, may_lack}
use Rattle.mig_model.proofs.invariant.Bounded.{bounded-reached}
use Rattle.mig_model.proofs.steps.ReachedLemmas.{after_steps-append}
use Rattle.world.specs.Worlds.{IsWorld}

-- the same processors after one step more
next_reached : (old : World) (step : Step) (reached : IsReached old) → (again : IsReached (next old step)) × (again.cpus ≡ reached.cpus)
next_reached old step reached = (
  record {
    cpus = reached.cpus;
    epoch = reached.epoch;
    rounds = reached.rounds;
    steps = reached.steps ++ step ∷ [];
    is = ap (λ w. next w step) reached.is ∙ sym (after_steps-append (first_world_with reached.cpus reached.epoch reached.rounds) reached.steps (step ∷ []));
  },
  refl,
)

as_before : (old : World) (step : Step) (reached : IsReached old) → length (next old step).source.guest.cpus ≡ length old.source.guest.cpus
as_before old step reached =
    let again = next_reached old step reached in
    (bounded-reached (next old step) again.0).ready.many ∙ again.1 ∙ sym ((bounded-reached old reached).ready.many)

pub world_next : (old : World) (step : Step) → IsWorld old → IsWorld (next old step)
world_next old step is = record { reached = (next_reached old step is.reached).0; count = subst IsCpuCount (sym (as_before old step is.reached)) is.count }

pub world_happens : (old new : World) (step : Step) (result : Outcome) → IsWorld old → Happens old step result new → IsWorld new
world_happens old new step result is happens =
    ⊎_elim
    (λ (h : (result ≡ outcome old step) × (new ≡ next old step)). subst IsWorld (sym h.1) (world_next old step is))
    (λ (h : (result ≡ Err Refusal.NoMemory) × (may_lack step (outcome old step) ≡ true) × (new ≡ old)). subst IsWorld (sym h.2) is)
    happens

pub reached_happens : (old new : World) (step : Step) (result : Outcome) → IsReached old → Happens old step result new → IsReached new
reached_happens old new step result reached happens =
    ⊎_elim
    (λ (h : (result ≡ outcome old step) × (new ≡ next old step)). subst IsReached (sym h.1) (next_reached old step reached).0)
    (λ (h : (result ≡ Err Refusal.NoMemory) × (may_lack step (outcome old step) ≡ true) × (new ≡ old)). subst IsReached (sym h.2) reached)
    happens
