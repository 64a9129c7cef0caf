-- A world that a step or steps lead to from a reached world is reached.
use Rattle.std.proofs.Common.{◌≡◌, List, [], ◌∷◌, ◌++◌, refl, sym, ap, ◌∙◌}
use Rattle.mig_base.specs.declared.schedule.Step.{Step}
use Rattle.mig_model.specs.Migration.{World, after_steps, first_world_with, next}
use Rattle.mig_model.specs.Promises.{IsReached}

pub after_steps-append : (world : World) (steps more : List Step) → after_steps world (steps ++ more) ≡ after_steps (after_steps world steps) more
after_steps-append world [] more = refl
after_steps-append world (step ∷ steps) more = after_steps-append (next world step) steps more

pub reached-after_steps : (world : World) (steps : List Step) → IsReached world → IsReached (after_steps world steps)
reached-after_steps world steps reached =
    record {
      cpus = reached.cpus;
      epoch = reached.epoch;
      rounds = reached.rounds;
      steps = reached.steps ++ steps;
      is = ap (λ w. after_steps w steps) reached.is ∙ sym (after_steps-append (first_world_with reached.cpus reached.epoch reached.rounds) reached.steps steps);
    }

pub reached-next : (world : World) (step : Step) → IsReached world → IsReached (next world step)
reached-next world step reached = reached-after_steps world (step ∷ []) reached
