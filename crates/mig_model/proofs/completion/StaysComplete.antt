-- A migration that is complete stays complete.
use Rattle.std.proofs.lemmas.Bool.Decides.{nat_tests}
use Rattle.std.proofs.Common.{arith}
use Rattle.mig_base.specs.declared.schedule.Step.{Step}
use Rattle.mig_model.specs.Migration.{World, next}
use Rattle.mig_model.specs.Invariant.{IsSoundWorld}
use Rattle.mig_model.specs.Promises.{IsComplete}
use Rattle.mig_model.proofs.steps.StepCases.{MakesWorld, made-next}

complete-answer : (world : World) (step : Step) → IsSoundWorld world → IsComplete world → MakesWorld IsComplete world step
complete-answer world step kept done = grind (arith, nat_tests)

pub complete-next : (world : World) (step : Step) → IsSoundWorld world → IsComplete world → IsComplete (next world step)
complete-next world step kept done = made-next IsComplete world step done (complete-answer world step kept done)
