use Rattle.std.proofs.Common.{◌≡◌, ◌≤◌, take, length, vec_len}
use Rattle.std.specs.Vec.{vec_capacity}
use Rattle.mig_model.specs.Runs.{IsRun}
use Rattle.world.specs.Headline.{Headline}
use Rattle.world.proofs.world.World.run.Given as goal

abbrev pub invariant-loop-step : goal.invariant-loop-step
invariant-loop-step l = record {
  run : IsRun l.fn.self (take l.step-index l.steps) l.outcomes.items l.self;
  headline : Headline l.self;
  count : vec_len l.outcomes ≡ l.step-index;
  room : length l.steps ≤ vec_capacity l.outcomes;
}
