use Rattle.std.proofs.Common.{arith, subst}
use Rattle.std.proofs.lemmas.List.{take_all}
use Rattle.mig_model.specs.Runs.{IsRun}
use Rattle.world.proofs.CoreLemmas.{core_run}
use Rattle.world.proofs.RunLemmas.{IsRun-more}
use Rattle.world.proofs.world.World.run.Goals as goal

pub loop-step-preserved : goal.loop-step-preserved
loop-step-preserved c = record {
  run = IsRun-more c.args.self.now c.loop-step.self c.step-outcome.new.self c.args.steps.now c.loop-step.step-index _ c.loop-step.outcomes.items c.push_reserved.new.self.items c.step-outcome.result c.loop-step-test.true c.loop-step.invariant.run c.step-outcome.ensures.happens c.push_reserved.ensures.items;
  headline = c.step-outcome.ensures.headline;
  count = omega (arith, c.loop-step.invariant.count, c.push_reserved.ensures.len);
  room = omega (arith, c.loop-step.invariant.room, c.push_reserved.ensures.capacity);
}

pub returns-clause-core : goal.returns-clause-core
returns-clause-core c =
    core_run c.args.self.now c.loop-step.self c.args.steps.now c.loop-step.outcomes.items c.headline.ensures.reached
    (subst (λ steps. IsRun c.args.self.now steps c.loop-step.outcomes.items c.loop-step.self) (take_all c.loop-step.step-index c.args.steps.now c.loop-step-test.false) c.loop-step.invariant.run)

pub returns-clause-run : goal.returns-clause-run
returns-clause-run c = subst (λ steps. IsRun c.args.self.now steps c.loop-step.outcomes.items c.loop-step.self) (take_all c.loop-step.step-index c.args.steps.now c.loop-step-test.false) c.loop-step.invariant.run
