use Rattle.std.proofs.Common.{[], ◌∷◌, ◌++◌, sym, ap, ◌∙◌}
use Rattle.finish.proofs.LeadLemmas.{all_due, come_more}
use Rattle.finish.proofs.PushedLemmas.{still_pushed}
use Rattle.finish.proofs.completion.finish.Goals as goal

pub loop-step-preserved : goal.loop-step-preserved
loop-step-preserved c = record {
  come = come_more c.args.world.now c.loop-step.world c.step.new.self c.loop-step.steps.items c.push_reserved.new.self.items c.in-Some.step c.in-Ok-step.field-0 c.loop-step.invariant.come (sym c.in-Some.ensures.step) c.in-Some.ensures.due c.in-Ok-step.ensures.happens (c.push_reserved.ensures.items ∙ ap (λ steps. steps ++ c.in-Some.step ∷ []) c.try_reserve.ensures.items);
  headline = c.step.ensures.headline;
  range = c.pushed_below-from.ensures.range;
  pushed = still_pushed c.loop-step.world c.step.new.self c.in-Some.step c.in-Ok-step.field-0 c.loop-step.from c.pushed_below-from.result c.loop-step.invariant.pushed (sym c.in-Some.ensures.step) c.in-Some.ensures.due.made c.in-Ok-step.ensures.happens c.pushed_below-from.ensures.below;
}

pub returns-clause-strategy : goal.returns-clause-strategy
returns-clause-strategy c = all_due c.args.world.now c.loop-step.world c.loop-step.steps.items c.loop-step.invariant.come (sym c.in_default.ensures.step)
