use Rattle.std.proofs.Common.{◌∙◌, ap, ◌++◌, List, ℕ}
use Rattle.finishing.proofs.Behind.{adds_more, order_at}
use Rattle.finishing.proofs.run.add_lines.Goals as goal

pub loop-step-preserved : goal.loop-step-preserved
loop-step-preserved c = adds_more c.args.steps.now c.loop-step.step-index _ c.args.text.now.items c.loop-step.text.items _ _ _ c.loop-step-test.true c.loop-step.invariant
    (record {
      order = _;
      line = c.in_ok-spell.ensures.line (order_at c.args.steps.now c.loop-step.step-index _ _ c.in_ok-spell.ensures.step c.in_ok-spell.ensures.order c.loop-step-test.true c.requires);
      makes = c.in_ok-spell.ensures.step;
    })
    (c.in_ok-extend_from_slice.ensures.items ∙ ap (λ (t : List ℕ). c.loop-step.text.items ++ t) c.as_bytes.ensures.value)
    c.in_ok-push.ensures.items
