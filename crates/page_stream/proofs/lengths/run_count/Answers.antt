use Rattle.std.proofs.Common.{◌∙◌, ap, arith}
use Rattle.mig_model.specs.Lengths.{run_count}
use Rattle.page_stream.proofs.RunTexts.{few_runs, none_counted, one_more_run}
use Rattle.page_stream.proofs.lengths.run_count.Goals as goal

pub loop-run-init : goal.loop-run-init
loop-run-init c = omega (arith, ap run_count (c.into_iter-run-iterator.ensures.into_iter_gives ∙ c.runs-run-items.ensures))

pub overflow_add-count : goal.overflow_add-count
overflow_add-count c = let few = few_runs c.args.pages.now in omega (arith, few, c.loop-run.invariant)

pub loop-run-preserved : goal.loop-run-preserved
loop-run-preserved c =
    let steps = c.in-Some.ensures.steps in
    omega (arith, c.loop-run.invariant, one_more_run c.loop-run._run-iterator c.next.new.self _ steps.0 steps.1)

pub returns : goal.returns
returns c = omega (arith, c.loop-run.invariant, none_counted c.loop-run._run-iterator c.in-None.ensures.steps.0)
