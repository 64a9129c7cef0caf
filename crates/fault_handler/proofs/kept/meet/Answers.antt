use Rattle.std.proofs.Common.{◌∙◌, ap, not, sym, arith}
use Rattle.std.specs.FinSet.{contains}
use Rattle.foundation.proofs.RangeLemmas.{in_range-true, in_range_bounds}
use Rattle.mig_base.proofs.Taken.{all_left, all_taken, each_more, none_taken, part_run, run_is, taken_run}
use Rattle.std.proofs.lemmas.Bool.{false≢true}
use Rattle.fault_handler.proofs.TornLemmas.{has_none_from, has_some}
use Rattle.fault_handler.proofs.kept.meet.Goals as goal

pub loop-run-init : goal.loop-run-init
loop-run-init c =
    let all = c.into_iter-run-iterator.ensures.into_iter_gives ∙ c.runs-run-items.ensures in
    record { part = all_left c.args.one.now _ all; apart = λ q h. absurd (false≢true (sym (none_taken c.args.one.now _ all q) ∙ h)) }

pub overflow_add-end : goal.overflow_add-end
overflow_add-end c = let high = c.in-Some.ensures.steps.0.high in omega (arith, high)

pub returns-then-next_before-end : goal.returns-then-next_before-end
returns-then-next_before-end c =
    let steps = c.in-Some.ensures.steps in
    let run = c.in-Some.run' in
    let page = c.next_before.result in
    sym (ap not (has_some c.args.one.now (contains c.args.other.now) page
    (run_is c.args.one.now c.loop-run.run-iterator c.next.new.self run steps.0 steps.1 c.loop-run.invariant.part page (in_range-true run.first run.count page c.next_before.ensures.range.0 c.if-next_before-end.true))
    (c.next_before.ensures.here c.if-next_before-end.true)))

pub loop-run-preserved : goal.loop-run-preserved
loop-run-preserved c =
    let steps = c.in-Some.ensures.steps in
    let run = c.in-Some.run' in
    let one = c.args.one.now in
    let left = c.loop-run.run-iterator in
    let rest = c.next.new.self in
    record {
      part = part_run one left rest run steps.0 steps.1 c.loop-run.invariant.part;
      apart = λ q.
          each_more _ _ _ (taken_run one left rest run steps.0 steps.1 c.loop-run.invariant.part q) (c.loop-run.invariant.apart q)
          (λ within. let bounds = in_range_bounds run.first run.count q within in c.next_before.ensures.before q bounds.0 (omega (arith, bounds.1, c.if-next_before-end.false)));
    }

pub returns : goal.returns
returns c = sym (ap not (has_none_from c.args.one.now (contains c.args.other.now) (λ q here. c.loop-run.invariant.apart q (all_taken c.args.one.now c.loop-run.run-iterator q c.in-None.ensures.steps.0 ∙ here))))
