use Rattle.std.proofs.Common.{◌∙◌, ap, not, sym}
use Rattle.std.specs.FinMap.{contains_key}
use Rattle.std.proofs.lemmas.Bool.{false≢true}
use Rattle.mig_base.proofs.Taken.{all_left, all_taken, each_more, none_taken, part_run, run_is, taken_run}
use Rattle.fault_handler.proofs.TornLemmas.{has_none_from, mapped_in, unmapped_in}
use Rattle.fault_handler.proofs.kept.are_mapped.Goals as goal

pub loop-run-init : goal.loop-run-init
loop-run-init c =
    let all = c.into_iter-run-iterator.ensures.into_iter_gives ∙ c.runs-run-items.ensures in
    record { part = all_left c.args.pages.now _ all; mapped = λ q h. absurd (false≢true (sym (none_taken c.args.pages.now _ all q) ∙ h)) }

pub mapped_in-requires : goal.mapped_in-requires
mapped_in-requires c = c.in-Some.ensures.steps.0.high

pub returns-then-mapped_in-run : goal.returns-then-mapped_in-run
returns-then-mapped_in-run c =
    let steps = c.in-Some.ensures.steps in
    sym (unmapped_in c.args.pages.now c.args.areas.now c.in-Some.run' c.mapped_in.result c.mapped_in.ensures (run_is c.args.pages.now c.loop-run.run-iterator c.next.new.self c.in-Some.run' steps.0 steps.1 c.loop-run.invariant.part) c.if-mapped_in-run.true)

pub loop-run-preserved : goal.loop-run-preserved
loop-run-preserved c =
    let steps = c.in-Some.ensures.steps in
    let run = c.in-Some.run' in
    let pages = c.args.pages.now in
    let left = c.loop-run.run-iterator in
    let rest = c.next.new.self in
    record {
      part = part_run pages left rest run steps.0 steps.1 c.loop-run.invariant.part;
      mapped = λ q. each_more _ _ _ (taken_run pages left rest run steps.0 steps.1 c.loop-run.invariant.part q) (c.loop-run.invariant.mapped q) (mapped_in pages c.args.areas.now run c.mapped_in.result c.mapped_in.ensures c.if-mapped_in-run.false q);
    }

pub returns : goal.returns
returns c =
    sym (has_none_from c.args.pages.now (λ page. not (contains_key c.args.areas.now page)) (λ q here. ap not (c.loop-run.invariant.mapped q (all_taken c.args.pages.now c.loop-run.run-iterator q c.in-None.ensures.steps.0 ∙ here))))
