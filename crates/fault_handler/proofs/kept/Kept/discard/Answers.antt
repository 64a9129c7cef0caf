use Rattle.std.proofs.Common.{◌∙◌, ap, cond, None}
use Rattle.std.specs.FinMap.{get}
use Rattle.foundation.specs.Ranges.{in_range}
use Rattle.mig_base.proofs.PageLemmas.{get-remove_range}
use Rattle.mig_base.proofs.Taken.{all_left, all_taken, none_taken, part_run, taken, taken_run}
use Rattle.fault_handler.proofs.KeptLemmas.{all_gone, more_gone, none_gone}
use Rattle.fault_handler.proofs.kept.Kept.discard.Goals as goal

pub loop-run-init : goal.loop-run-init
loop-run-init c =
    let all = c.into_iter-run-iterator.ensures.into_iter_gives ∙ c.runs-run-items.ensures in
    record { part = all_left c.args.pages.now _ all; out = λ q. none_gone _ (get c.args.self.now q) (none_taken c.args.pages.now _ all q) }

pub drop_range-requires : goal.drop_range-requires
drop_range-requires c = c.in-Some.ensures.steps.0.high

pub loop-run-preserved : goal.loop-run-preserved
loop-run-preserved c =
    let steps = c.in-Some.ensures.steps in
    let run = c.in-Some.run' in
    let pages = c.args.pages.now in
    let left = c.loop-run.run-iterator in
    let rest = c.next.new.self in
    record {
      part = part_run pages left rest run steps.0 steps.1 c.loop-run.invariant.part;
      out = λ q.
          ap (λ m. get m q) c.drop_range.ensures ∙ get-remove_range c.loop-run.self run.first run.count q ∙ ap (λ o. cond (in_range run.first run.count q) None o) (c.loop-run.invariant.out q)
          ∙ more_gone _ _ _ (get c.args.self.now q) (taken_run pages left rest run steps.0 steps.1 c.loop-run.invariant.part q);
    }

pub returns : goal.returns
returns c =
    all_gone c.args.self.now c.loop-run.self c.args.pages.now (taken c.args.pages.now c.loop-run.run-iterator) (λ q. all_taken c.args.pages.now c.loop-run.run-iterator q c.in-None.ensures.steps.0) c.loop-run.invariant.out
