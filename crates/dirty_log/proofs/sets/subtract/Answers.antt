use Rattle.std.proofs.Common.{◌∙◌, ◌&&◌, ap, not, sym}
use Rattle.std.specs.FinSet.{contains}
use Rattle.foundation.specs.Ranges.{in_range}
use Rattle.mig_base.proofs.SetLemmas.{same_members, member_without}
use Rattle.mig_base.proofs.Taken.{all_left, all_taken, none_taken, part_run, taken_run}
use Rattle.dirty_log.proofs.PageLemmas.{member_kept, more_out, none_out_yet}
use Rattle.dirty_log.proofs.sets.subtract.Goals as goal

pub loop-run-init : goal.loop-run-init
loop-run-init c =
    let all = c.into_iter-run-iterator.ensures.into_iter_gives ∙ c.runs-run-items.ensures in
    record { part = all_left c.args.other.now _ all; out = λ q. none_out_yet (contains c.args.pages.now q) _ (none_taken c.args.other.now _ all q) }

pub remove_range-requires : goal.remove_range-requires
remove_range-requires c = c.in-Some.ensures.steps.0.high

pub loop-run-preserved : goal.loop-run-preserved
loop-run-preserved c =
    let steps = c.in-Some.ensures.steps in
    let run = c.in-Some.run' in
    let other = c.args.other.now in
    let left = c.loop-run.run-iterator in
    let rest = c.next.new.self in
    record {
      part = part_run other left rest run steps.0 steps.1 c.loop-run.invariant.part;
      out = λ q.
          ap (λ s. contains s q) c.remove_range.ensures ∙ member_without c.loop-run.pages run.first run.count q ∙ ap (λ b. b && not (in_range run.first run.count q)) (c.loop-run.invariant.out q)
          ∙ more_out (contains c.args.pages.now q) _ _ _ (taken_run other left rest run steps.0 steps.1 c.loop-run.invariant.part q);
    }

pub returns : goal.returns
returns c =
    same_members _ _
    (λ q. c.loop-run.invariant.out q ∙ ap (λ b. contains c.args.pages.now q && not b) (all_taken c.args.other.now c.loop-run.run-iterator q c.in-None.ensures.steps.0)
    ∙ sym (member_kept c.args.pages.now (contains c.args.other.now) q))
