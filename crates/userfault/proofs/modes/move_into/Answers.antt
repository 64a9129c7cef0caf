use Rattle.std.proofs.Common.{◌∙◌, ◌+◌, ◌-◌, ◌&&◌, not, ap, sym, arith}
use Rattle.std.specs.FinSet.{contains}
use Rattle.foundation.specs.Ranges.{in_range}
use Rattle.mig_base.proofs.SetLemmas.{member_without}
use Rattle.userfault.proofs.ModeLemmas.{moved_none, moved_more, source_stays, is_moved_set}
use Rattle.userfault.proofs.modes.move_into.Goals as goal

pub loop-at-init : goal.loop-at-init
loop-at-init c = record {
  range = (omega arith, omega arith);
  moved = λ q. moved_none (contains c.args.set.now) c.args.from c.args.to c.args.count q (c.requires.full q);
}

pub loop-at-preserved : goal.loop-at-preserved
loop-at-preserved c =
    let start = c.run_of-start.result.0 in
    let stop = c.run_of-start.result.1 in
    let old = contains c.args.set.now in
    let done = c.loop-at.at - c.args.from in
    record {
      range = (omega arith, omega arith);
      moved = λ q. ap (λ s. contains s q) c.remove_range.ensures
          ∙ member_without c.loop-at.set (c.args.to + (start - c.args.from)) (stop - start) q
          ∙ ap (λ b. b && not (in_range (c.args.to + (start - c.args.from)) (stop - start) q)) (c.loop-at.invariant.moved q)
          ∙ moved_more old c.args.from c.args.to c.args.count c.loop-at.at start stop q c.loop-at.invariant.range.0 (omega arith) (omega arith) (omega arith)
          (λ p low high. sym (source_stays old c.args.from c.args.to c.args.count done p c.requires.apart (omega arith) (omega arith)) ∙ sym (c.loop-at.invariant.moved p) ∙ c.run_of-start.ensures.before p low high)
          (λ p low high. sym (source_stays old c.args.from c.args.to c.args.count done p c.requires.apart (omega arith) (omega arith)) ∙ sym (c.loop-at.invariant.moved p) ∙ c.run_of-start.ensures.inside p low high);
    }

pub returns : goal.returns
returns c = is_moved_set c.args.set.now c.loop-at.set _ c.args.from c.args.to c.args.count c.loop-at.at c.requires.inside.1 (omega arith) c.requires.apart c.ends_by_high_page.ensures c.loop-at.invariant.moved c.remove_range-2.ensures
