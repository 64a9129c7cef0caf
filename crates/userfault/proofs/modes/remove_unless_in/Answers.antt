use Rattle.std.proofs.Common.{◌∙◌, ◌-◌, ◌&&◌, not, ap, arith}
use Rattle.std.specs.FinSet.{contains}
use Rattle.foundation.specs.Ranges.{in_range}
use Rattle.mig_base.proofs.SetLemmas.{member_without}
use Rattle.userfault.proofs.ModeLemmas.{removed_none, removed_more, removed_all}
use Rattle.userfault.proofs.modes.remove_unless_in.Goals as goal

pub loop-at-init : goal.loop-at-init
loop-at-init c = record { range = (omega arith, omega arith); removed = λ q. removed_none q c.args.first (contains c.args.set.now q) (not (contains c.args.other.now q)) }

pub loop-at-preserved : goal.loop-at-preserved
loop-at-preserved c =
    let start = c.run_of-start.result.0 in
    let stop = c.run_of-start.result.1 in
    record {
      range = (omega arith, omega arith);
      removed = λ q. ap (λ s. contains s q) c.remove_range.ensures
          ∙ member_without c.loop-at.set start (stop - start) q
          ∙ ap (λ b. b && not (in_range start (stop - start) q)) (c.loop-at.invariant.removed q)
          ∙ removed_more q c.args.first c.loop-at.at start stop (contains c.args.set.now q) (contains c.args.other.now q) c.loop-at.invariant.range.0 (omega arith) (omega arith) (c.run_of-start.ensures.before q) (c.run_of-start.ensures.inside q);
    }

pub returns : goal.returns
returns c = λ q. c.loop-at.invariant.removed q ∙ removed_all q c.args.first c.args.count c.loop-at.at (contains c.args.set.now q) (not (contains c.args.other.now q)) c.loop-at.invariant.range.0 c.loop-at.invariant.range.1 c.loop-at-test.false
