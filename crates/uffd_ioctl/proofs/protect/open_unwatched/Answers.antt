use Rattle.std.proofs.Common.{◌∙◌, ◌-◌, ◌&&◌, not, ap, refl, arith}
use Rattle.std.specs.FinSet.{contains}
use Rattle.foundation.specs.Ranges.{in_range}
use Rattle.mig_base.proofs.SetLemmas.{member_without}
use Rattle.userfault.proofs.ModeLemmas.{removed_none, removed_more, removed_all}
use Rattle.uffd_ioctl.proofs.RegisterLemmas.{unless_watched}
use Rattle.uffd_ioctl.proofs.protect.open_unwatched.Goals as goal

pub loop-at-init : goal.loop-at-init
loop-at-init c = record {
  range = (omega arith, omega arith);
  bytes = refl;
  opened = λ q. removed_none q c.args.range.first (contains c.args.pages.now.protected q) (not (contains c.args.object.now.protect q));
}

pub loop-at-preserved : goal.loop-at-preserved
loop-at-preserved c =
    let start = c.unwatched_run-start.result.0 in
    let stop = c.unwatched_run-start.result.1 in
    record {
      range = (omega arith, omega arith);
      bytes = c.unprotect_range.ensures.bytes ∙ c.loop-at.invariant.bytes;
      opened = λ q. ap (λ s. contains s q) c.unprotect_range.ensures.protected
          ∙ member_without c.loop-at.pages.protected start (stop - start) q
          ∙ ap (λ b. b && not (in_range start (stop - start) q)) (c.loop-at.invariant.opened q)
          ∙ removed_more q c.args.range.first c.loop-at.at start stop (contains c.args.pages.now.protected q) (contains c.args.object.now.protect q) c.loop-at.invariant.range.0 (omega arith) (omega arith) (c.unwatched_run-start.ensures.before q) (c.unwatched_run-start.ensures.inside q);
    }

pub returns-clause-protected : goal.returns-clause-protected
returns-clause-protected c = λ q.
    c.loop-at.invariant.opened q
    ∙ removed_all q c.args.range.first c.args.range.count c.loop-at.at (contains c.args.pages.now.protected q) (not (contains c.args.object.now.protect q)) c.loop-at.invariant.range.0 c.loop-at.invariant.range.1 c.loop-at-test.false
    ∙ ap (λ b. contains c.args.pages.now.protected q && b) (unless_watched (in_range c.args.range.first c.args.range.count q) (contains c.args.object.now.protect q))

pub returns-clause-bytes : goal.returns-clause-bytes
returns-clause-bytes c = c.loop-at.invariant.bytes
