use Rattle.std.proofs.Common.{refl, ◌∙◌}
use Rattle.mig_base.specs.Bytes.{zero_page}
use Rattle.uffd_ioctl.proofs.InstallLemmas.{none_put, one_more_put, all_put, some_put}
use Rattle.uffd_ioctl.proofs.install.put_zeros.Goals as goal

pub loop-done-init : goal.loop-done-init
loop-done-init c = record { put = none_put c.args.pages.now.bytes c.args.first c.args.count (λ i. zero_page); protected = refl }

pub returns-in-Err-clause-put : goal.returns-in-Err-clause-put
returns-in-Err-clause-put c =
    some_put c.args.pages.now.bytes c.loop-done.pages.bytes c.args.first c.args.count c.loop-done.done (λ i. zero_page) c.in-Err.fault c.loop-done.invariant.put c.loop-done-test.true c.in-Err.ensures.fault.1

pub loop-done-preserved : goal.loop-done-preserved
loop-done-preserved c = record {
  put = one_more_put c.args.pages.now.bytes c.loop-done.pages.bytes c.put_zero.new.self.bytes c.args.first c.args.count c.loop-done.done (λ i. zero_page) zero_page c.loop-done.invariant.put c.loop-done-test.true c.in_default.ensures.missing c.in_default.ensures.ok refl;
  protected = c.put_zero.ensures.protected ∙ c.loop-done.invariant.protected;
}

pub returns-clause-put : goal.returns-clause-put
returns-clause-put c =
    all_put c.args.pages.now.bytes c.loop-done.pages.bytes c.args.first c.args.count c.loop-done.done (λ i. zero_page) c.loop-done.invariant.put c.loop-done-test.false
