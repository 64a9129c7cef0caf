use Rattle.std.proofs.Common.{◌/◌, length}
use Rattle.std.specs.FinSet as set
use Rattle.mig_model.specs.Ioctls.{handed}
use Rattle.uffd_ioctl.proofs.InstallLemmas.{none_put, one_more_put, all_put, some_put, is_handed, protected_none, protected_more}
use Rattle.uffd_ioctl.proofs.install.put_copies.Goals as goal

pub loop-done-init : goal.loop-done-init
loop-done-init c = record {
  put = none_put c.args.pages.now.bytes c.args.first (length c.args.bytes.now / 4096) (handed c.args.bytes.now);
  protected = λ q. protected_none c.args.first q (set.contains c.args.pages.now.protected q) c.args.protect;
}

pub returns-in-Err-clause-put : goal.returns-in-Err-clause-put
returns-in-Err-clause-put c =
    some_put c.args.pages.now.bytes c.loop-done.pages.bytes c.args.first (length c.args.bytes.now / 4096) c.loop-done.done (handed c.args.bytes.now) c.in-Err.fault c.loop-done.invariant.put c.loop-done-test.true c.in-Err.ensures.fault.1

pub loop-done-preserved : goal.loop-done-preserved
loop-done-preserved c = record {
  put = one_more_put c.args.pages.now.bytes c.loop-done.pages.bytes c.put_copy.new.pages.bytes c.args.first (length c.args.bytes.now / 4096) c.loop-done.done (handed c.args.bytes.now) _ c.loop-done.invariant.put c.loop-done-test.true c.in_default.ensures.missing c.in_default.ensures.bytes (is_handed c.args.bytes.now c.loop-done.done);
  protected = λ q. protected_more c.args.first c.loop-done.done q (set.contains c.args.pages.now.protected q) c.args.protect (set.contains c.loop-done.pages.protected q) (set.contains c.put_copy.new.pages.protected q) (c.loop-done.invariant.protected q) (c.in_default.ensures.protected q);
}

pub returns-clause-put : goal.returns-clause-put
returns-clause-put c =
    all_put c.args.pages.now.bytes c.loop-done.pages.bytes c.args.first (length c.args.bytes.now / 4096) c.loop-done.done (handed c.args.bytes.now) c.loop-done.invariant.put c.loop-done-test.false
