use Rattle.std.proofs.Common.{ℕ, ◌-◌, ◌≡◌, ◌&&◌, ◌||◌}
use Rattle.std.specs.FinSet as set
use Rattle.foundation.specs.Ranges.{in_range}
use Rattle.mig_model.specs.Ioctls.{handed}
use Rattle.uffd_ioctl.proofs.InstallLemmas.{ArePut}
use Rattle.uffd_ioctl.proofs.install.put_copies.Given as goal

abbrev pub invariant-loop-done : goal.invariant-loop-done
invariant-loop-done l = record {
  put : ArePut l.fn.pages.bytes l.pages.bytes l.first l.count l.done (handed l.bytes);
  protected : (q : ℕ) → set.contains l.pages.protected q ≡ (set.contains l.fn.pages.protected q || (l.protect && in_range l.first l.done q));
}

abbrev pub decreases-loop-done : goal.decreases-loop-done
decreases-loop-done l = l.count - l.done
