use Rattle.std.proofs.Common.{◌-◌, ◌≡◌}
use Rattle.mig_base.specs.Bytes.{zero_page}
use Rattle.uffd_ioctl.proofs.InstallLemmas.{ArePut}
use Rattle.uffd_ioctl.proofs.install.put_zeros.Given as goal

abbrev pub invariant-loop-done : goal.invariant-loop-done
invariant-loop-done l = record {
  put : ArePut l.fn.pages.bytes l.pages.bytes l.first l.count l.done (λ i. zero_page);
  protected : l.pages.protected ≡ l.fn.pages.protected;
}

abbrev pub decreases-loop-done : goal.decreases-loop-done
decreases-loop-done l = l.count - l.done
