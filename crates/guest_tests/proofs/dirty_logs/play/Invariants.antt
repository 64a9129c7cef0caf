use Rattle.uffd_ioctl.specs.Lent.{IsLent}
use Rattle.guest_tests.proofs.dirty_logs.play.Given as goal

abbrev pub invariant-loop-i : goal.invariant-loop-i
invariant-loop-i g l = IsLent l.space
