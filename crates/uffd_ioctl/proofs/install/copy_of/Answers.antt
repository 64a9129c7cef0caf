use Rattle.std.proofs.Common.{◌≡◌, ℕ, List, subst}
use Rattle.std.specs.Prelude.{IfOk}
use Rattle.uffd_ioctl.proofs.install.copy_of.Goals as goal

pub returns : goal.returns
returns c = subst (λ (bytes : List ℕ). IfOk c.copy_of.result (λ copy. copy ≡ bytes)) c.in-Some.ensures.cases.same c.copy_of.ensures
