use Rattle.std.proofs.Common.{◌≡◌, Decides, rules}
use Rattle.std.proofs.lemmas.Slice.Eq.{slice_eq-Decides}
use Rattle.mig_model.specs.Guest.{Fault}
use Rattle.uffd_ioctl.specs.contracts.page_fault.PageFaultPartialEq.TheImpl as held
use Rattle.uffd_ioctl.proofs.page_fault.are_same_faults.Goals as goal

-- what `==` says of two faults
same_faults : (a b : Fault) → Decides (held.ghosts.eq a b) (a ≡ b)
same_faults a b = search rules

pub returns : goal.returns
returns c = slice_eq-Decides same_faults c.args.faults.now.items c.args.others.now.items c.eq.result c.eq.ensures
