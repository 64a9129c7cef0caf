use Rattle.mig_base.specs.Bytes.{zero_page}
use Rattle.uffd_ioctl.specs.Spaces.{machine_space}
use Rattle.uffd_ioctl.proofs.InstallLemmas.{IsMovedIn, moved_in}
use Rattle.uffd_ioctl.proofs.space.Space.install_zeros.Goals as goal

moved : (c : goal.After-has_whole_pages) → IsMovedIn c.args.self.now (machine_space c.self.inside.areas c.put_zero.new.self c.self.inside.object) c.args.page zero_page
moved c =
    moved_in c.self.inside.areas c.self.inside.pages c.put_zero.new.self c.self.inside.object c.args.self.now c.args.page zero_page c.self.view_is c.self.invariant c.requires.page c.requires.enabled c.requires.quiet c.requires.registered c.requires.missing
    c.in-Ok.ensures.ok c.in-Ok.ensures.protected c.has_whole_pages.ensures.whole

pub invariant_of-self-2 : goal.invariant_of-self-2
invariant_of-self-2 c = (moved c).sound

pub returns-clause-ok : goal.returns-clause-ok
returns-clause-ok c = (moved c).installed
