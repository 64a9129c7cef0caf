use Rattle.std.proofs.Common.{ap, refl, true}
use Rattle.mig_base.specs.Commands.{is_access}
use Rattle.guest.specs.Guests.{guest_with}
use Rattle.guest.proofs.CommandLemmas.{begun}
use Rattle.uffd_ioctl.proofs.LentLemmas.{space_lent}
use Rattle.guest_tests.proofs.handlers.issued.Goals as goal

pub returns : goal.returns
returns c =
    let made = begun (guest_with c.args.space.now c.args.cpus.now) _ true c.args.cpu c.args.command _ _ c.in_ok-tried.ensures.made in
    rw (ap (λ g. g.space) made) (space_lent (is_access c.args.command) c.args.space.now c.args.cpu c.args.command refl c.is_in_order.ensures c.requires.lent)
