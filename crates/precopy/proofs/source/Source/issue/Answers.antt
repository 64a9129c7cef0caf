use Rattle.std.proofs.Common.{ap, not}
use Rattle.guest.proofs.CommandLemmas.{begun}
use Rattle.guest.specs.Guests.{guest_with}
use Rattle.precopy.proofs.CommandLemmas.{tried_order}
use Rattle.precopy.proofs.GuestLemmas.{tried_guest}
use Rattle.precopy.proofs.source.Source.issue.Goals as goal

pub invariant_of-self-2 : goal.invariant_of-self-2
invariant_of-self-2 c =
    let old = guest_with c.self.inside.space c.self.inside.cpus in
    let made = begun old _ (not c.self.inside.switched) c.args.cpu c.args.command _ _ c.in_ok-tried.ensures.made in (
      tried_order _ _ old _ c.self.inside.log c.args.cpu c.args.command c.is_in_order.ensures (ap (λ g. g.space) made) c.self.invariant.0,
      tried_guest old _ c.args.cpu c.args.command c.is_in_order.ensures made c.self.invariant.1,
    )
