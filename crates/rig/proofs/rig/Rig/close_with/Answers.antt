use Rattle.std.proofs.Common.{Option, subst, sym}
use Rattle.pusher.specs.Seats.{Starting, Held}
use Rattle.rig.specs.Claiming.{AreFound}
use Rattle.rig.proofs.rig.Rig.close_with.Goals as goal

pub returns-clause-kept : goal.returns-clause-kept
returns-clause-kept c =
    let world = c.in-Ok.world in
    subst (λ (o : Option (Starting × Held)). AreFound o world) (sym c.in-Some.is) (c.are_lost.ensures.no c.if-are_lost.false)
