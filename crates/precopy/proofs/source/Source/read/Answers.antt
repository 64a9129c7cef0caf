use Rattle.std.proofs.Common.{ap}
use Rattle.mig_model.specs.Source.{space_of}
use Rattle.precopy.proofs.HandlerLemmas.{some_noted}
use Rattle.precopy.proofs.OrderLemmas.{read_order}
use Rattle.guest.specs.Guests.{guest_with}
use Rattle.precopy.proofs.GuestLemmas.{seen_guest}
use Rattle.precopy.proofs.source.Source.read.Goals as goal

pub invariant_of-self-2 : goal.invariant_of-self-2
invariant_of-self-2 c =
    let guest = guest_with c.self.inside.space c.self.inside.cpus in
    let read = some_noted guest _ c.in_ok-effect.effect c.in_ok-effect.ensures.answer in
    let made = c.in_ok-effect.ensures.read read.noted read.is in
    let space = ap space_of made in (
      read_order _ _ guest _ c.self.inside.log _ read.noted read.is space c.read.ensures.lent (ap (λ node. node.log) made) c.self.invariant.0,
      seen_guest guest _ _ read.noted.cpu read.noted.message space (ap (λ node. node.guest.cpus) made) c.self.invariant.1,
    )
