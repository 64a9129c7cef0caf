use Rattle.std.proofs.Common.{◌∙◌}
use Rattle.precopy.proofs.GuestLemmas.{new_guest}
use Rattle.precopy.proofs.OrderLemmas.{handshake_ok, new_order, shaken}
use Rattle.precopy.proofs.source.Source.new.Goals as goal

pub unreachable-requires : goal.unreachable-requires
unreachable-requires c = c.in_default.not-Ok 333 (c.handshake.ensures.answer ∙ rw c.new-space.ensures handshake_ok)

pub invariant_of-result : goal.invariant_of-result
invariant_of-result c = (rw (c.handshake.ensures.space, c.new-2.ensures, c.new-space.ensures, shaken) new_order, rw (c.handshake.ensures.space, c.new-space.ensures, shaken, c.in_ok-cpus.ensures.cpus) (new_guest c.args.cpus))
