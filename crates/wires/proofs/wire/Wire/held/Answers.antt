use Rattle.wires.proofs.ByteLemmas.{held_decoded}
use Rattle.wires.proofs.wire.Wire.held.Goals as goal

pub returns-clause-decoded : goal.returns-clause-decoded
returns-clause-decoded c = rw (← c.self.view_is) (held_decoded c.self.inside.chunks c.self.inside.held c.self.invariant.0 c.self.invariant.1)
