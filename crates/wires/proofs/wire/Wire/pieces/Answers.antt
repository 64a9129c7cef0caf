use Rattle.wires.proofs.ByteLemmas.{all_sent, bytes_are, wire_decoded}
use Rattle.wires.proofs.wire.Wire.pieces.Goals as goal

pub returns-clause-texts : goal.returns-clause-texts
returns-clause-texts c = rw (← c.self.view_is) (bytes_are c.self.inside.chunks c.self.invariant.0)

pub returns-clause-sent : goal.returns-clause-sent
returns-clause-sent c = rw (← c.self.view_is) (all_sent c.self.inside.chunks c.self.invariant.0)

pub returns-clause-decoded : goal.returns-clause-decoded
returns-clause-decoded c = rw (← c.self.view_is) (wire_decoded c.self.inside.chunks c.self.invariant.0)
