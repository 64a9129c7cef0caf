use Rattle.wires.proofs.ByteLemmas.{no_bytes}
use Rattle.wires.proofs.wire.Wire.clear.Goals as goal

pub returns-clause-bytes : goal.returns-clause-bytes
returns-clause-bytes c = no_bytes c.clear.new.self c.clear.ensures.chunks c.clear.ensures.none
