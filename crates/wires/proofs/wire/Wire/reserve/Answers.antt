use Rattle.std.proofs.Common.{ap, ◌∙◌}
use Rattle.wires.specs.Lanes.{lane_bytes}
use Rattle.wires.proofs.ByteLemmas.{same_bytes}
use Rattle.wires.proofs.wire.Wire.reserve.Goals as goal

pub returns-clause-bytes : goal.returns-clause-bytes
returns-clause-bytes c = same_bytes c.self.inside.chunks c.reserve.new.self c.self.invariant.0 c.reserve.ensures.chunks c.reserve.ensures.stays ∙ ap lane_bytes c.self.view_is
