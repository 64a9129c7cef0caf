use Rattle.std.proofs.Common.{◌++◌, ap, ◌∙◌}
use Rattle.page_stream.specs.Texts.{text}
use Rattle.page_stream.specs.Texts.Version.{Two}
use Rattle.page_stream.specs.Frames.{frame_of}
use Rattle.wires.specs.Lanes.{lane_bytes}
use Rattle.wires.proofs.ByteLemmas.{more_bytes}
use Rattle.wires.proofs.wire.Wire.push.Goals as goal

pub returns-clause-bytes : goal.returns-clause-bytes
returns-clause-bytes c =
    more_bytes c.self.inside.chunks c.write.new.self (record { epoch = c.args.epoch; frame = frame_of c.args.frame }) c.self.invariant.0 c.write.ensures.chunks c.write.ensures.written
    ∙ ap (λ lane. lane_bytes lane ++ text Two c.args.epoch (frame_of c.args.frame)) c.self.view_is
