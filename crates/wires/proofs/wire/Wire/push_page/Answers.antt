use Rattle.std.proofs.Common.{◌++◌, ap, ◌∙◌}
use Rattle.mig_model.specs.Wire.{Frame}
use Rattle.page_stream.specs.Texts.{text}
use Rattle.page_stream.specs.Texts.Version.{Two}
use Rattle.wires.specs.Lanes.{lane_bytes}
use Rattle.wires.proofs.ByteLemmas.{more_bytes}
use Rattle.wires.proofs.wire.Wire.push_page.Goals as goal

pub returns-clause-bytes : goal.returns-clause-bytes
returns-clause-bytes c =
    more_bytes c.self.inside.chunks c.write_page.new.self (record { epoch = c.args.epoch; frame = Frame.Page c.args.page c.args.bytes.now }) c.self.invariant.0 c.write_page.ensures.chunks c.write_page.ensures.written
    ∙ ap (λ lane. lane_bytes lane ++ text Two c.args.epoch (Frame.Page c.args.page c.args.bytes.now)) c.self.view_is
