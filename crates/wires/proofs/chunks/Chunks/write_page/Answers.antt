use Rattle.std.proofs.Common.{ap, arith, length, refl, ◌∙◌}
use Rattle.std.proofs.lemmas.Bool.{false≢true}
use Rattle.std.proofs.lemmas.List.{length-append}
use Rattle.mig_model.specs.Wire.{Frame}
use Rattle.wires.proofs.ChunkLemmas.{in_two, length-text_of, longest, written_more}
use Rattle.wires.proofs.chunks.Chunks.write_page.Goals as goal

pub unreachable-requires : goal.unreachable-requires
unreachable-requires c = let long = longest (Frame.Page c.args.page c.args.bytes.now) c.requires.well_formed in absurd (false≢true (c.in_default.ensures.room (omega (arith, long, c.requires.room))))

pub returns-clause-chunks : goal.returns-clause-chunks
returns-clause-chunks c =
    (written_more c.args.self.now (record { reading = c.args.self.now.reading; taken = c.args.self.now.taken; full = c.args.self.now.full; writing = c.encode_page_into.new.into }) (record { epoch = c.args.epoch; frame = Frame.Page c.args.page c.args.bytes.now }) c.requires.chunks
    (record { epoch = c.ranges.epoch.fits; frame = in_two (Frame.Page c.args.page c.args.bytes.now) c.requires.well_formed }) refl refl refl c.in-Ok.ensures.ok).0

pub returns-clause-written : goal.returns-clause-written
returns-clause-written c =
    (written_more c.args.self.now (record { reading = c.args.self.now.reading; taken = c.args.self.now.taken; full = c.args.self.now.full; writing = c.encode_page_into.new.into }) (record { epoch = c.args.epoch; frame = Frame.Page c.args.page c.args.bytes.now }) c.requires.chunks
    (record { epoch = c.ranges.epoch.fits; frame = in_two (Frame.Page c.args.page c.args.bytes.now) c.requires.well_formed }) refl refl refl c.in-Ok.ensures.ok).1

pub returns-clause-room : goal.returns-clause-room
returns-clause-room c =
    let long = longest (Frame.Page c.args.page c.args.bytes.now) c.requires.well_formed in
    let is = length-text_of (record { epoch = c.args.epoch; frame = Frame.Page c.args.page c.args.bytes.now }) (record { epoch = c.ranges.epoch.fits; frame = in_two (Frame.Page c.args.page c.args.bytes.now) c.requires.well_formed }) in
    let more = ap length c.in-Ok.ensures.ok ∙ length-append c.args.self.now.writing.items _ in
    omega (arith, long, is, more, c.encode_page_into.ensures.capacity)
