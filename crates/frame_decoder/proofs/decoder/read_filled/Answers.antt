use Rattle.std.proofs.Common.{subst}
use Rattle.page_stream.specs.Frames.{frame_of}
use Rattle.frame_decoder.specs.declared.stream.Next.{Next}
use Rattle.frame_decoder.specs.Reading.{front_of}
use Rattle.frame_decoder.specs.Streams.{Breach, IsPart}
use Rattle.frame_decoder.specs.Taking.{FrontIs, Stands}
use Rattle.frame_decoder.proofs.Fillings.{fault_splits, one_text, part_splits}
use Rattle.frame_decoder.proofs.decoder.read_filled.Goals.{in-Part, in-Fault}
use Rattle.frame_decoder.proofs.decoder.read_filled.Goals as goal

pub read_behind-requires : goal.read_behind-requires
read_behind-requires c =
    let bytes = c.fill_frame.new.held.items in
    let front : FrontIs c.args.fixed bytes c.in-Whole.version c.in-Whole.epoch (frame_of c.in-Whole.frame) c.in-Whole.len = subst (λ (next : Next). Stands c.args.fixed bytes (front_of next)) c.in-Whole.is (rw c.deref.ensures.value at c.in_ok-version.ensures) in
    one_text c.args.fixed bytes c.in_ok-rest.rest.now c.in-Whole.version c.in-Whole.epoch (frame_of c.in-Whole.frame) c.in-Whole.len front c.in_ok-rest.ensures.ok.ends

pub returns-clause-ok : goal.returns-clause-ok
returns-clause-ok c =
    let bytes = c.fill_frame.new.held.items in
    let up = c.in_ok-rest.ensures.ok in
    elim c.match-branch-3.branch [
      | in-Part w ↦
          let part : IsPart c.args.fixed bytes = subst (λ (next : Next). Stands c.args.fixed bytes (front_of next)) w.in-Part.is (rw c.deref.ensures.value at c.in_ok-version.ensures) in
          rw (c.new.ensures.items, w.held-is, w.fault-is) (part_splits c.args.fixed c.args.held.now.items c.args.piece.now bytes c.in_ok-rest.rest.now part up)
      | in-Fault w ↦
          let breach : Breach c.args.fixed bytes w.in-Fault.fault = subst (λ (next : Next). Stands c.args.fixed bytes (front_of next)) w.in-Fault.is (rw c.deref.ensures.value at c.in_ok-version.ensures) in
          rw (c.new.ensures.items, w.held-is, w.fault-is, w.clear.ensures.items) (fault_splits c.args.fixed c.args.held.now.items c.args.piece.now bytes c.in_ok-rest.rest.now w.in-Fault.fault breach up)
    ]
