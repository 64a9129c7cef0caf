use Rattle.std.proofs.Common.{None, Some, ap, subst}
use Rattle.page_stream.specs.Frames.{frame_of}
use Rattle.frame_decoder.specs.declared.stream.Next.{Next}
use Rattle.frame_decoder.specs.Reading.{front_of}
use Rattle.frame_decoder.specs.Streams.{decoded_sent}
use Rattle.frame_decoder.specs.Taking.{FrontIs, Stands}
use Rattle.frame_decoder.proofs.OneFrame.{text_is_all, text_is_whole}
use Rattle.frame_decoder.proofs.stream.read_text.Goals.{in_default-via-in-Whole+else-len-bytes, in_default-via-in_default}
use Rattle.frame_decoder.proofs.stream.read_text.Goals as goal

pub returns-in-Whole-clause-whole : goal.returns-in-Whole-clause-whole
returns-in-Whole-clause-whole c = λ version sent is.
    let front : FrontIs None c.args.bytes.now c.in-Whole.version c.in-Whole.epoch (frame_of c.in-Whole.frame) c.in-Whole.len = subst (λ (next : Next). Stands None c.args.bytes.now (front_of next)) c.in-Whole.is c.in_ok-epoch.ensures in
    ap Some (text_is_all version c.in-Whole.version c.args.bytes.now sent (decoded_sent (c.in-Whole.epoch, c.in-Whole.frame)) c.in-Whole.len is front).same

pub returns-in_default-clause-whole : goal.returns-in_default-clause-whole
returns-in_default-clause-whole c = λ version sent is.
    absurd (elim c.in_default.branch [
      | in_default-via-in-Whole+else-len-bytes w ↦
          let front : FrontIs None c.args.bytes.now w.in-Whole.version w.in-Whole.epoch (frame_of w.in-Whole.frame) w.in-Whole.len = subst (λ (next : Next). Stands None c.args.bytes.now (front_of next)) w.in-Whole.is c.in_ok-epoch.ensures in
          w.if-len-bytes.false (text_is_all version w.in-Whole.version c.args.bytes.now sent (decoded_sent (w.in-Whole.epoch, w.in-Whole.frame)) w.in-Whole.len is front).all
      | in_default-via-in_default w ↦
          let whole = text_is_whole version c.args.bytes.now sent c.in_ok-epoch.field-0 is c.in_ok-epoch.ensures in
          w.in_default.not-Whole whole.version whole.epoch whole.frame whole.len whole.is
    ])
