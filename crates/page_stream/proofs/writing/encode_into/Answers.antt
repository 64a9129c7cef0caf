use Rattle.std.proofs.Common.{sym, ◌∙◌, arith}
use Rattle.page_stream.proofs.LengthBounds.{text_short}
use Rattle.page_stream.specs.Frames.{frame_of}
use Rattle.page_stream.proofs.FrameTexts.{encoded, length-body_text}
use Rattle.page_stream.proofs.writing.encode_into.Goals as goal

pub body_len-len-requires : goal.body_len-len-requires
body_len-len-requires c = let short = text_short (frame_of c.args.frame.now) c.requires in omega (arith, short)

pub overflow_add-len : goal.overflow_add-len
overflow_add-len c = let short = text_short (frame_of c.args.frame.now) c.requires in let is = c.body_len-len.ensures in omega (arith, short, is)

pub overflow_cast-len : goal.overflow_cast-len
overflow_cast-len c = let short = text_short (frame_of c.args.frame.now) c.requires in let is = c.body_len-len.ensures in omega (arith, short, is)

pub put_body-requires-clause-room : goal.put_body-requires-clause-room
put_body-requires-clause-room c =
    let is = c.body_len-len.ensures in
    let body = length-body_text (frame_of c.args.frame.now) c.requires in
    omega (arith, is, body, c.in_ok-try_reserve.ensures.ok)

pub returns-clause-ok : goal.returns-clause-ok
returns-clause-ok c =
    encoded c.args.into.now c.try_reserve.new.self c.put_header.new.into c.put_body.new.into c.tag.result c.args.epoch c.body_len-len.result (frame_of c.args.frame.now)
    c.try_reserve.ensures.items c.tag.ensures (c.body_len-len.ensures ∙ sym (length-body_text (frame_of c.args.frame.now) c.requires)) c.put_header.ensures c.put_body.ensures
