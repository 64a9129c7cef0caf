use Rattle.std.proofs.Common.{subst, arith}
use Rattle.frame_decoder.specs.Reading.{front_of}
use Rattle.frame_decoder.specs.Taking.{FrontIs, Stands}
use Rattle.page_stream.specs.Frames.{frame_of}
use Rattle.std.proofs.lemmas.List.{length-drop}
use Rattle.frame_decoder.specs.declared.stream.Next.{Next}
use Rattle.frame_decoder.proofs.Whole.{reading_more}
use Rattle.frame_decoder.proofs.stream.take_frames.Goals as goal

pub frames-preserved : goal.frames-preserved
frames-preserved c =
    let front : FrontIs c.frames.version c.frames.rest.now c.in-Whole.found c.in-Whole.epoch (frame_of c.in-Whole.frame) c.in-Whole.len = subst (λ (next : Next). Stands c.frames.version c.frames.rest.now (front_of next)) c.in-Whole.is c.in_ok-found.ensures in
    let inside = c.frames.invariant.inside in
    rw (c.in_ok-push-in-Whole.ensures.items, c.split_at.ensures.back) (record {
      reads = reading_more c.args.fixed c.args.bytes.now c.frames.frames.items c.frames.rest.now c.frames.version c.in-Whole.found c.in-Whole.epoch c.in-Whole.frame c.in-Whole.len front c.frames.invariant.reads;
      inside = omega (arith, inside, length-drop c.in-Whole.len c.frames.rest.now);
    })
