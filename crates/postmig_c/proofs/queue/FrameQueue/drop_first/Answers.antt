use Rattle.std.proofs.Common.{ap, ◌∙◌, drop, refl}
use Rattle.page_stream.specs.declared.frame.Frame.TheVariants.{Advise}
use Rattle.postmig_c.specs.Queues.{Queue}
use Rattle.postmig_c.proofs.Waiting.{is_behind, one_less}
use Rattle.postmig_c.proofs.queue.FrameQueue.drop_first.Goals as goal

pub returns-then-has_frame : goal.returns-then-has_frame
returns-then-has_frame c =
    let is = c.self.view_is in let q = c.self.inside in let waits = ap (λ (queue : Queue). queue.waiting) is in
    record {
      decoder = ap (λ (queue : Queue). queue.decoder) is;
      text = ap (λ (queue : Queue). queue.text) is;
      waiting = one_less q.handed q.frames.items (0, Advise) (is_behind q.handed q.frames.items _ waits c.self.invariant.0 (c.if-has_frame.ensures.0 refl)) ∙ ap (drop 1) waits;
    }
