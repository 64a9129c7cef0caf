use Rattle.std.proofs.Common.{rules, refl, Ok, drop}
use Rattle.frame_decoder.specs.Streams.{sents}
use Rattle.postmig_c.specs.Queues.{Queue}
use Rattle.postmig_c.proofs.Faults.{feeds_despite, same_despite}
use Rattle.postmig_c.proofs.Waiting.{none_waits}
use Rattle.postmig_c.proofs.queue.FrameQueue.feed.Goals as goal

pub returns-in-Ok-clause-ok : goal.returns-in-Ok-clause-ok
returns-in-Ok-clause-ok c =
    (Ok (sents c.in-Ok.frames.items), (λ wrong. search rules), record { none = none_waits _ c.if-has_frame.ensures.1; fed = search rules; waiting = refl })

pub returns-in-Err : goal.returns-in-Err
returns-in-Err c =
    let q = c.self.inside in let before : Queue = record { decoder = q.decoder; waiting = sents (drop q.handed q.frames.items); text = q.text.items } in
    record {
      ok = feeds_despite before c.args.self.now c.feed.new.self c.args.piece.now c.in-Err.fault c.taken_despite.result c.self.view_is c.taken_despite.ensures.ok (none_waits _ c.if-has_frame.ensures.1) c.in-Err.ensures.fed;
      err = same_despite before c.args.self.now c.feed.new.self c.args.piece.now c.in-Err.fault c.taken_despite.result c.self.view_is c.taken_despite.ensures.err c.in-Err.ensures.fed;
      waiting = λ is. search rules;
    }
