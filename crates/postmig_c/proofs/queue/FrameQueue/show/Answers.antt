use Rattle.std.proofs.Common.{rules, ap}
use Rattle.postmig_c.specs.Queues.{Queue}
use Rattle.postmig_c.proofs.Waiting.{frame_at, is_behind}
use Rattle.postmig_c.proofs.queue.FrameQueue.show.Goals as goal

pub encode_into-requires : goal.encode_into-requires
encode_into-requires c =
    let q = c.self.inside in
    rw c.index.ensures (frame_at q.handed q.frames.items _ c.self.invariant.1 (is_behind q.handed q.frames.items _ (ap (λ (queue : Queue). queue.waiting) c.self.view_is) c.self.invariant.0 (search rules)))
