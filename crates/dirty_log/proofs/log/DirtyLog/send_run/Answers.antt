use Rattle.std.proofs.Common.{◌+◌, arith}
use Rattle.dirty_log.proofs.SendLemmas.{page_there}
use Rattle.dirty_log.proofs.log.DirtyLog.send_run.Goals as goal

pub read_pages-requires-clause-present : goal.read_pages-requires-clause-present
read_pages-requires-clause-present c i low =
    rw c.in_ok-mark_sent.ensures.space (page_there c.args.space.now c.args.first c.args.count (c.args.first + i) c.in_ok-ensure_sendable.ensures.ok (omega arith) (omega (arith, low, c.in_ok-pages.ensures)))
