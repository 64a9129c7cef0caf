use Rattle.dirty_log.proofs.SentLemmas.{begun}
use Rattle.dirty_log.proofs.log.DirtyLog.forget.Goals as goal

pub invariant_of-self : goal.invariant_of-self
invariant_of-self c = begun c.new-2.result c.new-3.result c.new-3.ensures
