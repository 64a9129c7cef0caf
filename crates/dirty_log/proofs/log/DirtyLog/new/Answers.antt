use Rattle.dirty_log.proofs.SentLemmas.{begun}
use Rattle.dirty_log.proofs.log.DirtyLog.new.Goals as goal

pub invariant_of-result : goal.invariant_of-result
invariant_of-result c = begun c.new-2.result c.new-3.result c.new-3.ensures
