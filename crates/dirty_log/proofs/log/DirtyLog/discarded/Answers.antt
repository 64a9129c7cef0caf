use Rattle.mig_model.proofs.memory.PageLists.{less_pages}
use Rattle.dirty_log.proofs.log.DirtyLog.discarded.Goals as goal

pub returns-clause-pages : goal.returns-clause-pages
returns-clause-pages c = rw (c.subtract.ensures, c.in_ok-pages.ensures.copy) (less_pages c.self.inside.sent c.self.inside.clean c.self.invariant.1)
