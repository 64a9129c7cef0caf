use Rattle.std.proofs.Common.{ap, sym, arith}
use Rattle.std.specs.FinSet.{contains}
use Rattle.mig_base.specs.declared.TheConstants.{HIGH_PAGE}
use Rattle.foundation.proofs.RangeLemmas.{least_below-is, least_below-none}
use Rattle.dirty_log.proofs.RoundLemmas.{none_before}
use Rattle.dirty_log.proofs.log.DirtyLog.next_page.Goals as goal

pub returns-then-page-lt-HIGH_PAGE-clause-least : goal.returns-then-page-lt-HIGH_PAGE-clause-least
returns-then-page-lt-HIGH_PAGE-clause-least c =
    let todo = ap (λ log. log.todo) c.self.view_is in
    rw (← todo)
    (sym (least_below-is (contains c.self.inside.todo) HIGH_PAGE c.next_member-page.result c.if-page-lt-HIGH_PAGE.true (c.next_member-page.ensures.here c.if-page-lt-HIGH_PAGE.true)
    (λ q l. none_before (contains c.self.inside.todo) c.self.inside.from c.next_member-page.result q c.self.invariant.0.none c.next_member-page.ensures.before l)))

pub returns-else-page-lt-HIGH_PAGE-clause-least : goal.returns-else-page-lt-HIGH_PAGE-clause-least
returns-else-page-lt-HIGH_PAGE-clause-least c =
    let todo = ap (λ log. log.todo) c.self.view_is in
    rw (← todo)
    (sym (least_below-none (contains c.self.inside.todo) HIGH_PAGE (λ q l. none_before (contains c.self.inside.todo) c.self.inside.from c.next_member-page.result q c.self.invariant.0.none c.next_member-page.ensures.before (omega (arith, l, c.if-page-lt-HIGH_PAGE.false)))))
