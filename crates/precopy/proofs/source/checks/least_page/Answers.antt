use Rattle.std.proofs.Common.{sym, arith}
use Rattle.std.specs.FinSet.{contains}
use Rattle.mig_base.specs.declared.TheConstants.{HIGH_PAGE}
use Rattle.foundation.proofs.RangeLemmas.{least_below-is, least_below-none}
use Rattle.precopy.proofs.source.checks.least_page.Goals as goal

pub returns-then-page-lt-HIGH_PAGE : goal.returns-then-page-lt-HIGH_PAGE
returns-then-page-lt-HIGH_PAGE c =
    sym (least_below-is (contains c.args.pages.now) HIGH_PAGE c.next_member-page.result c.if-page-lt-HIGH_PAGE.true (c.next_member-page.ensures.here c.if-page-lt-HIGH_PAGE.true) (λ q l. c.next_member-page.ensures.before q (omega arith) l))

pub returns-else-page-lt-HIGH_PAGE : goal.returns-else-page-lt-HIGH_PAGE
returns-else-page-lt-HIGH_PAGE c =
    sym (least_below-none (contains c.args.pages.now) HIGH_PAGE (λ q l. c.next_member-page.ensures.before q (omega arith) (omega (arith, c.if-page-lt-HIGH_PAGE.false))))
