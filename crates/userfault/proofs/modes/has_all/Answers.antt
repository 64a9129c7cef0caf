use Rattle.std.proofs.Common.{arith}
use Rattle.std.specs.FinSet.{contains}
use Rattle.userfault.proofs.EveryLemmas.{every_asked, every_unasked}
use Rattle.userfault.proofs.modes.has_all.Goals as goal

pub returns-then-not-asked : goal.returns-then-not-asked
returns-then-not-asked c = every_unasked c.args.asked (contains c.args.set.now) c.args.first c.args.count c.if-not-asked.true

pub returns-else-not-asked : goal.returns-else-not-asked
returns-else-not-asked c =
    every_asked c.args.asked (contains c.args.set.now) c.args.first c.args.count c.next_before.result c.if-not-asked.false c.next_before.ensures.range.0 c.next_before.ensures.before (λ l. c.next_before.ensures.here (omega arith))
