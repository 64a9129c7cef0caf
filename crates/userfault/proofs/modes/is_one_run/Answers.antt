use Rattle.std.proofs.Common.{◌∙◌, ap, not, arith}
use Rattle.std.specs.FinSet.{contains}
use Rattle.userfault.proofs.EveryLemmas.{every_same}
use Rattle.userfault.proofs.modes.is_one_run.Goals as goal

pub returns : goal.returns
returns c =
    every_same (contains c.args.set.now) c.args.first c.args.count c.next_before.result c.next_before.ensures.range.0
    (λ q a b. c.next_before.ensures.before q a b ∙ ap (λ w. not (not w)) c.contains.ensures)
    (λ l. c.next_before.ensures.here (omega arith) ∙ ap not c.contains.ensures)
