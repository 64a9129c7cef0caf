use Rattle.std.proofs.Common.{◌∙◌, ◌+◌, ◌<◌, ◌≤◌, inl, inr, ap, ⊎_elim, arith}
use Rattle.std.specs.FinSet.{contains}
use Rattle.std.proofs.lemmas.Bool.{cases_lt}
use Rattle.mig_base.specs.Userfault.{is_watched}
use Rattle.userfault.proofs.ModeLemmas.{is_below, is_past, found, not_found}
use Rattle.userfault.proofs.object.Userfault.is_any_registered.Goals as goal

pub returns-then-next_before-end : goal.returns-then-next_before-end
returns-then-next_before-end c =
    let end = c.args.first + c.args.count in
    is_below c.next_before.result end c.if-next_before-end.true
    ∙ found (contains c.self.inside.missing) (contains c.self.inside.protect) c.args.first c.args.count c.next_before.result c.next_before.ensures.range.0 c.if-next_before-end.true (inl (c.next_before.ensures.here (omega arith)))
    ∙ ap (λ o. is_watched o c.args.first c.args.count) c.self.view_is

pub returns-else-next_before-end : goal.returns-else-next_before-end
returns-else-next_before-end c =
    let end = c.args.first + c.args.count in
    let protect = c.next_before-else-next_before-end in
    ⊎_elim
    (λ (below : protect.result < end).
    is_below protect.result end below
    ∙ found (contains c.self.inside.missing) (contains c.self.inside.protect) c.args.first c.args.count protect.result protect.ensures.range.0 below (inr (protect.ensures.here (omega arith))))
    (λ (past : end ≤ protect.result).
    is_past protect.result end past
    ∙ not_found (contains c.self.inside.missing) (contains c.self.inside.protect) c.args.first c.args.count (λ q a b. c.next_before.ensures.before q a (omega arith)) (λ q a b. protect.ensures.before q a (omega arith)))
    (cases_lt protect.result end)
    ∙ ap (λ o. is_watched o c.args.first c.args.count) c.self.view_is
