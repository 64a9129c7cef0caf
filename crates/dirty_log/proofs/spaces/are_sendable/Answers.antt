use Rattle.std.proofs.Common.{◌≡◌, ◌∙◌, ◌+◌, ◌-◌, not, ap, sym, arith}
use Rattle.foundation.proofs.RangeLemmas.{none_below-from, none_below-not}
use Rattle.dirty_log.specs.Spaces.{is_sendable}
use Rattle.dirty_log.proofs.spaces.are_sendable.Goals as goal

pub returns-then-not-is_sendable : goal.returns-then-not-is_sendable
returns-then-not-is_sendable c =
    let first = c.args.first in
    let page = c.loop-page.page in
    let at : first + (page - first) ≡ page = omega (arith, c.loop-page.auto.page) in
    sym (none_below-not (λ i. not (is_sendable c.args.space.now (first + i))) c.args.count (page - first) (omega (arith, c.loop-page-test.true, c.loop-page.auto.page))
    (ap (λ q. not (is_sendable c.args.space.now q)) at ∙ ap not (sym c.is_sendable.ensures ∙ c.if-not-is_sendable.true)))

pub returns : goal.returns
returns c =
    sym (none_below-from (λ i. not (is_sendable c.args.space.now (c.args.first + i))) c.args.count (λ i l. ap not (c.loop-page.invariant i (omega (arith, l, c.loop-page-test.false)))))
