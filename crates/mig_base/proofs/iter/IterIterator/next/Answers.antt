use Rattle.std.proofs.Common.{◌<◌, arith}
use Rattle.mig_base.specs.declared.TheConstants.{HIGH_PAGE}
use Rattle.mig_base.proofs.Left.{fewer_others, first_page_left, nothing_left, others_left}
use Rattle.mig_base.proofs.iter.IterIterator.next.Goals as goal

pub returns-then-page-eq-HIGH_PAGE-clause-steps : goal.returns-then-page-eq-HIGH_PAGE-clause-steps
returns-then-page-eq-HIGH_PAGE-clause-steps c =
    let none = nothing_left c.self.inside.pages.now c.args.self.now c.self.inside.from c.self.view_is c.ends_by_high_page.ensures (λ q l m. c.next_member-page.ensures.before q l (omega (arith, c.if-page-eq-HIGH_PAGE.true))) in
    (none, none)

pub returns-clause-steps : goal.returns-clause-steps
returns-clause-steps c =
    let low : c.next_member-page.result < HIGH_PAGE = omega (arith, c.next_member-page.ensures.range.1, c.if-page-eq-HIGH_PAGE.false) in (
      first_page_left c.self.inside.pages.now c.args.self.now c.self.inside.from c.self.view_is c.ends_by_high_page.ensures c.next_member-page.result low c.next_member-page.ensures.range.0 c.next_member-page.ensures.before (c.next_member-page.ensures.here low),
      others_left c.self.inside.pages.now c.args.self.now c.self.inside.from c.self.view_is c.ends_by_high_page.ensures c.next_member-page.result low c.next_member-page.ensures.range.0 c.next_member-page.ensures.before (c.next_member-page.ensures.here low),
    )

pub returns-clause-goes : goal.returns-clause-goes
returns-clause-goes c =
    let step = returns-clause-steps c in
    record { on = λ finite. (tt, tt, fewer_others c.args.self.now _ c.next_member-page.result step.0 step.1); keeps = tt; rests = λ finite. tt }
