use Rattle.std.proofs.Common.{◌<◌, arith}
use Rattle.mig_base.proofs.Left.{first_left, fewer_left, longer_run, nothing_left, past_left, rest_left}
use Rattle.mig_base.proofs.iter.RunsIterator.next.Goals as goal

pub returns-then-first-eq-HIGH_PAGE-clause-steps : goal.returns-then-first-eq-HIGH_PAGE-clause-steps
returns-then-first-eq-HIGH_PAGE-clause-steps c =
    let none = nothing_left c.self.inside.pages.now c.args.self.now c.self.inside.from c.self.view_is c.ends_by_high_page.ensures (λ q l m. c.next_member-first.ensures.before q l (omega (arith, c.if-first-eq-HIGH_PAGE.true))) in
    (none, none)

pub returns-clause-steps : goal.returns-clause-steps
returns-clause-steps c =
    let pages = c.self.inside.pages.now in
    let first = c.next_member-first.result in
    let end = c.next_gap-end.result in
    let some : first < end = longer_run pages first end c.ends_by_high_page.ensures (c.next_member-first.ensures.here (omega (arith, c.next_member-first.ensures.range.1, c.if-first-eq-HIGH_PAGE.false))) c.next_gap-end.ensures.range.0 c.next_gap-end.ensures.here in (
      first_left pages c.args.self.now c.self.inside.from c.self.view_is c.ends_by_high_page.ensures first end c.next_gap-end.ensures.range.1 c.next_member-first.ensures.range.0 some c.next_member-first.ensures.before c.next_gap-end.ensures.before c.next_gap-end.ensures.here,
      rest_left pages c.args.self.now c.self.inside.from c.self.view_is c.ends_by_high_page.ensures first end c.next_gap-end.ensures.range.1 c.next_member-first.ensures.range.0 some c.next_member-first.ensures.before c.next_gap-end.ensures.before c.next_gap-end.ensures.here,
    )

pub returns-clause-goes : goal.returns-clause-goes
returns-clause-goes c =
    let step = returns-clause-steps c in
    record {
      on = λ finite. (tt, tt, fewer_left c.args.self.now _ step.0 _ step.1 (past_left c.self.inside.pages.now c.args.self.now c.self.inside.from c.self.view_is c.ends_by_high_page.ensures));
      keeps = tt;
      rests = λ finite. tt;
    }
