use Rattle.std.proofs.Common.{◌≡◌, ◌+◌, ◌-◌, ◌∙◌, ap, sym, arith}
use Rattle.std.specs.FinSet.{contains}
use Rattle.dirty_log.proofs.PageLemmas.{out_at_end, run_length-is}
use Rattle.dirty_log.proofs.log.DirtyLog.run_length.Goals as goal

pub returns-clause-run : goal.returns-clause-run
returns-clause-run c =
    let todo = ap (λ log. log.todo) c.self.view_is in
    let set = c.self.inside.todo in
    let end = c.next_gap-end.result in
    let last : end ≡ c.args.first + (end - c.args.first) = omega (arith, c.next_gap-end.ensures.range) in
    rw (← todo)
    (c.min.ensures
    ∙ sym (run_length-is set c.args.first (end - c.args.first) c.args.most (λ q l m. c.next_gap-end.ensures.before q l (omega (arith, m, c.next_gap-end.ensures.range)))
    (ap (contains set) (sym last) ∙ out_at_end set end c.next_gap-end.ensures.here c.ends_by_high_page.ensures)))
