use Rattle.std.proofs.Common.{◌≡◌, ◌∙◌, Some, sym, ap}
use Rattle.kernel_rules.specs.declared.certify.WorldTable.{WorldTable}
use Rattle.kernel_rules.specs.Certified.{find_of, others_than}
use Rattle.kernel_rules.proofs.Places.{ended_made}
use Rattle.kernel_rules.proofs.certify.WorldTable.end.Goals as goal

pub returns-clause-step : goal.returns-clause-step
returns-clause-step c =
    let found : find_of c.args.self.now.begun.items c.args.key ≡ Some c.in-Some.one = cc (c.deref.ensures.value, c.find_begun.ensures, c.in-Some.is) in
    ended_made c.args.self.now (record c.returned.new.self { begun = c.remove_begun.new.begun }) c.args.key c.args.answer c.in-Some.one found (sym c.may_end.ensures ∙ c.if-not-may_end.false)
    c.returned.ensures.over (c.remove_begun.ensures ∙ ap (λ (t : WorldTable). others_than c.args.key t.begun.items) c.returned.ensures.same)
    (ap (λ (t : WorldTable). record t { begun = c.remove_begun.new.begun }) c.returned.ensures.same)
