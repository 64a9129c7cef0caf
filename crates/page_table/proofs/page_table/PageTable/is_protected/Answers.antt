use Rattle.std.proofs.Common.{◌∙◌, sym}
use Rattle.page_table.proofs.ViewLemmas.{flag_seen, present_seen}
use Rattle.page_table.proofs.page_table.PageTable.is_protected.Goals as goal

pub returns-clause-answer : goal.returns-clause-answer
returns-clause-answer c = c.is_protected_at.ensures ∙ flag_seen c.self.inside.places.items c.args.self.now c.args.page c.self.invariant.few c.self.view_is

pub returns-clause-present : goal.returns-clause-present
returns-clause-present c = λ on. sym (present_seen c.self.inside.places.items c.args.self.now c.args.page c.self.invariant.few c.self.view_is) ∙ c.self.invariant.inside c.args.page (sym c.is_protected_at.ensures ∙ on)

pub returns-clause-law : goal.returns-clause-law
returns-clause-law c = λ q on.
    sym (present_seen c.self.inside.places.items c.args.self.now q c.self.invariant.few c.self.view_is)
    ∙ c.self.invariant.inside q (flag_seen c.self.inside.places.items c.args.self.now q c.self.invariant.few c.self.view_is ∙ on)
