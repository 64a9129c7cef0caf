use Rattle.std.proofs.Common.{◌∙◌, sym}
use Rattle.owed_pages.proofs.LinkLemmas.{number_below}
use Rattle.owed_pages.proofs.OwedLemmas.{seen, home_of, if_some}
use Rattle.owed_pages.proofs.owed.Owed.home.Goals as goal

pub returns-clause-answer : goal.returns-clause-answer
returns-clause-answer c = c.get_number.ensures ∙ home_of c.self.inside.links.forth.items c.self.inside.links.back.items c.self.inside.links.count c.args.self.now c.args.origin c.self.inside.links.kept c.self.view_is

pub returns-clause-only : goal.returns-clause-only
returns-clause-only c = λ q. (
  λ h. sym (seen c.self.inside.links.forth.items c.args.self.now q c.self.inside.links.kept.few c.self.view_is) ∙ (c.self.inside.links.kept.agree q c.args.origin).1 (sym c.get_number.ensures ∙ h),
  λ h. c.get_number.ensures ∙ (c.self.inside.links.kept.agree q c.args.origin).0 (seen c.self.inside.links.forth.items c.args.self.now q c.self.inside.links.kept.few c.self.view_is ∙ h),
)

pub returns-clause-below : goal.returns-clause-below
returns-clause-below c = if_some c.get_number.result _
    (λ page h. number_below c.self.inside.links.forth.items page c.args.origin c.self.inside.links.kept.few ((c.self.inside.links.kept.agree page c.args.origin).1 (sym c.get_number.ensures ∙ h)))
