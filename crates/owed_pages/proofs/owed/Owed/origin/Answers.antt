use Rattle.std.proofs.Common.{◌∙◌, sym}
use Rattle.owed_pages.proofs.LinkLemmas.{number_below}
use Rattle.owed_pages.proofs.OwedLemmas.{seen, if_some}
use Rattle.owed_pages.proofs.owed.Owed.origin.Goals as goal

pub returns-clause-answer : goal.returns-clause-answer
returns-clause-answer c = c.get_number.ensures ∙ seen c.self.inside.links.forth.items c.args.self.now c.args.page c.self.inside.links.kept.few c.self.view_is

pub returns-clause-below : goal.returns-clause-below
returns-clause-below c = if_some c.get_number.result _
    (λ origin h. number_below c.self.inside.links.back.items origin c.args.page c.self.inside.links.kept.few_back ((c.self.inside.links.kept.agree c.args.page origin).0 (sym c.get_number.ensures ∙ h)))
