use Rattle.owed_pages.proofs.OwedLemmas.{same_shown}
use Rattle.owed_pages.proofs.owed.Owed.copy.Goals as goal

pub returns : goal.returns
returns c = same_shown c.self.inside.links.forth.items c.in_ok-copy.field-0.forth.items c.args.self.now c.self.inside.links.kept.few c.in_ok-copy.field-0.kept.few c.self.view_is c.in_ok-copy.ensures
