use Rattle.owed_pages.proofs.OwedLemmas.{none_shown}
use Rattle.owed_pages.proofs.owed.Owed.empty.Goals as goal

pub returns : goal.returns
returns c = none_shown c.new.result.forth.items c.new.result.kept.few c.new.ensures
