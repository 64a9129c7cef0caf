use Rattle.owed_pages.proofs.OwedLemmas.{range_removed}
use Rattle.owed_pages.proofs.owed.Owed.remove_range.Goals as goal

pub returns : goal.returns
returns c = range_removed c.self.inside.links.forth.items c.unlink_range.new.self.forth.items c.args.self.now c.args.first c.args.count c.self.inside.links.kept.few c.unlink_range.new.self.kept.few c.self.view_is c.unlink_range.ensures.pairs
