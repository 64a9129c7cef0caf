use Rattle.page_table.proofs.LeafLemmas.{clear_cell}
use Rattle.page_table.proofs.leaf.Leaf.clear.Goals as goal

pub returns : goal.returns
returns c = λ j. clear_cell c.args.self.now.pages.items c.clear_list.new.pages.items c.args.self.now.protected c.remove_range.new.self c.args.first c.args.count j (c.clear_list.ensures.pages j) c.remove_range.ensures
