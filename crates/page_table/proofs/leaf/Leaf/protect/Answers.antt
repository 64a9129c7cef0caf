use Rattle.std.specs.FinSet.{contains}
use Rattle.page_table.proofs.LeafLemmas.{protect_cell}
use Rattle.page_table.proofs.leaf.Leaf.protect.Goals as goal

pub returns : goal.returns
returns c = λ j. protect_cell c.args.self.now.pages.items (contains c.args.self.now.protected) (contains c.set_member.new.set) c.args.i j c.args.protected (c.set_member.ensures j)
