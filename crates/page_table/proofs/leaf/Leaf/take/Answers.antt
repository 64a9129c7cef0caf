use Rattle.std.proofs.Common.{arith, None, false}
use Rattle.std.specs.FinSet.{contains}
use Rattle.page_table.proofs.LeafLemmas.{put_cell}
use Rattle.page_table.proofs.leaf.Leaf.take.Goals as goal

pub returns-clause-left : goal.returns-clause-left
returns-clause-left c = λ j. put_cell c.args.self.now.pages.items c.take_page-page.new.pages.items (contains c.args.self.now.protected j) (contains c.set_member.new.set j) c.args.i j None false (omega (arith, c.args.self.now.whole)) c.take_page-page.ensures.pages (c.set_member.ensures j)
