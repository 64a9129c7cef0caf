use Rattle.std.proofs.Common.{arith}
use Rattle.std.specs.FinSet.{contains}
use Rattle.std.proofs.Math.ListN.{length-set}
use Rattle.std.proofs.Common.{◌∙◌, ap, length}
use Rattle.page_table.proofs.LeafLemmas.{put_cell, whole_set}
use Rattle.page_table.proofs.leaf.Leaf.put.Goals as goal

pub returns : goal.returns
returns c = λ j. put_cell c.args.self.now.pages.items c.put_page.new.pages.items (contains c.args.self.now.protected j) (contains c.set_member.new.set j) c.args.i j c.args.page c.args.protected (omega (arith, c.args.self.now.whole)) c.put_page.ensures (c.set_member.ensures j)

pub invariant_of-self : goal.invariant_of-self
invariant_of-self c = record {
  whole = ap length c.put_page.ensures ∙ length-set c.args.self.now.pages.items c.args.i c.args.page ∙ c.args.self.now.whole;
  sized = rw c.put_page.ensures (whole_set c.args.self.now.pages.items c.args.i c.args.page (omega (arith, c.args.self.now.whole)) c.args.self.now.sized c.requires.whole);
}
