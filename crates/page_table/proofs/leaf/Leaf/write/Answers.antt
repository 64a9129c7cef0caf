use Rattle.std.proofs.Common.{◌∙◌}
use Rattle.page_table.proofs.LeafLemmas.{whole_stored}
use Rattle.page_table.proofs.leaf.Leaf.write.Goals as goal

pub invariant_of-self : goal.invariant_of-self
invariant_of-self c = record {
  whole = c.write_page.ensures.size ∙ c.args.self.now.whole;
  sized = whole_stored c.write_page.result c.args.self.now.pages.items c.write_page.new.pages.items c.args.i c.args.offset c.args.bytes.now c.requires.inside c.args.self.now.sized c.write_page.ensures.here c.write_page.ensures.others;
}
