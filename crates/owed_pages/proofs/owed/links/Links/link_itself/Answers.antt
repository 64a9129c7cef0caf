use Rattle.std.proofs.Common.{refl}
use Rattle.owed_pages.proofs.LinkLemmas.{same_links}
use Rattle.owed_pages.proofs.owed.links.Links.link_itself.Goals as goal

pub invariant_of-self : goal.invariant_of-self
invariant_of-self c = record {
  kept = same_links c.args.self.now.forth.items c.args.self.now.back.items c.make_leaf.new.places.items c.args.self.now.back.items c.args.self.now.count c.args.self.now.kept c.make_leaf.ensures.few c.args.self.now.kept.few_back c.make_leaf.ensures.same (λ s. refl);
}

pub invariant_of-self-2 : goal.invariant_of-self-2
invariant_of-self-2 c = record {
  kept = same_links c.args.self.now.forth.items c.args.self.now.back.items c.make_leaf.new.places.items c.make_leaf-2.new.places.items c.args.self.now.count c.args.self.now.kept c.make_leaf.ensures.few c.make_leaf-2.ensures.few c.make_leaf.ensures.same c.make_leaf-2.ensures.same;
}
