use Rattle.std.proofs.Common.{arith}
use Rattle.owed_pages.proofs.LinkLemmas.{linked, few_pairs}
use Rattle.owed_pages.proofs.owed.links.Links.link.Goals as goal

pub overflow_add-self : goal.overflow_add-self
overflow_add-self c = let few = few_pairs c.args.self.now.forth.items c.args.self.now.kept.few in omega (arith, few, c.args.self.now.kept.counted)

pub invariant_of-self : goal.invariant_of-self
invariant_of-self c = record {
  kept = linked c.args.self.now.forth.items c.args.self.now.back.items c.put_number.new.places.items c.put_number-2.new.places.items c.args.self.now.count c.args.page c.args.origin c.args.self.now.kept c.requires.free.0 c.requires.free.1 c.put_number.ensures.size c.put_number-2.ensures.size c.put_number.ensures.put c.put_number-2.ensures.put;
}
