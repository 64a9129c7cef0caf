use Rattle.std.proofs.Common.{◌∙◌, sym}
use Rattle.owed_pages.proofs.TableLemmas.{place_of_number}
use Rattle.owed_pages.proofs.LinkLemmas.{unlinked, some_pair}
use Rattle.owed_pages.proofs.owed.links.Links.unlink.Goals as goal

pub put_number-requires : goal.put_number-requires
put_number-requires c = place_of_number c.args.self.now.forth.items c.args.page c.in-Some.origin (sym c.get_number.ensures ∙ c.in-Some.is)

pub put_number-requires-in-Some : goal.put_number-requires-in-Some
put_number-requires-in-Some c = place_of_number c.args.self.now.back.items c.in-Some.origin c.args.page ((c.args.self.now.kept.agree c.args.page c.in-Some.origin).0 (sym c.get_number.ensures ∙ c.in-Some.is))

pub overflow_sub-self : goal.overflow_sub-self
overflow_sub-self c = some_pair c.args.self.now.forth.items c.args.self.now.back.items c.args.self.now.count c.args.page c.in-Some.origin c.args.self.now.kept (sym c.get_number.ensures ∙ c.in-Some.is)

pub invariant_of-self : goal.invariant_of-self
invariant_of-self c = record {
  kept = (unlinked c.args.self.now.forth.items c.args.self.now.back.items c.put_number.new.places.items c.put_number-in-Some.new.places.items c.args.self.now.count c.args.page c.in-Some.origin c.args.self.now.kept (sym c.get_number.ensures ∙ c.in-Some.is) c.put_number.ensures.size c.put_number-in-Some.ensures.size c.put_number.ensures.put c.put_number-in-Some.ensures.put).1;
}
