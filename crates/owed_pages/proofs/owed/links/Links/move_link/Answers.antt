use Rattle.std.proofs.Common.{◌∙◌, sym, ap, cond, eqb, Some}
use Rattle.owed_pages.specs.Tables.{page_number}
use Rattle.owed_pages.proofs.TableLemmas.{place_of_number}
use Rattle.owed_pages.proofs.LinkLemmas.{moved_one, none_otherwise}
use Rattle.owed_pages.proofs.owed.links.Links.move_link.Goals as goal

pub link-requires-clause-room : goal.link-requires-clause-room
link-requires-clause-room c = (
  c.unlink.ensures.stay c.args.to ∙ c.requires.room c.in-Some.origin (sym c.get_number.ensures ∙ c.in-Some.is),
  c.unlink.ensures.stay_back c.in-Some.origin ∙ place_of_number c.args.self.now.back.items c.in-Some.origin c.args.from ((c.args.self.now.kept.agree c.args.from c.in-Some.origin).0 (sym c.get_number.ensures ∙ c.in-Some.is)),
)

pub link-requires-clause-free : goal.link-requires-clause-free
link-requires-clause-free c = (
  c.unlink.ensures.pairs c.args.to ∙ none_otherwise c.args.to c.args.from (page_number c.args.self.now.forth.items c.args.to) c.requires.free,
  c.unlink.ensures.free c.in-Some.origin (sym c.get_number.ensures ∙ c.in-Some.is),
)

pub returns-in-Some-clause-moved : goal.returns-in-Some-clause-moved
returns-in-Some-clause-moved c = λ q.
    c.link.ensures.pairs q
    ∙ ap (λ o. cond (eqb q c.args.to) (Some c.in-Some.origin) o) (c.unlink.ensures.pairs q)
    ∙ moved_one (page_number c.args.self.now.forth.items) c.args.from c.args.to q (Some c.in-Some.origin) (sym c.in-Some.is ∙ c.get_number.ensures)
