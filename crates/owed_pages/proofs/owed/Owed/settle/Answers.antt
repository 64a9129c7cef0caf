use Rattle.std.proofs.Common.{◌≡◌, ◌∙◌, sym, ap}
use Rattle.std.specs.FinMap as map
use Rattle.std.proofs.lemmas.Option.{same_Some}
use Rattle.owed_pages.proofs.OwedLemmas.{seen, removed_shown}
use Rattle.owed_pages.proofs.owed.Owed.settle.Goals as goal

pub returns-in-Some-clause-settled : goal.returns-in-Some-clause-settled
returns-in-Some-clause-settled c = λ q h.
    let there = (c.self.inside.links.kept.agree q c.args.origin).0 (seen c.self.inside.links.forth.items c.args.self.now q c.self.inside.links.kept.few c.self.view_is ∙ h) in
    let same : c.in-Some.page ≡ q = same_Some c.in-Some.page q (sym (sym c.get_number.ensures ∙ c.in-Some.is) ∙ there) in
    removed_shown c.self.inside.links.forth.items c.unlink.new.self.forth.items c.args.self.now c.in-Some.page c.self.inside.links.kept.few c.unlink.new.self.kept.few c.self.view_is c.unlink.ensures.pairs
    ∙ ap (λ p. map.remove c.args.self.now p) same

pub returns-in-Some-clause-none : goal.returns-in-Some-clause-none
returns-in-Some-clause-none c = λ none.
    absurd (none c.in-Some.page (sym (seen c.self.inside.links.forth.items c.args.self.now c.in-Some.page c.self.inside.links.kept.few c.self.view_is) ∙ (c.self.inside.links.kept.agree c.in-Some.page c.args.origin).1 (sym c.get_number.ensures ∙ c.in-Some.is)))

pub returns-in_default-clause-settled : goal.returns-in_default-clause-settled
returns-in_default-clause-settled c = λ q h.
    absurd (c.in_default.not-Some q (c.get_number.ensures ∙ (c.self.inside.links.kept.agree q c.args.origin).0 (seen c.self.inside.links.forth.items c.args.self.now q c.self.inside.links.kept.few c.self.view_is ∙ h)))
