use Rattle.std.proofs.Common.{◌≡◌, ◌≤◌, ◌∙◌, sym, refl, ap, Some, false, is_some, cond, eqb, length, arith}
use Rattle.std.specs.FinMap as map
use Rattle.std.proofs.lemmas.Bool.{false≢true}
use Rattle.std.proofs.lemmas.Option.{same_Some}
use Rattle.page_table.specs.Leaves.{cell_at}
use Rattle.page_table.proofs.ViewLemmas.{present_seen, put_bytes, put_flags, same_cells_shown, not_protected}
use Rattle.page_table.proofs.page_table.PageTable.put.Goals as goal

pub returns-then-is_present_at-clause-fault : goal.returns-then-is_present_at-clause-fault
returns-then-is_present_at-clause-fault c = (refl, refl, (λ _. sym (present_seen c.self.inside.places.items c.args.self.now c.args.page c.self.invariant.few c.self.view_is) ∙ sym c.is_present_at.ensures ∙ c.if-is_present_at.true, λ _. refl))

pub returns-in_default-clause-protected : goal.returns-in_default-clause-protected
returns-in_default-clause-protected c = let same = same_cells_shown c.self.inside.places.items c.make_place.new.places.items c.args.self.now c.self.invariant.few c.make_place.ensures.few c.self.view_is c.make_place.ensures.same in ap (λ v. v.protected) same

pub returns-in_default-clause-fault : goal.returns-in_default-clause-fault
returns-in_default-clause-fault c =
    let absent : map.contains_key c.args.self.now.bytes c.args.page ≡ false = sym (present_seen c.self.inside.places.items c.args.self.now c.args.page c.self.invariant.few c.self.view_is) ∙ sym c.is_present_at.ensures ∙ c.if-is_present_at.false in
    let same = same_cells_shown c.self.inside.places.items c.make_place.new.places.items c.args.self.now c.self.invariant.few c.make_place.ensures.few c.self.view_is c.make_place.ensures.same in
    (refl, ap (λ v. v.bytes) same, (λ e. cc, λ e. absurd (false≢true (sym absent ∙ e))))

pub returns-clause-ok : goal.returns-clause-ok
returns-clause-ok c =
    let still : length c.put_at.new.places.items ≤ 1024 = omega (arith, c.put_at.ensures.size, c.make_place.ensures.few) in
    put_bytes c.self.inside.places.items c.put_at.new.places.items c.args.self.now c.args.page c.args.bytes false c.self.invariant.few still c.self.view_is
    (λ q. c.put_at.ensures.put q ∙ ap (λ o. cond (eqb q c.args.page) (o, false) (cell_at c.make_place.new.places.items q)) c.holding.ensures ∙ ap (λ x. cond (eqb q c.args.page) (Some c.args.bytes, false) x) (c.make_place.ensures.same q))

pub returns-clause-protected : goal.returns-clause-protected
returns-clause-protected c =
    let still : length c.put_at.new.places.items ≤ 1024 = omega (arith, c.put_at.ensures.size, c.make_place.ensures.few) in
    let none : is_some (cell_at c.self.inside.places.items c.args.page).0 ≡ false = sym c.is_present_at.ensures ∙ c.if-is_present_at.false in
    put_flags c.self.inside.places.items c.put_at.new.places.items c.args.self.now c.args.page (Some c.args.bytes) c.self.invariant.few still c.self.view_is (not_protected c.self.inside.places.items c.args.page c.self.invariant none)
    (λ q. c.put_at.ensures.put q ∙ ap (λ o. cond (eqb q c.args.page) (o, false) (cell_at c.make_place.new.places.items q)) c.holding.ensures ∙ ap (λ x. cond (eqb q c.args.page) (Some c.args.bytes, false) x) (c.make_place.ensures.same q))

pub returns-clause-missing : goal.returns-clause-missing
returns-clause-missing c = let absent : map.contains_key c.args.self.now.bytes c.args.page ≡ false = sym (present_seen c.self.inside.places.items c.args.self.now c.args.page c.self.invariant.few c.self.view_is) ∙ sym c.is_present_at.ensures ∙ c.if-is_present_at.false in absent

pub put_at-requires-clause-whole : goal.put_at-requires-clause-whole
put_at-requires-clause-whole c = λ bytes e. sym (ap length (same_Some c.args.bytes bytes (sym c.holding.ensures ∙ e))) ∙ c.are_whole.ensures.size
