use Rattle.std.proofs.Common.{◌≤◌, sym, ap, ◌∙◌, Some, false, refl, cond, eqb, length, arith}
use Rattle.std.proofs.lemmas.Option.{same_Some}
use Rattle.page_table.specs.Leaves.{cell_at}
use Rattle.page_table.proofs.ViewLemmas.{place_of_cell, present_seen, put_bytes, removed_flags, changed_table}
use Rattle.page_table.proofs.page_table.PageTable.replace.Goals as goal

pub put_at-requires-clause-there : goal.put_at-requires-clause-there
put_at-requires-clause-there c = place_of_cell c.self.inside.places.items c.args.page (present_seen c.self.inside.places.items c.args.self.now c.args.page c.self.invariant.few c.self.view_is ∙ c.requires.present)

pub invariant_of-self : goal.invariant_of-self
invariant_of-self c = changed_table c.self.inside.places.items c.put_at.new.places.items c.args.page false (Some c.args.bytes) c.self.invariant c.put_at.ensures.size refl (λ q. c.put_at.ensures.put q ∙ ap (λ o. cond (eqb q c.args.page) (o, false) (cell_at c.self.inside.places.items q)) c.holding-held.ensures)

pub returns-clause-bytes : goal.returns-clause-bytes
returns-clause-bytes c =
    let still : length c.put_at.new.places.items ≤ 1024 = omega (arith, c.put_at.ensures.size, c.self.invariant.few) in
    put_bytes c.self.inside.places.items c.put_at.new.places.items c.args.self.now c.args.page c.args.bytes false c.self.invariant.few still c.self.view_is (λ q. c.put_at.ensures.put q ∙ ap (λ o. cond (eqb q c.args.page) (o, false) (cell_at c.self.inside.places.items q)) c.holding-held.ensures)

pub returns-clause-protected : goal.returns-clause-protected
returns-clause-protected c =
    let still : length c.put_at.new.places.items ≤ 1024 = omega (arith, c.put_at.ensures.size, c.self.invariant.few) in
    removed_flags c.self.inside.places.items c.put_at.new.places.items c.args.self.now c.args.page (Some c.args.bytes) c.self.invariant.few still c.self.view_is (λ q. c.put_at.ensures.put q ∙ ap (λ o. cond (eqb q c.args.page) (o, false) (cell_at c.self.inside.places.items q)) c.holding-held.ensures)

pub put_at-requires-clause-whole : goal.put_at-requires-clause-whole
put_at-requires-clause-whole c = λ bytes e. sym (ap length (same_Some c.args.bytes bytes (sym c.holding-held.ensures ∙ e))) ∙ c.are_whole.ensures.size
