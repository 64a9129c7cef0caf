use Rattle.std.proofs.Common.{◌≡◌, ◌≤◌, ◌∙◌, ap, length, arith, subst, sym, true, OnErr}
use Rattle.mig_base.proofs.PageSetViews.{on_any_err}
use Rattle.page_table.specs.Bytes.{write_needs_room}
use Rattle.page_table.proofs.ViewLemmas.{bytes_seen, same_cells_shown, stored_over, stored_bytes, stored_flags, stored_err}
use Rattle.page_table.proofs.page_table.PageTable.write.Goals as goal

pub returns-in_err-make_place-clause-err : goal.returns-in_err-make_place-clause-err
returns-in_err-make_place-clause-err c = on_any_err c.from_residual.result (same_cells_shown c.self.inside.places.items c.make_place.new.places.items c.args.self.now c.self.invariant.few c.make_place.ensures.few c.self.view_is c.make_place.ensures.same)

pub returns-in_err-make_place-clause-protected : goal.returns-in_err-make_place-clause-protected
returns-in_err-make_place-clause-protected c = ap (λ v. v.protected) (same_cells_shown c.self.inside.places.items c.make_place.new.places.items c.args.self.now c.self.invariant.few c.make_place.ensures.few c.self.view_is c.make_place.ensures.same)

pub returns-in_err-make_place-clause-needs : goal.returns-in_err-make_place-clause-needs
returns-in_err-make_place-clause-needs c = on_any_err c.from_residual.result (ap (λ o. write_needs_room o c.args.bytes.now) (sym (bytes_seen c.self.inside.places.items c.args.self.now c.args.page c.self.invariant.few c.self.view_is) ∙ c.in_err-make_place.ensures.missing))

pub returns-clause-bytes : goal.returns-clause-bytes
returns-clause-bytes c =
    let still : length c.write_at.new.places.items ≤ 1024 = omega (arith, c.write_at.ensures.size, c.make_place.ensures.few) in
    stored_bytes c.write_at.result c.self.inside.places.items c.write_at.new.places.items c.args.self.now c.args.page c.args.offset c.args.bytes.now c.self.invariant.few still c.self.view_is
    (stored_over c.write_at.result c.self.inside.places.items c.make_place.new.places.items c.write_at.new.places.items c.args.page c.args.offset c.args.bytes.now c.make_place.ensures.same c.write_at.ensures.stored)

pub returns-clause-protected : goal.returns-clause-protected
returns-clause-protected c =
    let still : length c.write_at.new.places.items ≤ 1024 = omega (arith, c.write_at.ensures.size, c.make_place.ensures.few) in
    stored_flags c.write_at.result c.self.inside.places.items c.write_at.new.places.items c.args.self.now c.args.page c.args.offset c.args.bytes.now c.self.invariant.few still c.self.view_is
    (stored_over c.write_at.result c.self.inside.places.items c.make_place.new.places.items c.write_at.new.places.items c.args.page c.args.offset c.args.bytes.now c.make_place.ensures.same c.write_at.ensures.stored)

pub returns-clause-err : goal.returns-clause-err
returns-clause-err c =
    let still : length c.write_at.new.places.items ≤ 1024 = omega (arith, c.write_at.ensures.size, c.make_place.ensures.few) in
    stored_err c.write_at.result c.self.inside.places.items c.write_at.new.places.items c.args.self.now c.args.page c.args.offset c.args.bytes.now c.self.invariant.few still c.self.view_is
    (stored_over c.write_at.result c.self.inside.places.items c.make_place.new.places.items c.write_at.new.places.items c.args.page c.args.offset c.args.bytes.now c.make_place.ensures.same c.write_at.ensures.stored)

pub returns-clause-needs : goal.returns-clause-needs
returns-clause-needs c =
    subst (λ o. OnErr c.write_at.result (write_needs_room o c.args.bytes.now ≡ true))
    (ap (λ x. x.0) (c.make_place.ensures.same c.args.page) ∙ bytes_seen c.self.inside.places.items c.args.self.now c.args.page c.self.invariant.few c.self.view_is) c.write_at.ensures.needs
