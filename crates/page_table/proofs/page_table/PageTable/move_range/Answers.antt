use Rattle.std.proofs.Common.{◌≤◌, ◌∙◌, ap, length, arith}
use Rattle.mig_base.proofs.PageSetViews.{on_any_err}
use Rattle.page_table.specs.Leaves.{moved_cell}
use Rattle.page_table.proofs.ViewLemmas.{same_cells_shown, moved_bytes, moved_flags}
use Rattle.page_table.proofs.page_table.PageTable.move_range.Goals as goal

pub returns-in_err-make_places-clause-err : goal.returns-in_err-make_places-clause-err
returns-in_err-make_places-clause-err c = on_any_err c.from_residual.result (same_cells_shown c.self.inside.places.items c.make_places.new.places.items c.args.self.now c.self.invariant.few c.make_places.ensures.few c.self.view_is c.make_places.ensures.same)

pub returns-clause-bytes : goal.returns-clause-bytes
returns-clause-bytes c =
    let still : length c.move_cells.new.places.items ≤ 1024 = omega (arith, c.move_cells.ensures.size, c.make_places.ensures.few) in
    moved_bytes c.self.inside.places.items c.move_cells.new.places.items c.args.self.now c.args.from c.args.to c.args.count c.self.invariant.few still c.self.view_is
    (λ q. c.move_cells.ensures.moved q ∙ ap (λ f. moved_cell f c.args.from c.args.to c.args.count q) (λ k p. c.make_places.ensures.same p k))

pub returns-clause-protected : goal.returns-clause-protected
returns-clause-protected c =
    let still : length c.move_cells.new.places.items ≤ 1024 = omega (arith, c.move_cells.ensures.size, c.make_places.ensures.few) in
    moved_flags c.self.inside.places.items c.move_cells.new.places.items c.args.self.now c.args.from c.args.to c.args.count c.self.invariant.few still c.self.view_is
    (λ q. c.move_cells.ensures.moved q ∙ ap (λ f. moved_cell f c.args.from c.args.to c.args.count q) (λ k p. c.make_places.ensures.same p k))
