use Rattle.std.proofs.Common.{◌≤◌, ◌∙◌, ap, arith, length, refl}
use Rattle.page_table.specs.Leaves.{put_cell}
use Rattle.page_table.proofs.PutRunLemmas.{run_bytes, run_flags}
use Rattle.page_table.proofs.ViewLemmas.{same_cells_shown}
use Rattle.page_table.proofs.page_table.PageTable.put_run.Goals as goal

pub returns-in_default-clause-err : goal.returns-in_default-clause-err
returns-in_default-clause-err c = (refl, same_cells_shown c.self.inside.places.items c.make_places.new.places.items c.args.self.now c.self.invariant.few c.make_places.ensures.few c.self.view_is c.make_places.ensures.same)

pub returns-clause-bytes : goal.returns-clause-bytes
returns-clause-bytes c =
    let still : length c.put_cells.new.places.items ≤ 1024 = omega (arith, c.put_cells.ensures.size, c.make_places.ensures.few) in
    run_bytes c.self.inside.places.items c.put_cells.new.places.items c.args.self.now c.args.first c.args.run.items c.self.invariant.few still c.self.view_is
    (λ q. c.put_cells.ensures.put q ∙ ap (λ cells. put_cell cells c.args.first c.args.run.items q) (λ i p. c.make_places.ensures.same p i))

pub returns-clause-protected : goal.returns-clause-protected
returns-clause-protected c =
    let still : length c.put_cells.new.places.items ≤ 1024 = omega (arith, c.put_cells.ensures.size, c.make_places.ensures.few) in
    run_flags c.self.inside.places.items c.put_cells.new.places.items c.args.self.now c.args.first c.args.run.items c.self.invariant.few still c.self.view_is
    (λ q. c.put_cells.ensures.put q ∙ ap (λ cells. put_cell cells c.args.first c.args.run.items q) (λ i p. c.make_places.ensures.same p i))
