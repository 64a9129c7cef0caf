use Rattle.std.proofs.Common.{◌≤◌, arith, length}
use Rattle.page_table.proofs.ViewLemmas.{same_cells_shown, same_table}
use Rattle.page_table.proofs.page_table.PageTable.copy.Goals as goal

pub invariant_of-result : goal.invariant_of-result
invariant_of-result c = same_table c.self.inside.places.items c.in_ok-copy_places.field-0.items c.self.invariant c.in_ok-copy_places.ensures.size c.in_ok-copy_places.ensures.same

pub returns : goal.returns
returns c =
    let few : length c.in_ok-copy_places.field-0.items ≤ 1024 = omega (arith, c.in_ok-copy_places.ensures.size, c.self.invariant.few) in
    same_cells_shown c.self.inside.places.items c.in_ok-copy_places.field-0.items c.args.self.now c.self.invariant.few few c.self.view_is c.in_ok-copy_places.ensures.same
