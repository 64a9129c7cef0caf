use Rattle.std.proofs.Common.{◌∙◌, ap, cond, eqb, ◌/◌, ◌%◌, arith}
use Rattle.page_table.specs.Leaves.{Cell, cell_in, cell_at, with_protection}
use Rattle.page_table.proofs.TableLemmas.{at_own_place, one_cell}
use Rattle.page_table.proofs.table.protect_at.Goals as goal
use Rattle.mig_base.proofs.PlaceLemmas.{read_place, place_inside, own_place}

pub index_mut-requires : goal.index_mut-requires
index_mut-requires c = let inside = place_inside c.args.places.now.items c.args.page c.requires in omega arith

pub place_protect-requires-clause-there : goal.place_protect-requires-clause-there
place_protect-requires-clause-there c = own_place c.args.places.now.items c.index_mut.result.now c.args.page (place_inside c.args.places.now.items c.args.page c.requires) c.index_mut.ensures.value ∙ c.requires

pub returns-clause-put : goal.returns-clause-put
returns-clause-put c =
    let inside = place_inside c.args.places.now.items c.args.page c.requires in
    let cell : Cell = (with_protection (cell_at c.args.places.now.items c.args.page) c.args.protected) in
    one_cell c.args.places.now.items c.args.page c.place_protect.new.place cell inside
    (λ i. c.place_protect.ensures.put i
    ∙ ap (λ x. cond (eqb i (c.args.page % 1024)) (with_protection x c.args.protected) (cell_in c.index_mut.result.now i)) (at_own_place c.args.places.now.items c.index_mut.result.now c.args.page inside c.index_mut.ensures.value)
    ∙ ap (λ o. cond (eqb i (c.args.page % 1024)) cell (cell_in o i)) (read_place c.args.places.now.items (c.args.page / 1024) c.index_mut.result.now inside c.index_mut.ensures.value))
