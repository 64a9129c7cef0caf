use Rattle.std.proofs.Common.{◌∙◌, sym, ap, cond, eqb, ◌/◌, ◌%◌, arith}
use Rattle.page_table.specs.Leaves.{Cell, cell_in, is_place}
use Rattle.page_table.proofs.TableLemmas.{one_cell}
use Rattle.page_table.proofs.table.put_at.Goals as goal
use Rattle.mig_base.proofs.PlaceLemmas.{read_place, place_inside, own_place, places_stay}

pub index_mut-requires : goal.index_mut-requires
index_mut-requires c = let inside = place_inside c.args.places.now.items c.args.page c.requires.there in omega arith

pub place_put-requires-clause-there : goal.place_put-requires-clause-there
place_put-requires-clause-there c = own_place c.args.places.now.items c.index_mut.result.now c.args.page (place_inside c.args.places.now.items c.args.page c.requires.there) c.index_mut.ensures.value ∙ c.requires.there

pub returns-clause-put : goal.returns-clause-put
returns-clause-put c =
    let inside = place_inside c.args.places.now.items c.args.page c.requires.there in
    let cell : Cell = (c.args.bytes, c.args.protected) in
    one_cell c.args.places.now.items c.args.page c.place_put.new.place cell inside
    (λ i. c.place_put.ensures.put i ∙ ap (λ o. cond (eqb i (c.args.page % 1024)) cell (cell_in o i)) (read_place c.args.places.now.items (c.args.page / 1024) c.index_mut.result.now inside c.index_mut.ensures.value))

pub returns-clause-stay : goal.returns-clause-stay
returns-clause-stay c =
    let inside = place_inside c.args.places.now.items c.args.page c.requires.there in
    places_stay c.args.places.now.items (c.args.page / 1024) c.place_put.new.place inside
    (c.place_put.ensures.stays ∙ sym c.requires.there ∙ sym (own_place c.args.places.now.items c.index_mut.result.now c.args.page inside c.index_mut.ensures.value) ∙ ap is_place (read_place c.args.places.now.items (c.args.page / 1024) c.index_mut.result.now inside c.index_mut.ensures.value))
