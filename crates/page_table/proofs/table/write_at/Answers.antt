use Rattle.std.proofs.Common.{◌∙◌, ap, subst, cond, eqb, OnErr, ◌≡◌, ◌/◌, ◌%◌, true, arith}
use Rattle.page_table.specs.Bytes.{write_needs_room}
use Rattle.page_table.specs.Leaves.{Cell, cell_in, cell_at, stored_cell}
use Rattle.page_table.proofs.TableLemmas.{at_own_place, one_cell}
use Rattle.page_table.proofs.table.write_at.Goals as goal
use Rattle.mig_base.proofs.PlaceLemmas.{read_place, place_inside, own_place}

pub index_mut-place-requires : goal.index_mut-place-requires
index_mut-place-requires c = let inside = place_inside c.args.places.now.items c.args.page c.requires.there in omega arith

pub place_write-requires-clause-there : goal.place_write-requires-clause-there
place_write-requires-clause-there c = own_place c.args.places.now.items c.index_mut-place.result.now c.args.page (place_inside c.args.places.now.items c.args.page c.requires.there) c.index_mut-place.ensures.value ∙ c.requires.there

pub returns-clause-stored : goal.returns-clause-stored
returns-clause-stored c =
    let inside = place_inside c.args.places.now.items c.args.page c.requires.there in
    let cell : Cell = stored_cell c.place_write.result (cell_at c.args.places.now.items c.args.page) c.args.offset c.args.bytes.now in
    one_cell c.args.places.now.items c.args.page c.place_write.new.place cell inside
    (λ i. c.place_write.ensures.stored i
    ∙ ap (λ x. cond (eqb i (c.args.page % 1024)) (stored_cell c.place_write.result x c.args.offset c.args.bytes.now) (cell_in c.index_mut-place.result.now i)) (at_own_place c.args.places.now.items c.index_mut-place.result.now c.args.page inside c.index_mut-place.ensures.value)
    ∙ ap (λ o. cond (eqb i (c.args.page % 1024)) cell (cell_in o i)) (read_place c.args.places.now.items (c.args.page / 1024) c.index_mut-place.result.now inside c.index_mut-place.ensures.value))

pub returns-clause-needs : goal.returns-clause-needs
returns-clause-needs c =
    let inside = place_inside c.args.places.now.items c.args.page c.requires.there in
    subst (λ x. OnErr c.place_write.result (write_needs_room x.0 c.args.bytes.now ≡ true))
    (at_own_place c.args.places.now.items c.index_mut-place.result.now c.args.page inside c.index_mut-place.ensures.value) c.place_write.ensures.needs
