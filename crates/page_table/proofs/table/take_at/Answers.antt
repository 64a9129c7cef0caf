use Rattle.std.proofs.Common.{◌∙◌, sym, ap, cond, eqb, arith, ◌/◌, ◌%◌, false}
use Rattle.page_table.specs.Leaves.{cell_in, is_place, no_cell}
use Rattle.page_table.proofs.TableLemmas.{at_own_place, one_cell, past_places, gone_already}
use Rattle.page_table.proofs.table.take_at.Goals as goal
use Rattle.mig_base.proofs.PlaceLemmas.{read_place, places_stay}

pub returns-then-at-len-clause-taken : goal.returns-then-at-len-clause-taken
returns-then-at-len-clause-taken c = c.place_take.ensures.taken ∙ at_own_place c.args.places.now.items c.index_mut.result.now c.args.page (omega arith) c.index_mut.ensures.value

pub returns-then-at-len-clause-left : goal.returns-then-at-len-clause-left
returns-then-at-len-clause-left c =
    one_cell c.args.places.now.items c.args.page c.place_take.new.place no_cell (omega arith)
    (λ i. c.place_take.ensures.left i ∙ ap (λ o. cond (eqb i (c.args.page % 1024)) no_cell (cell_in o i)) (read_place c.args.places.now.items (c.args.page / 1024) c.index_mut.result.now (omega arith) c.index_mut.ensures.value))

pub returns-then-at-len-clause-stay : goal.returns-then-at-len-clause-stay
returns-then-at-len-clause-stay c =
    places_stay c.args.places.now.items (c.args.page / 1024) c.place_take.new.place (omega arith)
    (c.place_take.ensures.stays ∙ ap is_place (read_place c.args.places.now.items (c.args.page / 1024) c.index_mut.result.now (omega arith) c.index_mut.ensures.value))

pub returns-else-at-len-clause-taken : goal.returns-else-at-len-clause-taken
returns-else-at-len-clause-taken c = (λ k. (c.missing.ensures k, false)) ∙ sym (past_places c.args.places.now.items c.args.page (omega arith))

pub returns-else-at-len-clause-left : goal.returns-else-at-len-clause-left
returns-else-at-len-clause-left c = λ q. gone_already c.args.places.now.items c.args.page q (past_places c.args.places.now.items c.args.page (omega arith))
