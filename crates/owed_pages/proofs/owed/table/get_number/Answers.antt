use Rattle.std.proofs.Common.{◌∙◌, sym, arith}
use Rattle.owed_pages.proofs.TableLemmas.{at_own_place, past_places}
use Rattle.owed_pages.proofs.owed.table.get_number.Goals as goal

pub returns-then-at-len : goal.returns-then-at-len
returns-then-at-len c = c.place_get.ensures ∙ at_own_place c.args.places.now.items c.index.result.now c.args.page (omega arith) c.index.ensures

pub returns-else-at-len : goal.returns-else-at-len
returns-else-at-len c = sym (past_places c.args.places.now.items c.args.page (omega arith))
