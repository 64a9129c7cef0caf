use Rattle.std.proofs.Common.{◌∙◌, sym, arith}
use Rattle.owed_pages.proofs.TableLemmas.{is_some_place}
use Rattle.owed_pages.proofs.owed.table.has_leaf.Goals as goal
use Rattle.mig_base.proofs.PlaceLemmas.{own_place, past_leaves}

pub returns-then-at-len : goal.returns-then-at-len
returns-then-at-len c = c.is_some.ensures ∙ is_some_place c.index.result.now ∙ own_place c.args.places.now.items c.index.result.now c.args.page (omega arith) c.index.ensures

pub returns-else-at-len : goal.returns-else-at-len
returns-else-at-len c = sym (past_leaves c.args.places.now.items c.args.page (omega arith))
