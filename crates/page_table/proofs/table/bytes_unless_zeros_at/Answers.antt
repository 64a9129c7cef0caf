use Rattle.std.proofs.Common.{◌∙◌, sym, ap, arith}
use Rattle.page_table.specs.Bytes.{unless_zeros}
use Rattle.page_table.proofs.TableLemmas.{at_own_place, past_places}
use Rattle.page_table.proofs.table.bytes_unless_zeros_at.Goals as goal

pub returns-then-at-len : goal.returns-then-at-len
returns-then-at-len c = c.place_get_unless_zeros.ensures ∙ ap (λ x. unless_zeros x.0) (at_own_place c.args.places.now.items c.index.result.now c.args.page (omega arith) c.index.ensures)

pub returns-else-at-len : goal.returns-else-at-len
returns-else-at-len c = sym (ap (λ x. unless_zeros x.0) (past_places c.args.places.now.items c.args.page (omega arith)))
