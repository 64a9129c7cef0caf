use Rattle.grammar.proofs.Printing.{has_line, order_fits, has_entry_line, entry_fits}
use Rattle.grammar.proofs.laws.what_has_a_line.Goals as goal

pub returns : goal.returns
returns c = record { order = has_line; no_other = order_fits; entry = has_entry_line; no_other_entry = entry_fits }
