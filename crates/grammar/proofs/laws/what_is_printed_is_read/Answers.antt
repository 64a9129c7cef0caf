use Rattle.grammar.proofs.Printing.{order_printed, entry_printed}
use Rattle.grammar.proofs.laws.what_is_printed_is_read.Goals as goal

pub returns : goal.returns
returns c = record { order = order_printed; entry = entry_printed }
