use Rattle.grammar.proofs.Meaning.{one_line, one_reading, one_fault, no_fault}
use Rattle.grammar.proofs.laws.one_meaning.Goals as goal

pub returns : goal.returns
returns c = record { line = one_line; whole = one_reading; fault = one_fault; either = no_fault }
