use Rattle.std.proofs.Common.{rules}
use Rattle.grammar.specs.Parsing.{run_from}
use Rattle.grammar.proofs.parse_order.run_of.Goals as goal

pub returns-in_default : goal.returns-in_default
unfolding run_from
returns-in_default c = search rules
