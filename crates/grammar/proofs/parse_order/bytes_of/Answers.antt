use Rattle.std.proofs.Common.{rules}
use Rattle.grammar.specs.Parsing.{bytes_from}
use Rattle.grammar.proofs.parse_order.bytes_of.Goals as goal

pub returns-in-empty : goal.returns-in-empty
unfolding bytes_from
returns-in-empty c = search rules
