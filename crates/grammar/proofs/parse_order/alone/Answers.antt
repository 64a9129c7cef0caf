use Rattle.std.proofs.Common.{rules}
use Rattle.grammar.specs.Parsing.{alone_from}
use Rattle.grammar.proofs.parse_order.alone.Goals as goal

pub returns-in-empty : goal.returns-in-empty
unfolding alone_from
returns-in-empty c = search rules
