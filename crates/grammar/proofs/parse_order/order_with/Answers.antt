use Rattle.std.proofs.Common.{rules}
use Rattle.grammar.specs.Parsing.{order_with}
use Rattle.grammar.proofs.parse_order.order_with.Goals as goal

pub returns-in-Notice : goal.returns-in-Notice
unfolding order_with
returns-in-Notice c = search rules
