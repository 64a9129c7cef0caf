use Rattle.std.proofs.Common.{rules}
use Rattle.grammar.specs.Parsing.{epoch_from}
use Rattle.grammar.proofs.parse_order.epoch_of.Goals as goal

pub returns-in-empty : goal.returns-in-empty
unfolding epoch_from
returns-in-empty c = search rules
