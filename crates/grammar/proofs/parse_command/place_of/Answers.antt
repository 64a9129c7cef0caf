use Rattle.std.proofs.Common.{rules}
use Rattle.grammar.specs.Parsing.{place_from}
use Rattle.grammar.proofs.parse_command.place_of.Goals as goal

pub returns-in-empty : goal.returns-in-empty
unfolding place_from
returns-in-empty c = search rules
