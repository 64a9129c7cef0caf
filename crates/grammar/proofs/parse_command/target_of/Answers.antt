use Rattle.std.proofs.Common.{rules}
use Rattle.grammar.specs.Parsing.{target_from}
use Rattle.grammar.proofs.parse_command.target_of.Goals as goal

pub returns-in-empty : goal.returns-in-empty
unfolding target_from
returns-in-empty c = search rules
