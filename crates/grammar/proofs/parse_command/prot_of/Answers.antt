use Rattle.std.proofs.Common.{rules}
use Rattle.grammar.specs.Parsing.{prot_from}
use Rattle.grammar.proofs.parse_command.prot_of.Goals as goal

pub returns-in-ReadWrite : goal.returns-in-ReadWrite
unfolding prot_from
returns-in-ReadWrite c = search rules
