use Rattle.std.proofs.Common.{rules}
use Rattle.grammar.specs.Parsing.{reply_from}
use Rattle.grammar.proofs.parse_entry.reply_of.Goals as goal

pub returns-in-Key-4 : goal.returns-in-Key-4
unfolding reply_from
returns-in-Key-4 c = search rules
