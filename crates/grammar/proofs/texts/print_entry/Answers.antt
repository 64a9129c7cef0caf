use Rattle.std.proofs.Common.{arith}
use Rattle.std.proofs.lemmas.Grind.{common_steps}
use Rattle.grammar.specs.Texts.{entry_line}
use Rattle.grammar.proofs.texts.print_entry.Goals as goal

pub returns-clause-ok : goal.returns-clause-ok
unfolding entry_line
returns-clause-ok c = grind (arith, common_steps)
