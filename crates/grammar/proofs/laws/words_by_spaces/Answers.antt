use Rattle.std.proofs.Common.{refl}
use Rattle.grammar.proofs.Spaces.{words_space, words_one, words_more}
use Rattle.grammar.proofs.laws.words_by_spaces.Goals as goal

pub returns : goal.returns
returns c = record { nothing = refl; space = words_space; last = words_one; more = words_more }
