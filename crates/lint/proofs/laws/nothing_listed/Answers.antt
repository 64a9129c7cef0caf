use Rattle.lint.proofs.Clean.{nothing}
use Rattle.lint.proofs.laws.nothing_listed.Goals as goal

pub returns : goal.returns
returns c = λ language name input texts lists. nothing language name input texts lists
