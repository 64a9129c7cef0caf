use Rattle.std.proofs.Common.{arith}
use Rattle.grammar.specs.declared.token.Token.TheVariants.{Key, Number}
use Rattle.grammar.specs.Words.{IsToken}
use Rattle.grammar.proofs.Tokens.{digit_no_keyword}
use Rattle.grammar.proofs.token.token_of.Goals as goal

pub returns-in_err-number-in-48-to-57-clause-none : goal.returns-in_err-number-in-48-to-57-clause-none
returns-in_err-number-in-48-to-57-clause-none c = rw c.from_residual.ensures (λ token. elim token as (λ t. IsToken t c.args.word.now → ⊥) [
  | Key keyword ↦ λ e. digit_no_keyword keyword c.args.word.now e (grind arith)
  | Number n ↦ λ e. c.in_err-number-in-48-to-57.ensures.none n e
])
