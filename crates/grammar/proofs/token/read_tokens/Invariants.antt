use Rattle.std.proofs.Common.{length}
use Rattle.grammar.specs.Words.{IsToken, words_of}
use Rattle.words.proofs.Tokens.{ReadsTokens}
use Rattle.grammar.proofs.token.read_tokens.Given as goal

abbrev pub invariant-loop-word : goal.invariant-loop-word
invariant-loop-word l = ReadsTokens IsToken words_of l.text l.tokens.items l.rest

abbrev pub decreases-loop-word : goal.decreases-loop-word
decreases-loop-word l = length l.rest
