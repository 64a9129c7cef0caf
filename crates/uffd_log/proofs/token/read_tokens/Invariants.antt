use Rattle.std.proofs.Common.{length}
use Rattle.uffd_log.specs.Words.{IsToken, words_of}
use Rattle.words.proofs.Tokens.{ReadsTokens}
use Rattle.uffd_log.proofs.token.read_tokens.Given as goal

abbrev pub invariant-loop-end : goal.invariant-loop-end
invariant-loop-end l = ReadsTokens IsToken words_of l.text l.tokens.items l.rest

abbrev pub decreases-loop-end : goal.decreases-loop-end
decreases-loop-end l = length l.rest
