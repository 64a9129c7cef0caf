use Rattle.grammar.specs.Words.{IsToken, words_of}
use Rattle.words.proofs.Tokens.{tokens_more, tokens_wrong}
use Rattle.grammar.proofs.token.read_tokens.Goals as goal

pub returns-in_default-token_of-clause-none : goal.returns-in_default-token_of-clause-none
returns-in_default-token_of-clause-none c =
    tokens_wrong IsToken words_of c.args.text.now c.loop-word.tokens.items c.loop-word.rest.now c.in-Some.word.now (words_of c.in-Some.behind.now) c.loop-word.invariant c.in-Some.ensures.found.words c.in_default-token_of.ensures.none

pub loop-word-preserved : goal.loop-word-preserved
loop-word-preserved c =
    rw c.in-Ok.ensures.items
    (tokens_more IsToken words_of c.args.text.now c.loop-word.tokens.items c.loop-word.rest.now c.in-Some.word.now c.in-Some.behind.now c.in-Some-token_of.token c.loop-word.invariant c.in-Some.ensures.found.words c.in-Some-token_of.ensures.found)
