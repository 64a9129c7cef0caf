use Rattle.std.proofs.Common.{[]}
use Rattle.uffd_log.specs.Words.{IsToken, words_of}
use Rattle.uffd_log.proofs.Words.{words_first, words_last}
use Rattle.words.proofs.Tokens.{tokens_more, tokens_last, tokens_wrong}
use Rattle.uffd_log.proofs.token.read_tokens.Goals as goal

pub returns-in_default-token_of-clause-none : goal.returns-in_default-token_of-clause-none
returns-in_default-token_of-clause-none c =
    let first = words_first c.loop-end.rest.now c.in-Some.end c.around.result.0.now c.around.result.1.now c.in-Some.ensures c.around.ensures.front c.around.ensures.back in
    tokens_wrong IsToken words_of c.args.text.now c.loop-end.tokens.items c.loop-end.rest.now c.around.result.0.now (words_of c.around.result.1.now) c.loop-end.invariant first c.in_default-token_of.ensures.none

pub loop-end-preserved : goal.loop-end-preserved
loop-end-preserved c =
    let first = words_first c.loop-end.rest.now c.in-Some.end c.around.result.0.now c.around.result.1.now c.in-Some.ensures c.around.ensures.front c.around.ensures.back in
    rw c.in-Ok.ensures.items
    (tokens_more IsToken words_of c.args.text.now c.loop-end.tokens.items c.loop-end.rest.now c.around.result.0.now c.around.result.1.now c.in-Some-token_of.token c.loop-end.invariant first c.in-Some-token_of.ensures.found)

pub returns-in_default-token_of-2-clause-none : goal.returns-in_default-token_of-2-clause-none
returns-in_default-token_of-2-clause-none c =
    tokens_wrong IsToken words_of c.args.text.now c.loop-end.tokens.items c.loop-end.rest.now c.loop-end.rest.now [] c.loop-end.invariant (words_last c.loop-end.rest.now c.in_default.ensures) c.in_default-token_of-2.ensures.none

pub returns-in-Ok-push-clause-found : goal.returns-in-Ok-push-clause-found
returns-in-Ok-push-clause-found c =
    rw c.in-Ok-push.ensures.items
    (tokens_last IsToken words_of c.args.text.now c.loop-end.tokens.items c.loop-end.rest.now c.in-Some-token_of-2.token c.loop-end.invariant (words_last c.loop-end.rest.now c.in_default.ensures) c.in-Some-token_of-2.ensures.found)
