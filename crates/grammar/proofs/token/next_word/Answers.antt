use Rattle.std.proofs.Common.{arith}
use Rattle.grammar.proofs.Spaces.{first_word, last_word}
use Rattle.grammar.proofs.token.next_word.Goals as goal

pub returns-in-Some-clause-found : goal.returns-in-Some-clause-found
returns-in-Some-clause-found c =
    rw (c.split_at.ensures.front, c.split_at.ensures.back)
    (first_word c.args.text.now c.skip_spaces-rest.result.now c.in-Some.end c.skip_spaces-rest.ensures.words c.skip_spaces-rest.ensures.shorter c.in-Some.ensures c.skip_spaces-rest.ensures.front)

pub returns-in-None-clause-found : goal.returns-in-None-clause-found
returns-in-None-clause-found c =
    last_word c.args.text.now c.skip_spaces-rest.result.now c.skip_spaces-rest.ensures.words c.skip_spaces-rest.ensures.shorter (grind arith) c.in-None.ensures
