use Rattle.uffd_log.proofs.OneToken.{if_none, after_minus}
use Rattle.uffd_log.proofs.token.minus.Goals as goal

pub returns-in-45-clause-none : goal.returns-in-45-clause-none
returns-in-45-clause-none c =
    if_none c.number.result (λ none n m. none n (after_minus c.args.word.now c.around.result.1.now n c.around.ensures.back m)) c.number.ensures.none
