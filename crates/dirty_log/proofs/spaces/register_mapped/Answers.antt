use Rattle.std.proofs.Common.{◌∙◌, ap}
use Rattle.std.specs.Prelude.{Err}
use Rattle.std.proofs.lemmas.Result.{IfErr-at_err, IfOk-at_ok}
use Rattle.dirty_log.proofs.SpaceLemmas.{all_left, refused_bare}
use Rattle.dirty_log.proofs.spaces.register_mapped.Goals as goal

pub returns-in-Ok-clause-ok : goal.returns-in-Ok-clause-ok
returns-in-Ok-clause-ok c = IfOk-at_ok _ c.in-Ok.is c.register.ensures.space ∙ all_left c.args.space.now c.is_in_order.ensures c.requires

pub returns-in-Err-Errno-clause-ok : goal.returns-in-Err-Errno-clause-ok
returns-in-Err-Errno-clause-ok c =
    let is = c.in-Err-Errno.is ∙ ap (λ e. Err e) c.in-Err-Errno.field-0-is in
    IfErr-at_err _ c.in-Err-Errno.is c.register.ensures.err ∙ refused_bare c.args.space.now c.register.result c.in-Err-Errno.field-0-0 c.is_in_order.ensures c.requires c.register.ensures.answer is
