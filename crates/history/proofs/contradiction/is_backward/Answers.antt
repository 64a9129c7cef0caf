use Rattle.std.proofs.Common.{get_or}
use Rattle.std.proofs.lemmas.Bool.{OnTrue_at, OnTrue_from}
use Rattle.history.proofs.Agreeing.{no_operation}
use Rattle.history.proofs.Refuted.{at_index}
use Rattle.history.proofs.contradiction.is_backward.Goals as goal

pub returns : goal.returns
returns c =
    OnTrue_from c.is_turned.result _
    (λ e. (get_or c.args.operations.now c.args.at no_operation, at_index c.args.operations.now c.args.at no_operation c.if-at-operations.false, OnTrue_at e c.is_turned.ensures))
