use Rattle.std.proofs.Common.{get_or}
use Rattle.std.proofs.lemmas.Bool.{OnTrue_at, OnTrue_from}
use Rattle.history.proofs.Agreeing.{no_operation}
use Rattle.history.proofs.Refuted.{at_index}
use Rattle.history.proofs.contradiction.is_one_tick.Goals as goal

pub returns : goal.returns
returns c =
    OnTrue_from c.share_tick.result _
    (λ e. (
      c.if-first-second.false,
      get_or c.args.operations.now c.args.first no_operation,
      get_or c.args.operations.now c.args.second no_operation,
      at_index c.args.operations.now c.args.first no_operation c.if-first-operations.false,
      at_index c.args.operations.now c.args.second no_operation c.if-second-operations.false,
      OnTrue_at e c.share_tick.ensures,
    ))
