use Rattle.std.proofs.Common.{get_or}
use Rattle.history.proofs.Agreeing.{no_operation}
use Rattle.history.proofs.Refuted.{at_index}
use Rattle.history.proofs.contradiction.overlap.Goals as goal

pub returns : goal.returns
returns c =
    λ clock. (
      get_or c.args.operations.now c.args.first no_operation,
      get_or c.args.operations.now c.args.second no_operation,
      at_index c.args.operations.now c.args.first no_operation c.if-first-operations.false,
      at_index c.args.operations.now c.args.second no_operation c.if-second-operations.false,
      record {
        apart = c.if-first-second-2.false;
        one_thread = c.if-first-second.false;
        first_open = c.if-second-first.false;
        second_open = c.if-first-second-3.false;
      },
    )
