use Rattle.std.proofs.Common.{arith}
use Rattle.history.proofs.Agreeing.{no_operation}
use Rattle.history.proofs.Refuted.{at_index}
use Rattle.history.proofs.cycle.look_up.Goals as goal

pub returns-clause-source : goal.returns-clause-source
returns-clause-source c = at_index c.args.operations.now c.args.value.source no_operation (omega arith)

pub returns-clause-early : goal.returns-clause-early
returns-clause-early c = at_index c.args.operations.now c.args.value.early no_operation (omega arith)

pub returns-clause-late : goal.returns-clause-late
returns-clause-late c = at_index c.args.operations.now c.args.value.late no_operation (omega arith)
