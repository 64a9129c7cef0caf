use Rattle.history.proofs.Refuted.{with_clock}
use Rattle.history.proofs.contradiction.is_there.Goals as goal

pub returns-in-NoSource : goal.returns-in-NoSource
returns-in-NoSource c = with_clock c.args.clock c.args.operations.now c.args.contradiction.now _ c.has_no_source.result c.in-NoSource.is c.has_no_source.ensures

pub returns-in-Fork : goal.returns-in-Fork
returns-in-Fork c = with_clock c.args.clock c.args.operations.now c.args.contradiction.now _ c.is_fork.result c.in-Fork.is c.is_fork.ensures

pub returns-in-Overlap : goal.returns-in-Overlap
returns-in-Overlap c = with_clock c.args.clock c.args.operations.now c.args.contradiction.now _ c.overlap.result c.in-Overlap.is c.overlap.ensures
