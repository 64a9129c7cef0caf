use Rattle.std.proofs.lemmas.List.Sorted.{IsPermutation-trans}
use Rattle.history_order.proofs.confirm.arrange.Goals as goal

pub loop-start-preserved : goal.loop-start-preserved
loop-start-preserved c = IsPermutation-trans c.args.operations.now c.loop-start.operations c.arrange_cycle.new.operations c.loop-start.invariant c.arrange_cycle.ensures
