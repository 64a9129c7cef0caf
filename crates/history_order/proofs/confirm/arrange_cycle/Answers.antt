use Rattle.std.proofs.lemmas.List.Sorted.{IsPermutation-refl, IsPermutation-trans}
use Rattle.history_order.proofs.confirm.arrange_cycle.Goals as goal

pub loop-init : goal.loop-init
loop-init c = IsPermutation-refl c.args.operations.now

pub loop-preserved : goal.loop-preserved
loop-preserved c = IsPermutation-trans c.args.operations.now c.loop.operations c.swap.new.self c.loop.invariant c.swap.ensures.permutation
