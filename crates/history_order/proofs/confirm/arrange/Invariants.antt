use Rattle.std.specs.List.Sorted.{IsPermutation}
use Rattle.history_order.proofs.confirm.arrange.Given as goal

abbrev pub invariant-loop-start : goal.invariant-loop-start
invariant-loop-start l = IsPermutation l.fn.operations l.operations
