use Rattle.std.specs.List.Sorted.{IsPermutation}
use Rattle.history_order.proofs.confirm.arrange_cycle.Given as goal

abbrev pub invariant-loop : goal.invariant-loop
invariant-loop l = IsPermutation l.fn.operations l.operations
