use Rattle.std.proofs.Common.{◌≡◌, take}
use Rattle.history.specs.Histories.{ticks}
use Rattle.history.proofs.ticks.list_ticks.Given as goal

abbrev pub invariant-loop-operation : goal.invariant-loop-operation
invariant-loop-operation l = l.list.items ≡ ticks (take l.operation-index l.operations)
