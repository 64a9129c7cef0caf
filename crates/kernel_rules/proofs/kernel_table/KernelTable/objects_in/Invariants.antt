use Rattle.std.proofs.Common.{◌≡◌, drop, []}
use Rattle.kernel_rules.specs.MapCalls.{watchers_of}
use Rattle.kernel_rules.specs.Held.{kernel_of}
use Rattle.kernel_rules.proofs.kernel_table.KernelTable.objects_in.Given as goal

abbrev pub invariant-loop-range : goal.invariant-loop-range
invariant-loop-range l =
    watchers_of (kernel_of l.self) l.space l.first l.end (drop l.range-index l.range-items) l.names.items ≡ watchers_of (kernel_of l.self) l.space l.first l.end l.range-items []
