use Rattle.std.proofs.Common.{◌≡◌, drop}
use Rattle.kernel_rules.specs.MapCalls.{with_events}
use Rattle.kernel_rules.specs.Held.{kernel_of, AreTables}
use Rattle.kernel_rules.proofs.kernel_table.KernelTable.add_events.Given as goal

abbrev pub invariant-loop-name : goal.invariant-loop-name
invariant-loop-name l = AreTables l.self × (with_events (kernel_of l.self) l.key l.message (drop l.name-index l.names) ≡ with_events (kernel_of l.fn.self) l.key l.message l.names)
