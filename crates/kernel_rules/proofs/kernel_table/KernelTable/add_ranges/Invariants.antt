use Rattle.std.proofs.Common.{◌≡◌, drop}
use Rattle.kernel_rules.specs.MapCalls.{with_ranges}
use Rattle.kernel_rules.specs.Held.{kernel_of, AreTables}
use Rattle.kernel_rules.proofs.kernel_table.KernelTable.add_ranges.Given as goal

abbrev pub invariant-loop-name : goal.invariant-loop-name
invariant-loop-name l = AreTables l.self × (with_ranges (kernel_of l.self) l.first l.count (drop l.name-index l.names) ≡ with_ranges (kernel_of l.fn.self) l.first l.count l.names)
