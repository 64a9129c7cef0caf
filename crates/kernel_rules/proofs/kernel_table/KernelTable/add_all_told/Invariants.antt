use Rattle.std.proofs.Common.{◌≡◌, drop}
use Rattle.kernel_rules.specs.MapCalls.{with_all_told}
use Rattle.kernel_rules.specs.Held.{kernel_of, AreTables}
use Rattle.kernel_rules.proofs.kernel_table.KernelTable.add_all_told.Given as goal

abbrev pub invariant-loop-name : goal.invariant-loop-name
invariant-loop-name l = AreTables l.self × (with_all_told (kernel_of l.self) l.key (drop l.name-index l.names) ≡ with_all_told (kernel_of l.fn.self) l.key l.names)
