use Rattle.std.proofs.Common.{◌≡◌, drop}
use Rattle.kernel_rules.specs.Runs.{end_all}
use Rattle.kernel_rules.specs.Held.{kernel_of, AreTables}
use Rattle.kernel_rules.proofs.kernel_table.KernelTable.end_all.Given as goal

abbrev pub invariant-loop-range : goal.invariant-loop-range
invariant-loop-range l = AreTables l.self × (end_all (kernel_of l.self) (drop l.range-index l.ranges) ≡ end_all (kernel_of l.fn.self) l.ranges)
