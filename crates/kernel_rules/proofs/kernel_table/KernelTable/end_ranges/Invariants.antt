use Rattle.std.proofs.Common.{◌≡◌, drop}
use Rattle.kernel_rules.specs.Ioctls.{end_ranges}
use Rattle.kernel_rules.specs.Held.{kernel_of, AreTables}
use Rattle.kernel_rules.proofs.kernel_table.KernelTable.end_ranges.Given as goal

abbrev pub invariant-loop-range : goal.invariant-loop-range
invariant-loop-range l =
    AreTables l.self × (end_ranges (kernel_of l.self) l.name l.object (drop l.range-index l.ranges) ≡ end_ranges (kernel_of l.fn.self) l.name l.object l.ranges)
