use Rattle.std.proofs.Common.{◌≡◌, ◌≤◌, ◌^◌, drop}
use Rattle.kernel_rules.specs.Ioctls.{settled_by}
use Rattle.kernel_rules.specs.Held.{kernel_of, AreTables}
use Rattle.kernel_rules.proofs.kernel_table.KernelTable.settle_by.Given as goal

abbrev pub invariant-loop-run : goal.invariant-loop-run
invariant-loop-run l =
    AreTables l.self × (l.at ≤ 2 ^ 53)
    × (settled_by (kernel_of l.self) l.space l.at l.end (drop l.run-index l.runs) ≡ settled_by (kernel_of l.fn.self) l.space l.fn.from l.end l.runs)
