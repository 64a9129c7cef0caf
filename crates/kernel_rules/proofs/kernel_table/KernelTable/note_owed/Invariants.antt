use Rattle.std.proofs.Common.{◌≡◌}
use Rattle.kernel_rules.specs.Ioctls.{with_owed}
use Rattle.kernel_rules.specs.Held.{kernel_of, AreTables}
use Rattle.kernel_rules.proofs.kernel_table.KernelTable.note_owed.Given as goal

abbrev pub invariant-loop-i : goal.invariant-loop-i
invariant-loop-i l = AreTables l.self × (kernel_of l.self ≡ with_owed (kernel_of l.fn.self) l.name l.object l.first l.i)
