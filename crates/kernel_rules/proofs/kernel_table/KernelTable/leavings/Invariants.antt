use Rattle.std.proofs.Common.{◌≡◌}
use Rattle.kernel_rules.specs.MapCalls.{leavings}
use Rattle.kernel_rules.specs.Held.{kernel_of}
use Rattle.kernel_rules.proofs.kernel_table.KernelTable.leavings.Given as goal

abbrev pub invariant-loop-i : goal.invariant-loop-i
invariant-loop-i l = l.pages.items ≡ leavings (kernel_of l.self) l.space l.from l.i
