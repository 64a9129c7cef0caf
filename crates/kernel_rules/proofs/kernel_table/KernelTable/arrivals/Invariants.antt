use Rattle.std.proofs.Common.{◌≡◌}
use Rattle.kernel_rules.specs.MapCalls.{arrivals}
use Rattle.kernel_rules.specs.Held.{kernel_of}
use Rattle.kernel_rules.proofs.kernel_table.KernelTable.arrivals.Given as goal

abbrev pub invariant-loop-i : goal.invariant-loop-i
invariant-loop-i l = l.pages.items ≡ arrivals (kernel_of l.self) l.space l.from l.count l.to l.i
