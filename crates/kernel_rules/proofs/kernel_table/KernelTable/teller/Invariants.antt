use Rattle.std.proofs.Common.{◌≡◌, drop, false}
use Rattle.kernel_rules.specs.Reads.{teller}
use Rattle.kernel_rules.specs.Held.{kernel_of}
use Rattle.kernel_rules.proofs.kernel_table.KernelTable.teller.Given as goal

abbrev pub invariant-loop-key : goal.invariant-loop-key
invariant-loop-key l = teller (kernel_of l.self) l.name l.event (drop l.key-index l.key-items) l.late ≡ teller (kernel_of l.self) l.name l.event l.key-items false
