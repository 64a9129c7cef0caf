use Rattle.std.proofs.Common.{◌≡◌, drop}
use Rattle.kernel_rules.specs.Reads.{messages_taken}
use Rattle.kernel_rules.specs.Held.{kernel_of, AreTables}
use Rattle.kernel_rules.proofs.kernel_table.KernelTable.read_messages.Given as goal

abbrev pub invariant-loop-i : goal.invariant-loop-i
invariant-loop-i l =
    AreTables l.self
    × (messages_taken (kernel_of l.self) l.by.key l.by.reader l.by.name l.by.object (drop l.i l.messages) ≡ messages_taken (kernel_of l.fn.self) l.by.key l.by.reader l.by.name l.by.object l.messages)
