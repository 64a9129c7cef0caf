use Rattle.std.proofs.Common.{◌≡◌, drop}
use Rattle.std.specs.List.{list_any}
use Rattle.kernel_rules.specs.Reads.{is_queued_for}
use Rattle.kernel_rules.specs.Held.{kernel_of}
use Rattle.kernel_rules.proofs.kernel_table.KernelTable.has_queued.Given as goal

abbrev pub invariant-loop-key : goal.invariant-loop-key
invariant-loop-key l =
    list_any (is_queued_for (kernel_of l.self) l.name) (drop l.key-index l.key-items) ≡ list_any (is_queued_for (kernel_of l.self) l.name) l.key-items
