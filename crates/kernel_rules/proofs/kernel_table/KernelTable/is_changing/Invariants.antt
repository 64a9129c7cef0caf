use Rattle.std.proofs.Common.{◌≡◌, drop}
use Rattle.std.specs.List.{list_any}
use Rattle.kernel_rules.specs.Ioctls.{has_untold}
use Rattle.kernel_rules.specs.Held.{kernel_of}
use Rattle.kernel_rules.proofs.kernel_table.KernelTable.is_changing.Given as goal

abbrev pub invariant-loop-key : goal.invariant-loop-key
invariant-loop-key l =
    list_any (has_untold (kernel_of l.self) l.name) (drop l.key-index l.key-items) ≡ list_any (has_untold (kernel_of l.self) l.name) l.key-items
