use Rattle.std.proofs.Common.{◌≡◌, drop}
use Rattle.std.specs.List.{list_any}
use Rattle.kernel_rules.specs.Ioctls.{is_watched_in}
use Rattle.kernel_rules.specs.Held.{kernel_of}
use Rattle.kernel_rules.proofs.kernel_table.KernelTable.is_watching.Given as goal

abbrev pub invariant-loop-range : goal.invariant-loop-range
invariant-loop-range l =
    list_any (is_watched_in (kernel_of l.self) l.name l.object) (drop l.range-index l.range-items) ≡ list_any (is_watched_in (kernel_of l.self) l.name l.object) l.range-items
