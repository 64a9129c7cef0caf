use Rattle.std.proofs.Common.{◌≡◌, ◌++◌, drop}
use Rattle.kernel_rules.specs.Ioctls.{kept_pages}
use Rattle.kernel_rules.specs.Held.{kernel_of}
use Rattle.kernel_rules.proofs.kernel_table.KernelTable.kept_pages.Given as goal

abbrev pub invariant-loop-one : goal.invariant-loop-one
invariant-loop-one l =
    l.pages.items ++ kept_pages (kernel_of l.self) l.key l.space (drop l.one-index l.one-items) ≡ kept_pages (kernel_of l.self) l.key l.space l.one-items
