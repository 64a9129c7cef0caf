use Rattle.std.proofs.Common.{◌≡◌, drop}
use Rattle.kernel_rules.specs.Ioctls.{pages_set}
use Rattle.kernel_rules.specs.Held.{kernel_of, AreTables}
use Rattle.kernel_rules.proofs.kernel_table.KernelTable.set_pages.Given as goal

abbrev pub invariant-loop-page : goal.invariant-loop-page
invariant-loop-page l = AreTables l.self × (pages_set (kernel_of l.self) l.space (drop l.page-index l.pages) ≡ pages_set (kernel_of l.fn.self) l.space l.pages)
