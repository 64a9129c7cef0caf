use Rattle.std.proofs.Common.{◌≡◌, ℕ, ◌<◌, ◌≤◌, ◌+◌, ◌-◌, false}
use Rattle.kernel_rules.specs.State.{page_is}
use Rattle.kernel_rules.specs.Tests.{passes}
use Rattle.kernel_rules.specs.Held.{kernel_of}
use Rattle.kernel_rules.proofs.kernel_table.KernelTable.some_page.Given as goal

abbrev pub invariant-loop-done : goal.invariant-loop-done
invariant-loop-done l = (l.done ≤ l.count) × ((k : ℕ) → k < l.done → page_is (passes l.test) ((kernel_of l.self).pages l.space (l.first + k)) ≡ false)

abbrev pub decreases-loop-done : goal.decreases-loop-done
decreases-loop-done l = l.count - l.done
