use Rattle.std.proofs.Common.{◌≡◌, ◌≤◌, ◌-◌, ℕ}
use Rattle.kernel_rules.specs.Changes.{range_changed}
use Rattle.kernel_rules.specs.Tables.{pages_of}
use Rattle.kernel_rules.proofs.page_table.PageTable.change.Given as goal

abbrev pub invariant-loop-done : goal.invariant-loop-done
invariant-loop-done l = (l.done ≤ l.count) × ((n : ℕ) → pages_of l.self n ≡ range_changed (pages_of l.fn.self) l.first l.done l.change n)

abbrev pub decreases-loop-done : goal.decreases-loop-done
decreases-loop-done l = l.count - l.done
