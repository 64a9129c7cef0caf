use Rattle.std.proofs.Common.{◌≡◌, drop}
use Rattle.std.specs.List.{list_any}
use Rattle.std.specs.Prelude.{◌&&◌}
use Rattle.kernel_rules.specs.declared.object.Registration.{Registration}
use Rattle.kernel_rules.specs.MapCalls.{watches_in}
use Rattle.kernel_rules.specs.Ioctls.{tells_object}
use Rattle.kernel_rules.specs.Held.{kernel_of}
use Rattle.kernel_rules.proofs.kernel_table.KernelTable.tells_within.Given as goal

abbrev pub invariant-loop-range : goal.invariant-loop-range
invariant-loop-range l =
    list_any (λ (range : Registration). tells_object (kernel_of l.self) l.key range.object && watches_in (kernel_of l.self) l.space l.first l.end range) (drop l.range-index l.range-items) ≡ list_any (λ (range : Registration). tells_object (kernel_of l.self) l.key range.object && watches_in (kernel_of l.self) l.space l.first l.end range) l.range-items
