use Rattle.std.proofs.Common.{◌≡◌, take}
use Rattle.precopy.proofs.source.copy_pages.Given as goal

abbrev pub invariant-loop-i : goal.invariant-loop-i
invariant-loop-i l = l.copy.items ≡ take l.i l.pages.items
