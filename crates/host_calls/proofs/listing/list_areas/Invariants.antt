use Rattle.std.proofs.Common.{◌≡◌, ◌++◌, take}
use Rattle.host_calls.specs.Calls.{registers}
use Rattle.host_calls.proofs.listing.list_areas.Given as goal

abbrev pub invariant-loop-area : goal.invariant-loop-area
invariant-loop-area l = l.calls.items ≡ l.fn.calls.items ++ registers (take l.area-index l.area-items) l.mode
