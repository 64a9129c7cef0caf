use Rattle.std.proofs.Common.{◌≡◌, ◌++◌}
use Rattle.host_calls.specs.Calls.{pages_from}
use Rattle.host_calls.proofs.listing.list_pages.Given as goal

abbrev pub invariant-loop-index : goal.invariant-loop-index
invariant-loop-index l = l.calls.items ≡ l.fn.calls.items ++ pages_from l.addr l.index
