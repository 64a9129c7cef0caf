use Rattle.std.proofs.Common.{◌≡◌, take}
use Rattle.fault_handler.proofs.requests.Requests.copy.Given as goal

abbrev pub invariant-loop-page : goal.invariant-loop-page
invariant-loop-page l = l.copy ≡ take l.page-index l.pages
