use Rattle.std.proofs.Common.{◌≡◌, drop}
use Rattle.audit.specs.Severities.{any_fails}
use Rattle.audit.proofs.audit.any_fails.Given as goal

abbrev pub invariant-loop-finding : goal.invariant-loop-finding
invariant-loop-finding l = any_fails l.asked (drop l.finding-index l.found) ≡ any_fails l.asked l.found
