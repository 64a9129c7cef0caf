use Rattle.std.proofs.Common.{take}
use Rattle.audit.specs.Verdicts.{Prints}
use Rattle.audit.proofs.audit.print_findings.Given as goal

abbrev pub invariant-loop-finding : goal.invariant-loop-finding
invariant-loop-finding l = Prints l.asked l.name (take l.finding-index l.found) l.output.items
