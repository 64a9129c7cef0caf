use Rattle.std.proofs.Common.{rules}
use Rattle.audit.proofs.Verdicts.{prints_more, prints_all}
use Rattle.audit.proofs.audit.print_findings.Goals as goal

pub loop-finding-init : goal.loop-finding-init
loop-finding-init c = search rules

pub loop-finding-preserved : goal.loop-finding-preserved
loop-finding-preserved c =
    prints_more _ _ _ _ _ _ _ _ c.loop-finding-test.true c.loop-finding.invariant (rw c.finding-item.is at c.in_ok-print_finding.ensures) (rw c.deref.ensures.value at c.in_ok-extend_from_slice.ensures.items)

pub returns : goal.returns
returns c = prints_all _ _ _ _ _ c.loop-finding.invariant c.loop-finding-test.false
