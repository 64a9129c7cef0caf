use Rattle.audit.proofs.TraceEvents.{traced}
use Rattle.audit.proofs.Verdicts.{audited, audited_wrong}
use Rattle.audit.proofs.audit.audit_log.Goals as goal

pub returns-in-None-clause-audits : goal.returns-in-None-clause-audits
returns-in-None-clause-audits g c = audited_wrong _ c.args.asked _ c.in_ok-read.field-0 _ _ c.in_ok-read.ensures c.in-None.is

pub returns-clause-audits : goal.returns-clause-audits
returns-clause-audits g c = audited _ _ _ c.in_ok-read.field-0 _ _ _ _ _ _ c.in_ok-read.ensures c.in-Some.is c.in_ok-report.ensures.report (rw c.deref.ensures.value at c.in_ok-write_out.ensures.ok) (rw c.deref-2.ensures.value at c.in_ok-write_out-2.ensures.ok)

pub returns-clause-traces : goal.returns-clause-traces
returns-clause-traces g c = traced c.args.asked _ _ _ _ _ c.in_ok-report.ensures.report.fits c.in_ok-report.ensures.events (rw c.deref-3.ensures.value at c.in_ok-extend_from_slice.ensures.items)
