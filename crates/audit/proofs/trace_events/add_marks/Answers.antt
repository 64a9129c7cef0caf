use Rattle.audit.proofs.TraceEvents.{one_added}
use Rattle.audit.proofs.trace_events.add_marks.Goals as goal

pub loop-case-preserved : goal.loop-case-preserved
loop-case-preserved c = one_added _ _ _ _ _ c.loop-case.invariant c.in_ok-add_event.ensures
