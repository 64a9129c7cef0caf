use Rattle.audit.proofs.TraceEvents.{one_added}
use Rattle.audit.proofs.trace_events.add_spans.Goals as goal

pub loop-span-preserved : goal.loop-span-preserved
loop-span-preserved c = one_added _ _ _ _ _ c.loop-span.invariant c.in_ok-add_event.ensures
