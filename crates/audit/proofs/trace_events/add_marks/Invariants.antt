use Rattle.audit.specs.TraceEvents.{AddsEvents}
use Rattle.audit.proofs.trace_events.add_marks.Given as goal

abbrev pub invariant-loop-case : goal.invariant-loop-case
invariant-loop-case l = AddsEvents l.case-index l.fn.output.items l.output.items
