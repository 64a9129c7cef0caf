use Rattle.audit.specs.TraceEvents.{AddsEvents}
use Rattle.audit.proofs.trace_events.add_spans.Given as goal

abbrev pub invariant-loop-span : goal.invariant-loop-span
invariant-loop-span l = AddsEvents l.span-index l.fn.output.items l.output.items
