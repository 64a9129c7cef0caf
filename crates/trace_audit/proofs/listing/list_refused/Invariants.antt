use Rattle.std.proofs.Common.{◌≡◌, ◌++◌, drop}
use Rattle.trace_audit.specs.Traces.{refused_text}
use Rattle.trace_audit.proofs.listing.list_refused.Given as goal

abbrev pub invariant-loop-refused : goal.invariant-loop-refused
invariant-loop-refused l = l.output.items ++ refused_text l.name (drop l.refused-index l.wrong) ≡ refused_text l.fn.name l.fn.wrong
