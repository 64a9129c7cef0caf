use Rattle.std.proofs.Common.{◌≡◌, ◌++◌, length}
use Rattle.trace_audit.specs.ShownText.{shown_text}
use Rattle.trace_audit.proofs.shown.show.Given as goal

abbrev pub invariant-loop-line : goal.invariant-loop-line
invariant-loop-line l = l.output.items ++ shown_text l.name l.lines l.rest ≡ shown_text l.fn.name l.fn.lines l.fn.said

abbrev pub decreases-loop-line : goal.decreases-loop-line
decreases-loop-line l = length l.rest
