use Rattle.std.proofs.Common.{◌≡◌, ◌++◌, length}
use Rattle.trace_audit.specs.ShownText.{shown_said}
use Rattle.trace_audit.proofs.shown.add_words.Given as goal

abbrev pub invariant-loop-word : goal.invariant-loop-word
invariant-loop-word l = l.output.items ++ shown_said l.lines l.is_next l.rest ≡ l.fn.output.items ++ shown_said l.fn.lines l.fn.is_number l.fn.said

abbrev pub decreases-loop-word : goal.decreases-loop-word
decreases-loop-word l = length l.rest
