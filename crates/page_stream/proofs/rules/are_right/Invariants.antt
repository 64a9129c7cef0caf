use Rattle.std.proofs.Common.{ℕ, ◌<◌, get_or, None}
use Rattle.page_stream.specs.Rules.{IsProperWait}
use Rattle.page_stream.proofs.rules.are_right.Given as goal

abbrev pub invariant-loop-command : goal.invariant-loop-command
invariant-loop-command l = (k : ℕ) → k < l.command-index → IsProperWait (get_or l.commands k None)
