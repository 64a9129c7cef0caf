use Rattle.std.proofs.Common.{◌≡◌, ◌+◌, drop}
use Rattle.mig_model.specs.Lengths.{commands_len}
use Rattle.page_stream.proofs.lengths.commands_len.Given as goal

abbrev pub invariant-loop-command : goal.invariant-loop-command
invariant-loop-command l = l.len + commands_len (drop l.command-index l.commands) ≡ commands_len l.commands
