use Rattle.std.proofs.Common.{◌≡◌, ◌++◌, drop}
use Rattle.std.specs.Prelude.{filter_map}
use Rattle.log_entries.specs.Events.{message_in}
use Rattle.log_entries.proofs.entry_reader.messages_in.Given as goal

abbrev pub invariant-loop-one : goal.invariant-loop-one
invariant-loop-one l = l.found.items ++ filter_map message_in (drop l.one-index l.lines) ≡ filter_map message_in l.lines
