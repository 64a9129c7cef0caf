use Rattle.std.proofs.Common.{◌≡◌, ◌++◌, drop}
use Rattle.std.specs.Prelude.{filter_map}
use Rattle.log_entries.specs.Events.{run_in}
use Rattle.log_entries.proofs.entry_reader.runs_in.Given as goal

abbrev pub invariant-loop-one : goal.invariant-loop-one
invariant-loop-one l = l.found.items ++ filter_map run_in (drop l.one-index l.lines) ≡ filter_map run_in l.lines
