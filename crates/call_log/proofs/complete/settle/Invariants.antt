use Rattle.std.proofs.Common.{◌≡◌, List}
use Rattle.log_entries.specs.declared.log_line.LogLine.{LogLine}
use Rattle.log_entries.specs.Readers.{HasRead}
use Rattle.call_log.proofs.complete.settle.Given as goal

abbrev pub invariant-loop-place : goal.invariant-loop-place
invariant-loop-place l = (l.entries.whole ≡ l.fn.entries.whole) × ((lines : List LogLine) → HasRead lines l.fn.entries → HasRead lines l.entries)
