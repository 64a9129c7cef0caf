use Rattle.std.proofs.Common.{◌≡◌, drop}
use Rattle.log_entries.specs.Readers.{own}
use Rattle.log_entries.proofs.entry_reader.has_line.Given as goal

abbrev pub invariant-loop-one : goal.invariant-loop-one
invariant-loop-one l = own l.pid l.call (drop l.one-index l.kept) ≡ own l.pid l.call l.kept
