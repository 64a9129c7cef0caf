use Rattle.std.proofs.Common.{string_bytes}
use Rattle.show.proofs.OwedLines.{HavePushLines}
use Rattle.show.proofs.owed.write_pushes.Given as goal

abbrev pub invariant-loop-page : goal.invariant-loop-page
invariant-loop-page l = HavePushLines l.pages (string_bytes l.fn.text) l.page-iterator (string_bytes l.text)
