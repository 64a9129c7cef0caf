use Rattle.std.proofs.Common.{string_bytes}
use Rattle.show.proofs.OwedLines.{HaveOwedLines}
use Rattle.show.proofs.owed.write_pages.Given as goal

abbrev pub invariant-loop-origin : goal.invariant-loop-origin
invariant-loop-origin l = HaveOwedLines l.world l.pages (string_bytes l.fn.text) l.origin-iterator (string_bytes l.text)
