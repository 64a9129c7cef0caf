use Rattle.std.proofs.Common.{◌≡◌, length}
use Rattle.dirty_log.proofs.bytes.blank_pages.Given as goal

abbrev pub invariant-loop : goal.invariant-loop
invariant-loop l = length l.pages.items ≡ l.counter
