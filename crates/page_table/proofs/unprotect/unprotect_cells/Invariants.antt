use Rattle.std.proofs.Common.{◌≡◌, ◌*◌, length}
use Rattle.page_table.proofs.OpenedLemmas.{IsOpened}
use Rattle.page_table.proofs.unprotect.unprotect_cells.Given as goal

abbrev pub invariant-loop-at : goal.invariant-loop-at
invariant-loop-at l = record { opened : IsOpened l.fn.places.items l.places.items l.first l.count (1024 * l.at); size : length l.places.items ≡ length l.fn.places.items }
