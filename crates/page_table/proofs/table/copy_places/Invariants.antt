use Rattle.std.proofs.Common.{◌≡◌, length}
use Rattle.page_table.proofs.TableLemmas.{IsCopied}
use Rattle.page_table.proofs.table.copy_places.Given as goal

abbrev pub invariant-loop-at : goal.invariant-loop-at
invariant-loop-at l = record { size : length l.copies.items ≡ l.at; same : IsCopied l.places.items l.copies.items l.at }
