use Rattle.std.proofs.Common.{◌≡◌, ◌*◌, ◌/◌, ◌≤◌, ◌<◌, ◌+◌, ℕ, true, None, get_or, length}
use Rattle.mig_base.specs.PageSets.{is_chunk}
use Rattle.mig_base.proofs.PageSetLemmas.{IsPut}
use Rattle.mig_base.proofs.chunks.put_pages.Given as goal

abbrev pub invariant-loop-at : goal.invariant-loop-at
invariant-loop-at l = record { put : IsPut l.fn.chunks.items l.chunks.items l.first l.count (1024 * l.at); size : length l.chunks.items ≡ length l.fn.chunks.items; there : (q : ℕ) → l.first ≤ q → q < l.first + l.count → is_chunk (get_or l.chunks.items (q / 1024) None) ≡ true }
