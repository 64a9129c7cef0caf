use Rattle.std.proofs.Common.{◌≡◌, ◌≤◌, ◌<◌, ◌*◌, ◌/◌, ℕ, true, None, get_or, length}
use Rattle.mig_base.specs.PageSets.{has_page, is_chunk}
use Rattle.mig_base.proofs.chunks.make_chunks.Given as goal

abbrev pub invariant-loop-at : goal.invariant-loop-at
invariant-loop-at l = record { same : (q : ℕ) → has_page l.chunks.items q ≡ has_page l.fn.chunks.items q; few : length l.chunks.items ≤ 1024; there : (q : ℕ) → l.first ≤ q → q < 1024 * l.at → is_chunk (get_or l.chunks.items (q / 1024) None) ≡ true }
