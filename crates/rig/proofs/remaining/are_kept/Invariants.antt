use Rattle.std.proofs.Common.{◌≡◌, ◌<◌, ℕ, true}
use Rattle.std.specs.Prelude.{◌⊎◌, slice_index, Contains}
use Rattle.std.specs.FinSet.{contains}
use Rattle.rig.proofs.remaining.are_kept.Given as goal

abbrev pub invariant-loop-index : goal.invariant-loop-index
invariant-loop-index l = (k : ℕ) → k < l.index → (contains l.remaining (slice_index l.claims.pages k) ≡ true) ⊎ Contains l.seat.claimed k
