use Rattle.std.proofs.Common.{ℕ, All, Contains, ◌≡◌, ◌<◌, ◌≤◌, length, slice_index, vec_capacity}
use Rattle.pusher.proofs.entries.sorted_entries.Given as goal

abbrev pub invariant-loop-index : goal.invariant-loop-index
invariant-loop-index l = record {
  len : length l.entries.items ≡ l.index;
  room : length l.pages ≤ vec_capacity l.entries;
  right : All (λ (e : ℕ × ℕ). (e.1 < length l.pages) × (slice_index l.pages e.1 ≡ e.0)) l.entries.items;
  each : (i : ℕ) → i < l.index → Contains l.entries.items (slice_index l.pages i, i);
}
