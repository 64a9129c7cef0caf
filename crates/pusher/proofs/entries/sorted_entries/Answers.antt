use Rattle.std.proofs.Common.{rules, ◌<◌, ◌≡◌, ℕ, All, Contains, ◌+◌, length, slice_index, sym, subst, arith}
use Rattle.std.proofs.lemmas.List.Elements.{All-push}
use Rattle.std.proofs.lemmas.List.Sorted.{IsNonDecreasingBy-from_sort_by_key}
use Rattle.pusher.proofs.EntryLemmas.{each_push, indexed}
use Rattle.pusher.proofs.entries.sorted_entries.Goals as goal

pub loop-index-preserved : goal.loop-index-preserved
loop-index-preserved c =
    let index : ℕ = c.loop-index.index in
    let inside : index < length c.args.pages.now = search rules in
    record {
      len = search rules;
      room = search rules;
      right = subst (All (λ (e : ℕ × ℕ). (e.1 < length c.args.pages.now) × (slice_index c.args.pages.now e.1 ≡ e.0))) (sym c.push_reserved.ensures.items) (All-push (λ (e : ℕ × ℕ). (e.1 < length c.args.pages.now) × (slice_index c.args.pages.now e.1 ≡ e.0)) c.loop-index.entries.items _ c.loop-index.invariant.right (inside, search rules));
      each = subst (λ l. (i : ℕ) → i < index + 1 → Contains l (slice_index c.args.pages.now i, i)) (sym c.push_reserved.ensures.items) (each_push c.args.pages.now c.loop-index.entries.items index _ (search rules) c.loop-index.invariant.each);
    }

pub returns : goal.returns
returns c =
    indexed c.args.pages.now c.loop-index.entries.items _ c.sort_unstable_by_key.ensures.permutation c.loop-index.invariant.right (λ i l. c.loop-index.invariant.each i (omega arith))
    (IsNonDecreasingBy-from_sort_by_key (λ e. e.0) _ c.sort_unstable_by_key.ensures.sorted (λ a r q k. search rules))
