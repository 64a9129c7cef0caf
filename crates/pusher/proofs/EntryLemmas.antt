-- The sorted entries of a list of pages, and what a search among them finds.
use Rattle.std.proofs.Common.{◌≡◌, ℕ, ◌+◌, ◌-◌, ◌<◌, ◌≤◌, List, Option, Some, None, IfNone, [], ◌∷◌, ◌++◌, length, get_or, sym, ap, ◌∙◌, subst, arith, pos_of_ne-zero}
use mathlib.Core.Logic.{dite}
use native.Mathlib.Decide.{ℕ_discrete}
use Rattle.std.specs.Prelude.{All, Contains, IsPermutation, slice_index}
use Rattle.std.specs.List.Sorted.{IsNonDecreasingBy, IsPartitionPoint}
use Rattle.std.specs.Ordering.{nat_cmp, ordering_index}
use Rattle.std.proofs.Common.{Equal, Less, Greater}
use Rattle.std.proofs.lemmas.Cmp.{ranked}
use Rattle.std.proofs.lemmas.Bool.Decides.{nat_tests}
use Rattle.std.proofs.lemmas.List.{get_or_default}
use Rattle.std.proofs.lemmas.List.Elements.{Contains-push, Contains-append_left}
use Rattle.std.proofs.lemmas.List.Sorted.{All-permutation, Contains-permutation}
use Rattle.pusher.specs.Entries.{IsIndexed}

-- one more page has its entry
pub each_push : (pages : List ℕ) (entries : List (ℕ × ℕ)) (n : ℕ) (page : ℕ) → page ≡ slice_index pages n → ((i : ℕ) → i < n → Contains entries (slice_index pages i, i)) → (i : ℕ) → i < n + 1 → Contains (entries ++ (page, n) ∷ []) (slice_index pages i, i)
each_push pages entries n page is old i l = dite (ℕ_discrete i n)
    (λ e. subst (Contains (entries ++ (page, n) ∷ [])) (λ k. ((is ∙ ap (slice_index pages) (sym e)) k, sym e k)) (Contains-push entries (page, n)))
    (λ ne. Contains-append_left entries ((page, n) ∷ []) (slice_index pages i, i) (old i (omega arith)))

module _ (entries : List (ℕ × ℕ)) (page : ℕ) where
  -- the comparisons with the page rise along the list, as a binary search asks
  pub comparisons_rise : IsNonDecreasingBy (λ (e : ℕ × ℕ). e.0) entries → IsNonDecreasingBy (λ (e : ℕ × ℕ). ordering_index (nat_cmp e.0 page)) entries
  comparisons_rise rise i j d le inside = let up : (get_or entries i d).0 ≤ (get_or entries j d).0 = rise i j d le inside in grind (arith, nat_tests)

  pub found : (place : ℕ) (e : ℕ × ℕ) → place < length entries → ((d : ℕ × ℕ) → nat_cmp (get_or entries place d).0 page ≡ Equal) → e ≡ get_or entries place e → Contains entries (page, e.1)
  found place e inside equal at =
      let same : e.0 ≡ page = ap (λ (x : ℕ × ℕ). x.0) at ∙ ranked _ page _ (sym (equal e)) in
      subst (Contains entries) (λ k. (same k, e.1)) (place, inside, sym at)

  pub missed : (gap : ℕ) → IsNonDecreasingBy (λ (e : ℕ × ℕ). e.0) entries
      → (IsNonDecreasingBy (λ (e : ℕ × ℕ). ordering_index (nat_cmp e.0 page)) entries → IsPartitionPoint (λ (e : ℕ × ℕ). nat_cmp e.0 page ≡ Less) (λ (e : ℕ × ℕ). nat_cmp e.0 page ≡ Greater) entries gap)
      → (index : ℕ) → Contains entries (page, index) → ⊥
  missed gap rise parted index (k, inside, is) =
      let point = parted (comparisons_rise rise) in let same : (get_or entries k (page, index)).0 ≡ page = ap (λ (e : ℕ × ℕ). e.0) is in
      dite (ℕ_discrete (k + 1 - gap) 0)
      (λ z. let below : (get_or entries k (page, index)).0 < page = ranked _ page _ (sym (point.0 k (page, index) (omega arith) (omega (arith, z)))) in omega arith)
      (λ n. let above : page < (get_or entries k (page, index)).0 = ranked _ page _ (sym (point.1 k (page, index) (omega (arith, pos_of_ne-zero n)) inside)) in omega arith)

-- the entries in another order
pub indexed : (pages : List ℕ) (entries sorted : List (ℕ × ℕ)) → IsPermutation entries sorted → All (λ (e : ℕ × ℕ). (e.1 < length pages) × (slice_index pages e.1 ≡ e.0)) entries → ((i : ℕ) → i < length pages → Contains entries (slice_index pages i, i))
    → IsNonDecreasingBy (λ (e : ℕ × ℕ). e.0) sorted → IsIndexed pages sorted
indexed pages entries sorted moved right each rise = record {
  right = All-permutation (λ (e : ℕ × ℕ). (e.1 < length pages) × (slice_index pages e.1 ≡ e.0)) entries sorted moved right;
  each = λ i l. Contains-permutation entries sorted _ moved (each i l);
  rise = rise;
}

-- an entry that is found is that of its index
pub entry_is : (pages : List ℕ) (entries : List (ℕ × ℕ)) → IsIndexed pages entries → (page index : ℕ) → Contains entries (page, index) → (index < length pages) × (slice_index pages index ≡ page)
entry_is pages entries h page index (k, inside, is) =
    subst (λ (e : ℕ × ℕ). (e.1 < length pages) × (slice_index pages e.1 ≡ e.0)) is (h.right k (page, index) inside)

-- where no entry has the page, it is not in the list
pub no_entry : (pages : List ℕ) (entries : List (ℕ × ℕ)) → IsIndexed pages entries → (page : ℕ) → ((index : ℕ) → Contains entries (page, index) → ⊥) → Contains pages page → ⊥
no_entry pages entries h page none (i, inside, is) =
    none i (subst (λ p. Contains entries (p, i)) (get_or_default pages i 0 page inside ∙ is) (h.each i inside))

pub none_found : (pages : List ℕ) (entries : List (ℕ × ℕ)) → IsIndexed pages entries → (page : ℕ) (r : Option ℕ) → IfNone r ((index : ℕ) → Contains entries (page, index) → ⊥) → IfNone r (Contains pages page → ⊥)
none_found pages entries h page None none = no_entry pages entries h page none
none_found pages entries h page (Some index) none = tt
