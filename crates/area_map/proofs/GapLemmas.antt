-- The search for a free place.
use Rattle.std.proofs.Common.{◌≡◌, ℕ, ◌+◌, ◌*◌, ◌/◌, ◌<◌, ◌≤◌, Bool, false, cond, Option, Some, None, is_some, List, [], ◌∷◌, refl, sym, ap, ◌∙◌, subst, ⊎_elim, arith, max}
use Rattle.std.specs.FinMap.{FinMap, get, contains_key}
use Rattle.std.specs.Ordering.{nat_cmp}
use Rattle.std.proofs.lemmas.Bool.{cases_lt}
use Rattle.mig_base.specs.declared.TheConstants.{LOW_PAGE, HIGH_PAGE}
use Rattle.mig_base.specs.declared.Prot.{Prot}
use Rattle.mig_base.specs.declared.Area.{Area}
use Rattle.mig_base.specs.FreePlaces.{free_place}
use Rattle.foundation.proofs.RangeLemmas.{in_range-true, in_range-false_above}
use Rattle.mig_base.proofs.FreePlaceLemmas.{IsFreeRun, free_place-is, free_place-none}
use Rattle.foundation.proofs.TestLemmas.{at_or_below, some_is_none, missing_none}
use Rattle.area_map.specs.Areas.{pages_in, prot_in, AreRuns}
use Rattle.area_map.specs.Gaps.{IsFreeRange, IsFreePage}
use Rattle.area_map.proofs.AreaLemmas.{prot_in-rest_below, prot_in-behind}
use Rattle.area_map.proofs.ViewLemmas.{get-pages_in}

-- the areas before `rest` end at or below start, and no place below start is free
pub record IsSearched (areas rest : List Area) (count start : ℕ) : Type 0 where
  pub low : LOW_PAGE ≤ start
  pub high : start ≤ HIGH_PAGE
  pub left : AreRuns rest
  pub past : (q : ℕ) → start ≤ q → prot_in areas q ≡ prot_in rest q
  pub least : (other : ℕ) → IsFreeRange areas count other → start ≤ other

pub IsSearched-none : (areas : List Area) (count : ℕ) → AreRuns areas → IsSearched areas areas count LOW_PAGE
IsSearched-none areas count h = record { low = omega arith; high = omega arith; left = h; past = λ q l. refl; least = λ other f. f.low }

taken_before : (areas rest : List Area) (a : Area) (count start other : ℕ) → 0 < count → IsSearched areas (a ∷ rest) count start → a.first < start + count → IsFreeRange areas count other → a.first + a.count ≤ other
unfolding prot_in
taken_before areas rest a count start other some h meets free =
    let above = h.least other free in
    let meets_at : (q : ℕ) → other ≤ q → q < other + count → a.first ≤ q → q < a.first + a.count → ⊥ =
    λ q l u i j. some_is_none a.prot (prot_in areas q)
    (h.past q (omega arith) ∙ ap (λ b. cond b (Some a.prot) (prot_in rest q)) (in_range-true a.first a.count q i j))
    (free.free q l u) in
    let is = h.left.0.some in
    ⊎_elim
    (λ (before : other < a.first + a.count). ⊎_elim
    (λ (inside : a.first ≤ other). absurd (meets_at other (omega arith) (omega arith) inside before))
    (λ (below : other < a.first). absurd (meets_at a.first (omega arith) (omega arith) (omega arith) (omega arith)))
    (at_or_below a.first other))
    (λ (after : a.first + a.count ≤ other). after)
    (cases_lt other (a.first + a.count))

pub IsSearched-more : (areas rest : List Area) (a : Area) (count start : ℕ) → 0 < count → IsSearched areas (a ∷ rest) count start → a.first < start + count → IsSearched areas rest count (max start (a.first + a.count))
unfolding prot_in
IsSearched-more areas rest a count start some h meets =
    let bound = h.left.0.bound in
    let low = h.low in
    let high = h.high in
    record {
      low = omega arith;
      high = omega arith;
      left = h.left.2;
      past = λ q l. h.past q (omega arith) ∙ ap (λ b. cond b (Some a.prot) (prot_in rest q)) (in_range-false_above a.first a.count q (omega arith));
      least = λ other free.
          let above = h.least other free in
          let after = taken_before areas rest a count start other some h meets free in
          omega arith;
    }

pub IsFreePage-before : (areas rest : List Area) (a : Area) (count start : ℕ) → IsSearched areas (a ∷ rest) count start → start + count ≤ a.first → IsFreePage areas count start
IsFreePage-before areas rest a count start h fits =
    let some = h.left.0.some in
    let bound = h.left.0.bound in
    record {
      range = record {
        low = h.low;
        high = omega arith;
        free = λ q l u. h.past q l ∙ prot_in-rest_below a rest q (omega arith) ∙ prot_in-behind a rest q h.left (omega arith);
      };
      least = h.least;
    }

pub IsFreePage-last : (areas : List Area) (count start : ℕ) → IsSearched areas [] count start → start + count ≤ HIGH_PAGE → IsFreePage areas count start
unfolding prot_in
IsFreePage-last areas count start h fits =
    record { range = record { low = h.low; high = fits; free = λ q l u. h.past q l }; least = h.least }

pub no_free_page : (areas : List Area) (count start : ℕ) → IsSearched areas [] count start → HIGH_PAGE < start + count → (other : ℕ) → IsFreeRange areas count other → ⊥
no_free_page areas count start h past other free =
    let above = h.least other free in
    let high = free.high in
    omega arith

-- The same by the model

has_none : (o : Option Prot) → o ≡ None → is_some o ≡ false
has_none o h = rw h refl

abbrev pub is_taken : List Area → ℕ → Bool
is_taken areas page = contains_key (pages_in areas) page

IsFreeRun-from : (areas : List Area) (count start : ℕ) → IsFreeRange areas count start → IsFreeRun (is_taken areas) count start
IsFreeRun-from areas count start h = record { low = h.low; high = h.high; free = λ q l u. has_none (get (pages_in areas) q) (get-pages_in areas q ∙ h.free q l u) }

IsFreeRange-from : (areas : List Area) (count start : ℕ) → IsFreeRun (is_taken areas) count start → IsFreeRange areas count start
IsFreeRange-from areas count start h = record { low = h.low; high = h.high; free = λ q l u. sym (get-pages_in areas q) ∙ missing_none (get (pages_in areas) q) (h.free q l u) }

pub gap-found : (areas : List Area) (len start : ℕ) → 0 < len → IsFreePage areas ((len + 4095) / 4096) start → free_place (λ addr. is_taken areas (addr / 4096)) len ≡ Some (start * 4096)
gap-found areas len start some h =
    free_place-is (is_taken areas) len start some (IsFreeRun-from areas ((len + 4095) / 4096) start h.range)
    (λ other run. h.least other (IsFreeRange-from areas ((len + 4095) / 4096) other run))

pub gap-none : (areas : List Area) (len : ℕ) → ((other : ℕ) → IsFreeRange areas ((len + 4095) / 4096) other → ⊥) → free_place (λ addr. is_taken areas (addr / 4096)) len ≡ None
gap-none areas len h = free_place-none (is_taken areas) len (λ other run. h other (IsFreeRange-from areas ((len + 4095) / 4096) other run))

pub gap_answer : (inside items : List Area) (value : FinMap nat_cmp Prot) (bytes count start : ℕ) → 0 < bytes → count ≡ (bytes + 4095) / 4096 → IsFreePage items count start → items ≡ inside → pages_in inside ≡ value → Some (start * 4096) ≡ free_place (λ addr. contains_key value (addr / 4096)) bytes
gap_answer inside items value bytes count start some pages h seen view =
    sym (gap-found items bytes start some (subst (λ n. IsFreePage items n start) pages h))
    ∙ ap (λ xs. free_place (λ addr. is_taken xs (addr / 4096)) bytes) seen
    ∙ ap (λ m. free_place (λ addr. contains_key m (addr / 4096)) bytes) view

pub no_gap_answer : (inside items : List Area) (value : FinMap nat_cmp Prot) (bytes count : ℕ) → count ≡ (bytes + 4095) / 4096 → ((other : ℕ) → IsFreeRange items count other → ⊥) → items ≡ inside → pages_in inside ≡ value → None ≡ free_place (λ addr. contains_key value (addr / 4096)) bytes
no_gap_answer inside items value bytes count pages h seen view =
    sym (gap-none items bytes (subst (λ n. (other : ℕ) → IsFreeRange items n other → ⊥) pages h))
    ∙ ap (λ xs. free_place (λ addr. is_taken xs (addr / 4096)) bytes) seen
    ∙ ap (λ m. free_place (λ addr. contains_key m (addr / 4096)) bytes) view
