-- How many pages of a range areas have, area by area.
use Rattle.std.proofs.Common.{◌≡◌, ℕ, zero, suc, ◌+◌, ◌-◌, ◌<◌, ◌≤◌, Bool, true, false, cond, List, [], refl, sym, ap, ◌∙◌, arith, min, max, length, take, drop, get_or, length-drop, is_some}
use Rattle.std.specs.Option.{option_or}
use Rattle.std.specs.List.{All}
use Rattle.std.specs.FinMap.{FinMap, contains_key}
use Rattle.std.specs.Ordering.{nat_cmp}
use Rattle.std.proofs.lemmas.Bool.Decides.{nat_tests}
use Rattle.std.proofs.lemmas.List.{take_all}
use Rattle.std.proofs.lemmas.List.Elements.{All-weaker}
use Rattle.mig_base.specs.declared.Prot.{Prot}
use Rattle.mig_base.specs.declared.Area.{Area}
use Rattle.foundation.specs.Ranges.{in_range, count_below}
use Rattle.foundation.proofs.RangeLemmas.{count_below-same, count_below-constant, in_range_bounds}
use Rattle.foundation.proofs.TestLemmas.{is_some-cond}
use Rattle.area_map.specs.Areas.{prot_in, pages_in, AreRuns, EndsBefore, BeginsAfter}
use Rattle.area_map.proofs.AreaLemmas.{no_area, AreRuns-take, AreRuns-drop, EndsBy, ends_at, prot_in-split, prot_in-past, prot_in-before, option_or-none}
use Rattle.area_map.proofs.MoveLemmas.{IsPart, one_more}
use Rattle.area_map.proofs.ViewLemmas.{prot_at_answer}

-- how many pages of the range the areas have
abbrev pub mapped_of : List Area → ℕ → ℕ → ℕ
mapped_of areas first count = count_below (λ i. is_some (prot_in areas (first + i))) count

either : (p q : Bool) (a b : ℕ) → (p ≡ true → q ≡ false) → a + b + cond (cond p true q) 1 0 ≡ (a + cond q 1 0) + (b + cond p 1 0)
either true q a b h = rw (h refl) (omega arith)
either false true a b h = omega arith
either false false a b h = omega arith

-- of two tests that never hold at once
count_below-either : (p q : ℕ → Bool) (n : ℕ) → ((i : ℕ) → p i ≡ true → q i ≡ false) → count_below (λ i. cond (p i) true (q i)) n ≡ count_below q n + count_below p n
unfolding count_below
count_below-either p q zero h = refl
count_below-either p q (suc n) h = ap (λ m. m + cond (cond (p n) true (q n)) 1 0) (count_below-either p q n h) ∙ either (p n) (q n) (count_below q n) (count_below p n) (h n)

met : (first count from n before : ℕ) → before ≡ min (from + n) (max from (first + count)) - min (from + n) (max from first)
    → before + cond (in_range first count (from + n)) 1 0 ≡ min (from + suc n) (max from (first + count)) - min (from + suc n) (max from first)
met first count from n before h = grind (arith, nat_tests)

-- how many pages two ranges share
count_below-met : (first count from n : ℕ) → count_below (λ i. in_range first count (from + i)) n ≡ min (from + n) (max from (first + count)) - min (from + n) (max from first)
unfolding count_below
count_below-met first count from zero = omega arith
count_below-met first count from (suc n) = met first count from n (count_below (λ i. in_range first count (from + i)) n) (count_below-met first count from n)

pub mapped_of-none : (first count : ℕ) → 0 ≡ mapped_of [] first count
unfolding prot_in
mapped_of-none first count = sym (count_below-constant (λ i. is_some (prot_in [] (first + i))) false count (λ i l. refl))

-- the areas up to an index, and one more
pub mapped_of-more : (areas : List Area) (i first count mapped : ℕ) (part : Area) → AreRuns areas → i < length areas → IsPart first (first + count) (get_or areas i no_area) part
    → mapped ≡ mapped_of (take i areas) first count → mapped + part.count ≡ mapped_of (take (i + 1) areas) first count
mapped_of-more areas i first count mapped part runs below is h =
    let a = get_or areas i no_area in
    let before = take i areas in
    let begins = is.first in
    let ends = is.end in
    let shared = count_below-met a.first a.count first count in
    let all : mapped_of (take (i + 1) areas) first count ≡ count_below (λ k. cond (in_range a.first a.count (first + k)) true (is_some (prot_in before (first + k)))) count =
    count_below-same _ _ count (λ k l. ap is_some (sym (one_more areas i (first + k) runs below)) ∙ is_some-cond (in_range a.first a.count (first + k)) a.prot (prot_in before (first + k))) in
    let sum = count_below-either (λ k. in_range a.first a.count (first + k)) (λ k. is_some (prot_in before (first + k))) count
    (λ k e. ap is_some (prot_in-past before a.first (first + k) (ends_at areas i runs below) (in_range_bounds a.first a.count (first + k) e).0)) in
    omega (arith, all, sum, shared, begins, ends, h)

-- Areas that a range does not meet

-- the areas from an index on
abbrev pub from_index : List Area → ℕ → List Area
from_index areas low = take (length areas - low) (drop low areas)

pub from_index-drop : (areas : List Area) (low : ℕ) → from_index areas low ≡ drop low areas
from_index-drop areas low = take_all (length areas - low) (drop low areas) (omega (arith, length-drop low areas))

pub AreRuns-from : (areas : List Area) (low : ℕ) → AreRuns areas → AreRuns (from_index areas low)
AreRuns-from areas low runs = AreRuns-take (length areas - low) (drop low areas) (AreRuns-drop low areas runs)

pub between : (areas reaching : List Area) (low high first end q : ℕ) → reaching ≡ drop low areas → All (EndsBefore first) (take low areas) → All (BeginsAfter end) (drop high reaching) → first ≤ q → q < end → prot_in (take high reaching) q ≡ prot_in areas q
between areas reaching low high first end q is before after from until =
    let front = prot_in-past (take low areas) q q (All-weaker (EndsBefore first) (EndsBy q) (λ x h. omega arith) (take low areas) before) (omega arith) in
    let back = prot_in-before (drop high reaching) q (All-weaker (BeginsAfter end) (BeginsAfter q) (λ x h. omega arith) (drop high reaching) after) in
    sym (prot_in-split areas low q
    ∙ ap (λ o. option_or o (prot_in (drop low areas) q)) front
    ∙ ap (λ xs. prot_in xs q) (sym is)
    ∙ prot_in-split reaching high q
    ∙ ap (λ o. option_or (prot_in (take high reaching) q) o) back
    ∙ option_or-none (prot_in (take high reaching) q))

pub mapped_of-between : (areas reaching : List Area) (low high first count : ℕ) → reaching ≡ drop low areas → All (EndsBefore first) (take low areas) → All (BeginsAfter (first + count)) (drop high reaching) → mapped_of (take high reaching) first count ≡ mapped_of areas first count
mapped_of-between areas reaching low high first count is before after =
    count_below-same _ _ count (λ i l. ap is_some (between areas reaching low high first (first + count) (first + i) is before after (omega arith) (omega arith)))

-- what callers see
pub mapped_answer : (inside items : List Area) (value : FinMap nat_cmp Prot) (first count : ℕ) → items ≡ inside → pages_in inside ≡ value → mapped_of items first count ≡ count_below (λ i. contains_key value (first + i)) count
mapped_answer inside items value first count seen view =
    count_below-same _ _ count (λ i l. ap is_some (prot_at_answer inside items value (first + i) seen view))
