-- The areas that a map keeps are those of its text.
use Rattle.std.proofs.Common.{◌≡◌, ℕ, suc, ◌+◌, ◌-◌, ◌<◌, ◌≤◌, ◌&&◌, Bool, true, false, ltb, Option, Some, unwrap_or, List, [], ◌∷◌, length, map, refl, sym, ap, ◌∙◌, arith}
use Rattle.std.specs.Ordering.{nat_cmp}
use Rattle.std.specs.List.{All, AllByRecursion}
use Rattle.std.specs.FinMap.{FinMap, get}
use Rattle.std.specs.FinSet.{contains}
use Rattle.std.proofs.lemmas.Bool.{false_from_ne_true, lt-ltb}
use Rattle.area_map.specs.Areas.{AreRuns, IsBefore, pages_in, prot_in}
use Rattle.area_map.proofs.AreaLemmas.{prot_in-behind, prot_in-first, prot_in-rest_above}
use Rattle.area_map.proofs.OneProtLemmas.{ends_there}
use Rattle.area_map.proofs.ViewLemmas.{get-pages_in}
use Rattle.mig_base.specs.declared.Area.{Area}
use Rattle.mig_base.specs.declared.Prot.{Prot}
use Rattle.mig_base.specs.declared.Prot.TheVariants.{NoAccess}
use Rattle.mig_base.specs.declared.TheConstants.{HIGH_PAGE}
use Rattle.mig_base.specs.Sets.{pages_where, run_length}
use Rattle.foundation.proofs.RangeLemmas.{count_below-few}
use Rattle.mig_base.proofs.SetLemmas.{member_below}
use Rattle.foundation.proofs.TestLemmas.{and_false}
use Rattle.mig_model.specs.Ioctls.{same_protection}
use Rattle.mig_model.proofs.memory.IoctlLemmas.{same_prot-self}
use Rattle.mig_model.specs.Lengths.{area_count, begins_area}
use Rattle.page_stream.specs.Texts.{area_at, areas_of, list_below}
use Rattle.page_stream.proofs.OneArea.{none_listed}
use Rattle.page_stream.proofs.RunsAndAreas.{same_prot_tells}
use Rattle.page_stream.proofs.FirstLemmas.{list_below-cons, list_below-same, run_length-is}
use Rattle.page_stream.proofs.LengthLemmas.{areas_counted, begins_by, begins_by-same, begins_more, no_prot, nothing_begins}

-- Where areas begin

firsts_listed : (areas : List Area) → AreRuns areas → list_below (begins_by (prot_in areas)) HIGH_PAGE ≡ map (λ (area : Area). area.first) areas
firsts_listed [] runs = none_listed (begins_by (prot_in [])) HIGH_PAGE (λ q l. nothing_begins (prot_in []) q (no_prot q))
firsts_listed (a ∷ rest) runs =
    let some = runs.0.some in
    let bound = runs.0.bound in
    list_below-cons (begins_by (prot_in (a ∷ rest))) (begins_by (prot_in rest)) a.first HIGH_PAGE (λ q. begins_more a rest q runs) (λ q l. nothing_begins (prot_in rest) q (prot_in-behind a rest q runs (omega (arith, some)))) (omega (arith, some, bound))
    ∙ ap (λ (list : List ℕ). a.first ∷ list) (firsts_listed rest runs.2)

-- Each area

-- the pages of the area have its protection, and the next page does not
record IsAreaOf (prots : ℕ → Option Prot) (a : Area) : Type 0 where
  pub some : 0 < a.count
  pub high : a.first + a.count ≤ HIGH_PAGE
  pub within : (q : ℕ) → a.first ≤ q → q < a.first + a.count → prots q ≡ Some a.prot
  pub ends : prots (a.first + a.count) ≡ Some a.prot → ⊥

-- areas that begin past a page look only at pages from there on
each_above : (prots others : ℕ → Option Prot) (a : Area) (areas : List Area) → ((q : ℕ) → a.first + a.count ≤ q → others q ≡ prots q) → All (IsBefore a) areas → AllByRecursion (IsAreaOf prots) areas → AllByRecursion (IsAreaOf others) areas
each_above prots others a [] same above are = tt
each_above prots others a (b ∷ areas) same above are =
    let apart = (above 0 b (omega arith)).apart in (
      record {
        some = are.0.some;
        high = are.0.high;
        within = λ q l m. same q (omega (arith, apart, l)) ∙ are.0.within q l m;
        ends = λ e. are.0.ends (sym (same (b.first + b.count) (omega (arith, apart))) ∙ e);
      },
      each_above prots others a areas same (λ k d l. above (suc k) d (omega arith)) are.1,
    )

each_area : (areas : List Area) → AreRuns areas → AllByRecursion (IsAreaOf (prot_in areas)) areas
each_area [] runs = tt
each_area (a ∷ rest) runs = (
  record {
    some = runs.0.some;
    high = runs.0.bound;
    within = λ q l m. prot_in-first a rest q l m;
    ends = λ e. ends_there a rest runs (sym (prot_in-rest_above a rest (a.first + a.count) (omega arith)) ∙ e);
  },
  each_above (prot_in rest) (prot_in (a ∷ rest)) a rest (λ q l. prot_in-rest_above a rest q l) runs.1 (each_area rest runs.2),
)

each_same : (prots others : ℕ → Option Prot) (areas : List Area) → ((q : ℕ) → others q ≡ prots q) → AllByRecursion (IsAreaOf prots) areas → AllByRecursion (IsAreaOf others) areas
each_same prots others [] same are = tt
each_same prots others (a ∷ areas) same are = (
  record {
    some = are.0.some;
    high = are.0.high;
    within = λ q l m. same q ∙ are.0.within q l m;
    ends = λ e. are.0.ends (sym (same (a.first + a.count)) ∙ e);
  },
  each_same prots others areas same are.1,
)

area_is : (value : FinMap nat_cmp Prot) (a : Area) → IsAreaOf (λ q. get value q) a → area_at value a.first ≡ a
area_is value a is =
    let some = is.some in
    let high = is.high in
    let alike : ℕ → Bool = λ page. same_protection (get value a.first) (get value page) in
    let here = is.within a.first (omega arith) (omega (arith, some)) in
    let inside : (q : ℕ) → a.first ≤ q → q < a.first + a.count → contains (pages_where alike) q ≡ true =
    λ q l m. let below : ltb q HIGH_PAGE ≡ true = lt-ltb q HIGH_PAGE (omega (arith, m, high)) in let there = is.within q l m in member_below alike HIGH_PAGE q ∙ rw (below, here, there) (same_prot-self a.prot) in
    let end = a.first + a.count in
    let other : alike end ≡ false = false_from_ne_true (alike end) (λ e. is.ends (sym (same_prot_tells (get value a.first) (get value end) e).0 ∙ here)) in
    let out : contains (pages_where alike) end ≡ false = member_below alike HIGH_PAGE end ∙ ap (λ b. ltb end HIGH_PAGE && b) other ∙ and_false (ltb end HIGH_PAGE) in
    let count_is : run_length (pages_where alike) a.first HIGH_PAGE ≡ a.count = run_length-is (pages_where alike) a.first HIGH_PAGE a.count (omega (arith, high)) inside out in
    let prot_is : unwrap_or (get value a.first) NoAccess ≡ a.prot = rw here refl in
    λ i. record { first = a.first; count = count_is i; prot = prot_is i }

areas_at : (value : FinMap nat_cmp Prot) (areas : List Area) → AllByRecursion (IsAreaOf (λ q. get value q)) areas → map (area_at value) (map (λ (area : Area). area.first) areas) ≡ areas
areas_at value [] are = refl
areas_at value (a ∷ areas) are =
    ap (λ (b : Area). b ∷ map (area_at value) (map (λ (area : Area). area.first) areas)) (area_is value a are.0) ∙ ap (λ (bs : List Area). a ∷ bs) (areas_at value areas are.1)

-- maximal runs of one protection are the areas of their pages
pub areas_are : (areas : List Area) (value : FinMap nat_cmp Prot) → AreRuns areas → pages_in areas ≡ value → areas ≡ areas_of value
areas_are areas value runs is =
    let prots : (q : ℕ) → get value q ≡ prot_in areas q = λ q. ap (λ m. get m q) (sym is) ∙ get-pages_in areas q in
    let listed : list_below (begins_area value) HIGH_PAGE ≡ map (λ (area : Area). area.first) areas =
    list_below-same (begins_area value) (begins_by (prot_in areas)) HIGH_PAGE (λ q l. begins_by-same (λ p. get value p) (prot_in areas) q (prots q) (prots (q - 1))) ∙ firsts_listed areas runs in
    sym (ap (map (area_at value)) listed ∙ areas_at value areas (each_same (prot_in areas) (λ q. get value q) areas prots (each_area areas runs)))

pub few_areas : (areas : List Area) (value : FinMap nat_cmp Prot) → AreRuns areas → pages_in areas ≡ value → length areas ≤ HIGH_PAGE
unfolding area_count
few_areas areas value runs is = let counted = areas_counted areas value runs is in omega (arith, counted, count_below-few (begins_area value) HIGH_PAGE)
