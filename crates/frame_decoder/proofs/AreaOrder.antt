-- The areas of mapped pages are in order, and areas in order are those of their pages.
use Rattle.std.proofs.Common.{◌≡◌, ℕ, zero, suc, ◌+◌, ◌-◌, ◌<◌, ◌≤◌, ◌&&◌, ⊎_elim, Bool, true, false, cond, not, ltb, Option, Some, None, is_some, List, [], ◌∷◌, ◌++◌, map, refl, sym, ap, ◌∙◌, subst, arith}
use Rattle.std.specs.List.{All}
use Rattle.std.specs.Ordering.{nat_cmp}
use Rattle.std.specs.FinMap.{FinMap, get, contains_key}
use Rattle.std.proofs.lemmas.Bool.{false≢true, lt-ltb, ltb-true, cases_lt}
use Rattle.std.proofs.lemmas.List.{append-nil, map-append}
use Rattle.area_map.specs.Areas.{AreRuns, IsBefore, pages_in, prot_in}
use Rattle.area_map.proofs.ViewLemmas.{get-pages_in}
use Rattle.mig_base.specs.declared.Area.{Area}
use Rattle.mig_base.specs.declared.Prot.{Prot}
use Rattle.mig_base.specs.declared.TheConstants.{LOW_PAGE, HIGH_PAGE}
use Rattle.foundation.specs.Ranges.{in_range}
use Rattle.mig_base.specs.Sets.{pages_where}
use Rattle.mig_base.proofs.PageLemmas.{same_pages}
use Rattle.foundation.proofs.RangeLemmas.{in_range-true, in_range_bounds}
use Rattle.mig_base.proofs.SetLemmas.{member_below, member_run, run_length-some}
use Rattle.foundation.proofs.TestLemmas.{and_first, and_second}
use Rattle.mig_model.specs.Bounds.{IsPage}
use Rattle.mig_model.specs.Ioctls.{same_protection}
use Rattle.mig_model.specs.Lengths.{begins_area}
use Rattle.mig_model.proofs.memory.Facts.{by_test}
use Rattle.mig_model.proofs.memory.PageCalls.{same_prot_self}
use Rattle.page_stream.specs.Texts.{AreMappedBelow, list_below, area_at, areas_of}
use Rattle.page_stream.proofs.RunsAndAreas.{same_prot_tells, prot_in-areas_of}
use Rattle.frame_decoder.specs.Reading.{area_next}
use Rattle.frame_decoder.proofs.FieldLemmas.{AllFrom}
use Rattle.page_stream.proofs.AreasInOrder.{mapped as mapped_some}

-- an area that may follow
pub record AreaFits (state : ℕ × Option Prot) (area : Area) : Type 0 where
  pub from : state.0 ≤ area.first
  pub some : 0 < area.count
  pub inside : area.first + area.count ≤ HIGH_PAGE
  pub differ : area.first ≡ state.0 → state.1 ≡ Some area.prot → ⊥

abbrev pub AreasFit : ℕ × Option Prot → List Area → Type 0
AreasFit state areas = AllFrom AreaFits area_next state areas

-- Areas in order

before_all : (a : Area) (low : ℕ) (last : Option Prot) (areas : List Area) → a.first + a.count ≤ low → (a.first + a.count ≡ low → last ≡ Some a.prot) → AreasFit (low, last) areas → All (IsBefore a) areas
before_all a low last [] past touch h k d l = absurd (omega (arith, l))
before_all a low last (b ∷ areas) past touch h zero d l =
    let from = h.0.from in
    record { apart = omega (arith, past, from); differ = λ e same. h.0.differ (omega (arith, past, from, e)) (touch (omega (arith, past, from, e)) ∙ ap (λ (p : Prot). Some p) same) }
before_all a low last (b ∷ areas) past touch h (suc k) d l =
    let from = h.0.from in
    let some = h.0.some in
    before_all a (b.first + b.count) (Some b.prot) areas (omega (arith, past, from)) (λ e. absurd (omega (arith, past, from, some, e))) h.1 k d (omega (arith, l))

pub areas_runs : (state : ℕ × Option Prot) (areas : List Area) → AreasFit state areas → AreRuns areas
areas_runs state [] h = tt
areas_runs state (a ∷ areas) h = (record { some = h.0.some; bound = h.0.inside }, before_all a (a.first + a.count) (Some a.prot) areas (omega arith) (λ e. refl) h.1, areas_runs (area_next state a) areas h.1)

pub areas_inside : (state : ℕ × Option Prot) (areas : List Area) (q : ℕ) → AreasFit state areas → is_some (prot_in areas q) ≡ true → (state.0 ≤ q) × (q < HIGH_PAGE)
unfolding prot_in
areas_inside state [] q h there = absurd cc
areas_inside state (a ∷ areas) q h there =
    let from = h.0.from in
    let inside = h.0.inside in
    by_test (in_range a.first a.count q)
    (λ here. let b = in_range_bounds a.first a.count q here in let lower = b.0 in let upper = b.1 in (omega (arith, from, lower), omega (arith, inside, upper)))
    (λ out. let b = areas_inside (area_next state a) areas q h.1 (rw out at there) in let lower = b.0 in (omega (arith, from, lower), b.1))

-- Mapped pages as areas

pub map_back : (areas : FinMap nat_cmp Prot) → AreMappedBelow areas → pages_in (areas_of areas) ≡ areas
unfolding prot_in
map_back areas below = same_pages (pages_in (areas_of areas)) areas (λ q. get-pages_in (areas_of areas) q ∙ prot_in-areas_of areas below q)

abbrev alike : FinMap nat_cmp Prot → ℕ → ℕ → Bool
alike areas first page = same_protection (get areas first) (get areas page)

-- the pages of the area that begins at a page
in_area : (areas : FinMap nat_cmp Prot) (first q : ℕ) → in_range first (area_at areas first).count q ≡ true → (q < HIGH_PAGE) × (get areas first ≡ get areas q)
in_area areas first q h =
    let there = sym (member_below (alike areas first) HIGH_PAGE q) ∙ member_run (pages_where (alike areas first)) first HIGH_PAGE q h in
    (ltb-true q HIGH_PAGE (and_first (ltb q HIGH_PAGE) (alike areas first q) there), (same_prot_tells (get areas first) (get areas q) (and_second (ltb q HIGH_PAGE) (alike areas first q) there)).0)

area_some : (areas : FinMap nat_cmp Prot) (first : ℕ) → AreMappedBelow areas → contains_key areas first ≡ true → 0 < (area_at areas first).count
area_some areas first below h =
    let inside : ltb first HIGH_PAGE ≡ true = lt-ltb first HIGH_PAGE (below first h) in
    run_length-some (pages_where (alike areas first)) first HIGH_PAGE (member_below (alike areas first) HIGH_PAGE first ∙ rw (inside, same_prot_self (get areas first) h) refl) (omega arith)

area_inside : (areas : FinMap nat_cmp Prot) (first : ℕ) → 0 < (area_at areas first).count → first + (area_at areas first).count ≤ HIGH_PAGE
area_inside areas first some =
    let count = (area_at areas first).count in
    let last = (in_area areas first (first + count - 1) (in_range-true first count (first + count - 1) (omega (arith, some)) (omega (arith, some)))).0 in
    omega (arith, some, last)

-- no area begins at a page that continues as the page before
goes_on : (areas : FinMap nat_cmp Prot) (first next : ℕ) → first < next → get areas first ≡ get areas (next - 1) → get areas first ≡ get areas next → begins_area areas next ≡ true → ⊥
goes_on areas first next past before here begins =
    let positive : ltb 0 next ≡ true = lt-ltb 0 next (omega (arith, past)) in
    let same : same_protection (get areas next) (get areas (next - 1)) ≡ true = ap (λ o. same_protection (get areas next) o) (sym before ∙ here) ∙ same_prot_self (get areas next) (and_first (contains_key areas next) _ begins) in
    let no = and_second (contains_key areas next) (not (ltb 0 next && same_protection (get areas next) (get areas (next - 1)))) begins in
    false≢true (rw (positive, same) at no)

-- after the last area, and not one with it
record BeginsBehind (areas : FinMap nat_cmp Prot) (state : ℕ × Option Prot) (next : ℕ) : Type 0 where
  pub past : state.0 ≤ next
  pub differ : next ≡ state.0 → state.1 ≡ get areas next → ⊥

area_behind : (areas : FinMap nat_cmp Prot) (first next : ℕ) → contains_key areas first ≡ true → 0 < (area_at areas first).count → first < next → begins_area areas next ≡ true → BeginsBehind areas (first + (area_at areas first).count, Some (area_at areas first).prot) next
area_behind areas first next mapped some past begins =
    let count = (area_at areas first).count in
    let before : next ≤ first + count → get areas first ≡ get areas (next - 1) = λ l. (in_area areas first (next - 1) (in_range-true first count (next - 1) (omega (arith, past)) (omega (arith, past, l)))).1 in
    record {
      past = ⊎_elim
          (λ (less : next < first + count). absurd (goes_on areas first next past (before (omega (arith, less))) (in_area areas first next (in_range-true first count next (omega (arith, past)) less)).1 begins))
          (λ (le : first + count ≤ next). le)
          (cases_lt next (first + count));
      differ = λ e same. goes_on areas first next past (before (omega (arith, e))) (mapped_some (get areas first) mapped ∙ same) begins;
    }

abbrev end_of : ℕ × Option Prot → List Area → ℕ × Option Prot
end_of state [] = state
end_of state (a ∷ areas) = end_of (area_next state a) areas

areas_push : (state : ℕ × Option Prot) (areas : List Area) (a : Area) → AreasFit state areas → AreaFits (end_of state areas) a → AreasFit state (areas ++ a ∷ [])
areas_push state [] a h one = (one, tt)
areas_push state (b ∷ areas) a h one = (h.0, areas_push (area_next state b) areas a h.1 one)

end_push : (state : ℕ × Option Prot) (areas : List Area) (a : Area) → end_of state (areas ++ a ∷ []) ≡ (a.first + a.count, Some a.prot)
end_push state [] a = refl
end_push state (b ∷ areas) a = end_push (area_next state b) areas a

abbrev start : ℕ × Option Prot
start = (0, None)

-- the areas that begin below a bound, and where they end
record AreInOrder (areas : FinMap nat_cmp Prot) (bound : ℕ) (list : List Area) : Type 0 where
  pub ordered : AreasFit start list
  pub apart : (next : ℕ) → bound ≤ next → begins_area areas next ≡ true → BeginsBehind areas (end_of start list) next

order_more : (areas : FinMap nat_cmp Prot) (bound : ℕ) (list : List Area) → AreMappedBelow areas → begins_area areas bound ≡ true → AreInOrder areas bound list → AreInOrder areas (suc bound) (list ++ area_at areas bound ∷ [])
order_more areas bound list below begins before =
    let mapped = and_first (contains_key areas bound) _ begins in
    let some = area_some areas bound below mapped in
    let behind = before.apart bound (omega arith) begins in
    record {
      ordered = areas_push start list (area_at areas bound) before.ordered (record { from = behind.past; some = some; inside = area_inside areas bound some; differ = λ e same. behind.differ e (same ∙ sym (mapped_some (get areas bound) mapped)) });
      apart = λ next l b. subst (λ state. BeginsBehind areas state next) (sym (end_push start list (area_at areas bound))) (area_behind areas bound next mapped some (omega (arith, l)) b);
    }

in_order : (areas : FinMap nat_cmp Prot) (bound : ℕ) → AreMappedBelow areas → AreInOrder areas bound (map (area_at areas) (list_below (begins_area areas) bound))
unfolding list_below
in_order areas zero below = record { ordered = tt; apart = λ next l b. record { past = omega arith; differ = λ e same. none_mapped (get areas next) (and_first (contains_key areas next) _ b) same } }
  where
    none_mapped : (o : Option Prot) → is_some o ≡ true → None ≡ o → ⊥
    none_mapped (Some prot) h e = cc
    none_mapped None h e = cc
in_order areas (suc bound) below =
    let before = in_order areas bound below in
    let list = map (area_at areas) (list_below (begins_area areas) bound) in
    elim (begins_area areas bound) as (λ b. begins_area areas bound ≡ b → AreInOrder areas (suc bound) (map (area_at areas) (list_below (begins_area areas) bound ++ cond b (bound ∷ []) []))) [
      | true ↦ λ e. subst (AreInOrder areas (suc bound)) (sym (map-append (area_at areas) (list_below (begins_area areas) bound) (bound ∷ []))) (order_more areas bound list below e before)
      | false ↦ λ e.
          subst (AreInOrder areas (suc bound)) (sym (ap (map (area_at areas)) (append-nil (list_below (begins_area areas) bound)))) (record { ordered = before.ordered; apart = λ next l b. before.apart next (omega (arith, l)) b })
    ] refl

areas_higher : (areas : List Area) → AreasFit start areas → ((q : ℕ) → is_some (prot_in areas q) ≡ true → IsPage q) → AreasFit (LOW_PAGE, None) areas
unfolding prot_in
areas_higher [] h pages = tt
areas_higher (a ∷ areas) h pages =
    let some = h.0.some in
    let first_in : in_range a.first a.count a.first ≡ true = in_range-true a.first a.count a.first (omega arith) (omega (arith, some)) in
    (record { from = (pages a.first (rw first_in refl)).0; some = some; inside = h.0.inside; differ = λ e same. cc }, h.1)

pub map_fits : (areas : FinMap nat_cmp Prot) → AreMappedBelow areas → ((page : ℕ) → contains_key areas page ≡ true → IsPage page) → AreasFit (LOW_PAGE, None) (areas_of areas)
unfolding prot_in
map_fits areas below pages =
    areas_higher (areas_of areas) (in_order areas HIGH_PAGE below).ordered (λ q there. pages q (sym (ap (λ (o : Option Prot). is_some o) (prot_in-areas_of areas below q)) ∙ there))
