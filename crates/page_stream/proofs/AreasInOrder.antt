-- The areas of mapped pages are in order, and no other areas in order give the pages their protections.
use Rattle.std.proofs.lemmas.Bool.Decides.{nat_tests}
use Rattle.std.proofs.Common.{◌≡◌, ◌≢◌, ℕ, zero, suc, ◌+◌, ◌-◌, ◌<◌, ◌≤◌, ⊎_elim, true, false, cond, Option, Some, None, is_some, unwrap_or, List, [], ◌∷◌, ◌++◌, map, refl, sym, ap, ◌∙◌, subst, arith}
use Rattle.std.specs.Ordering.{nat_cmp}
use Rattle.std.specs.FinMap.{FinMap, get, contains_key}
use Rattle.std.proofs.lemmas.Bool.{false≢true, lt-ltb, cases_lt}
use Rattle.std.proofs.lemmas.List.{append-nil, map-append}
use Rattle.std.proofs.lemmas.Option.{none-some, same_Some}
use Rattle.mig_base.specs.declared.Area.{Area}
use Rattle.mig_base.specs.declared.Prot.{Prot}
use Rattle.mig_base.specs.declared.Prot.TheVariants.{NoAccess}
use Rattle.mig_base.specs.declared.TheConstants.{HIGH_PAGE}
use Rattle.foundation.proofs.RangeLemmas.{in_range-true, in_range-false_below, in_range-false_above, in_range_bounds}
use Rattle.mig_model.specs.Lengths.{begins_area}
use Rattle.mig_model.proofs.memory.Facts.{and_left, none_absurd}
use Rattle.mig_model.proofs.memory.IoctlLemmas.{same_prot-self}
use Rattle.page_stream.specs.Texts.{AreMappedBelow, AreAreasAfter, list_below, area_at, areas_of, prot_in}
use Rattle.page_stream.proofs.RunsAndAreas.{area_tells, area_covers, prot_in-areas_of}

-- The areas of mapped pages

-- where an area begins, the page before has another protection
before_differs : (areas : FinMap nat_cmp Prot) (prot : Prot) (next : ℕ) → 0 < next → begins_area areas next ≡ true → get areas (next - 1) ≡ Some prot → get areas next ≢ Some prot
before_differs areas prot next more begins before here =
    let positive = lt-ltb 0 next more in
    false≢true (rw (here, before, positive, same_prot-self prot) at begins)

-- an area that begins later lies after it, and has another protection where the two touch
area_behind : (areas : FinMap nat_cmp Prot) (first next : ℕ) → first < next → begins_area areas next ≡ true → (first + (area_at areas first).count ≤ next) × (first + (area_at areas first).count ≡ next → get areas next ≢ Some (area_at areas first).prot)
area_behind areas first next later begins =
    let count = (area_at areas first).count in
    let prot = (area_at areas first).prot in
    let differs : next ≤ first + count → get areas next ≢ Some prot =
    λ reaches. before_differs areas prot next (omega arith) begins (area_tells areas first (next - 1) (in_range-true first count (next - 1) (omega arith) (omega arith))) in (
      ⊎_elim
          (λ (less : next < first + count). absurd (differs (omega arith) (area_tells areas first next (in_range-true first count next (omega arith) less))))
          (λ (past : first + count ≤ next). past)
          (cases_lt next (first + count)),
      λ at. differs (omega arith),
    )

pub mapped : (o : Option Prot) → is_some o ≡ true → o ≡ Some (unwrap_or o NoAccess)
mapped (Some prot) h = refl
mapped None h = none_absurd h

area_not_empty : (areas : FinMap nat_cmp Prot) (first : ℕ) → first < HIGH_PAGE → contains_key areas first ≡ true → 0 < (area_at areas first).count
area_not_empty areas first below h =
    let there = mapped (get areas first) h in
    let covers = area_covers areas (area_at areas first).prot first first (omega arith) below (λ j l m. let at : first ≡ j = omega arith in subst (λ k. get areas k ≡ Some (area_at areas first).prot) at there) in
    let within = (in_range_bounds first (area_at areas first).count first covers).1 in
    omega (arith, within)

-- one area more, after the last
areas_push : (end : ℕ) (prot : Option Prot) (list : List Area) (last next : Area) → AreAreasAfter end prot (list ++ last ∷ []) → last.first + last.count ≤ next.first → 0 < next.count → (last.first + last.count ≡ next.first → last.prot ≢ next.prot) → AreAreasAfter end prot ((list ++ last ∷ []) ++ next ∷ [])
areas_push end prot [] last next h past some differs = (h.0, h.1, h.2, (past, some, λ at same. differs at (same_Some last.prot next.prot same), tt))
areas_push end prot (area ∷ list) last next h past some differs = (h.0, h.1, h.2, areas_push (area.first + area.count) (Some area.prot) list last next h.3 past some differs)

-- the areas that begin below a bound, which an area that begins later may follow
record AreInOrder (areas : FinMap nat_cmp Prot) (bound : ℕ) (list : List Area) : Type 0 where
  pub ordered : AreAreasAfter 0 None list
  pub more : (next : ℕ) → bound ≤ next → next < HIGH_PAGE → begins_area areas next ≡ true → AreAreasAfter 0 None (list ++ area_at areas next ∷ [])

in_order : (areas : FinMap nat_cmp Prot) (bound : ℕ) → bound ≤ HIGH_PAGE → AreInOrder areas bound (map (area_at areas) (list_below (begins_area areas) bound))
unfolding list_below
in_order areas zero high =
    record {
      ordered = tt;
      more = λ next l below begins. (omega arith, area_not_empty areas next below (and_left (contains_key areas next) _ begins), λ at same. none-some (area_at areas next).prot same, tt);
    }
in_order areas (suc bound) high =
    let before = in_order areas bound (omega arith) in
    let list = map (area_at areas) (list_below (begins_area areas) bound) in
    elim (begins_area areas bound) as (λ b. begins_area areas bound ≡ b → AreInOrder areas (suc bound) (map (area_at areas) (list_below (begins_area areas) bound ++ cond b (bound ∷ []) []))) [
      | true ↦ λ e.
          let is : map (area_at areas) (list_below (begins_area areas) bound ++ bound ∷ []) ≡ list ++ area_at areas bound ∷ [] = map-append (area_at areas) (list_below (begins_area areas) bound) (bound ∷ []) in
          let ordered = before.more bound (omega arith) (omega arith) e in
          subst (AreInOrder areas (suc bound)) (sym is) (record { ordered = ordered; more = λ next l below begins. follows areas bound next list (omega arith) below begins ordered })
      | false ↦ λ e.
          let is : map (area_at areas) (list_below (begins_area areas) bound ++ []) ≡ list = ap (map (area_at areas)) (append-nil (list_below (begins_area areas) bound)) in
          subst (AreInOrder areas (suc bound)) (sym is) (record { ordered = before.ordered; more = λ next l below begins. before.more next (omega arith) below begins })
    ] refl
  where
    follows : (areas : FinMap nat_cmp Prot) (first next : ℕ) (list : List Area) → first < next → next < HIGH_PAGE → begins_area areas next ≡ true → AreAreasAfter 0 None (list ++ area_at areas first ∷ []) → AreAreasAfter 0 None ((list ++ area_at areas first ∷ []) ++ area_at areas next ∷ [])
    follows areas first next list later below begins ordered =
        let behind = area_behind areas first next later begins in
        let here = and_left (contains_key areas next) _ begins in
        areas_push 0 None list (area_at areas first) (area_at areas next) ordered behind.0 (area_not_empty areas next below here)
        (λ at same. behind.1 at (mapped (get areas next) here ∙ ap (λ (p : Prot). Some p) (sym same)))

pub areas_of-ordered : (areas : FinMap nat_cmp Prot) → AreAreasAfter 0 None (areas_of areas)
areas_of-ordered areas = (in_order areas HIGH_PAGE (omega arith)).ordered

-- Areas in order

none_below_areas : (end : ℕ) (prot : Option Prot) (areas : List Area) (q : ℕ) → AreAreasAfter end prot areas → q < end → prot_in areas q ≡ None
none_below_areas end prot [] q h l = refl
none_below_areas end prot (area ∷ areas) q h l =
    let low = h.0 in
    rw (in_range-false_below area.first area.count q (omega (arith, low)), none_below_areas (area.first + area.count) (Some area.prot) areas q h.3 (omega (arith, low))) refl

-- the page after an area has another protection, or none
ends_there : (end : ℕ) (prot : Prot) (areas : List Area) → AreAreasAfter end (Some prot) areas → prot_in areas end ≢ Some prot
ends_there end prot [] h same = none-some prot same
ends_there end prot (area ∷ areas) h same = grind (arith, nat_tests, none_below_areas, same_Some)

prot_in_first : (area : Area) (areas : List Area) → 0 < area.count → prot_in (area ∷ areas) area.first ≡ Some area.prot
prot_in_first area areas some = rw (in_range-true area.first area.count area.first (omega arith) (omega arith)) refl

-- an area begins no earlier than one that gives each page the same protection
no_earlier : (end : ℕ) (prot : Option Prot) (x y : Area) (xs ys : List Area) → AreAreasAfter end prot (x ∷ xs) → AreAreasAfter end prot (y ∷ ys) → ((q : ℕ) → prot_in (x ∷ xs) q ≡ prot_in (y ∷ ys) q) → y.first ≤ x.first
no_earlier end prot x y xs ys hx hy same =
    ⊎_elim
    (λ (less : x.first < y.first). absurd (none-some x.prot (sym (none_below_areas y.first None (y ∷ ys) x.first (omega arith, hy.1, λ at e. none-some y.prot e, hy.3) less) ∙ sym (same x.first) ∙ prot_in_first x xs hx.1)))
    (λ (past : y.first ≤ x.first). past)
    (cases_lt x.first y.first)

-- nor does it end earlier
no_shorter : (end : ℕ) (prot : Option Prot) (x y : Area) (xs ys : List Area) → x.first ≡ y.first → x.prot ≡ y.prot → AreAreasAfter end prot (x ∷ xs) → AreAreasAfter end prot (y ∷ ys) → ((q : ℕ) → prot_in (x ∷ xs) q ≡ prot_in (y ∷ ys) q) → y.count ≤ x.count
no_shorter end prot x y xs ys at alike hx hy same =
    ⊎_elim
    (λ (less : x.count < y.count).
    let in_x : prot_in (x ∷ xs) (x.first + x.count) ≡ prot_in xs (x.first + x.count) = rw (in_range-false_above x.first x.count (x.first + x.count) (omega arith)) refl in
    let in_y : prot_in (y ∷ ys) (x.first + x.count) ≡ Some y.prot = rw (in_range-true y.first y.count (x.first + x.count) (omega (arith, at)) (omega (arith, at, less))) refl in
    absurd (ends_there (x.first + x.count) x.prot xs hx.3 (sym in_x ∙ same (x.first + x.count) ∙ in_y ∙ ap (λ (p : Prot). Some p) (sym alike))))
    (λ (past : y.count ≤ x.count). past)
    (cases_lt x.count y.count)

same_rest_by : (x : Area) (q : ℕ) (xs ys : List Area) → AreAreasAfter (x.first + x.count) (Some x.prot) xs → AreAreasAfter (x.first + x.count) (Some x.prot) ys → prot_in (x ∷ xs) q ≡ prot_in (x ∷ ys) q → prot_in xs q ≡ prot_in ys q
same_rest_by x q xs ys hx hy same = grind (arith, nat_tests, none_below_areas, in_range-false_above, cases_lt)

-- areas in order that give each page the same protection are the same
same_areas : (end : ℕ) (prot : Option Prot) (xs ys : List Area) → AreAreasAfter end prot xs → AreAreasAfter end prot ys → ((q : ℕ) → prot_in xs q ≡ prot_in ys q) → xs ≡ ys
same_areas end prot [] [] hx hy same = refl
same_areas end prot [] (y ∷ ys) hx hy same = absurd (none-some y.prot (same y.first ∙ prot_in_first y ys hy.1))
same_areas end prot (x ∷ xs) [] hx hy same = absurd (none-some x.prot (sym (same x.first) ∙ prot_in_first x xs hx.1))
same_areas end prot (x ∷ xs) (y ∷ ys) hx hy same =
    let first : x.first ≡ y.first = let a = no_earlier end prot x y xs ys hx hy same in let b = no_earlier end prot y x ys xs hy hx (λ q. sym (same q)) in omega (arith, a, b) in
    let alike : x.prot ≡ y.prot = same_Some x.prot y.prot (sym (prot_in_first x xs hx.1) ∙ same x.first ∙ ap (prot_in (y ∷ ys)) first ∙ prot_in_first y ys hy.1) in
    let count : x.count ≡ y.count = let a = no_shorter end prot x y xs ys first alike hx hy same in let b = no_shorter end prot y x ys xs (sym first) (sym alike) hy hx (λ q. sym (same q)) in omega (arith, a, b) in
    let area : x ≡ y = λ i. record { first = first i; count = count i; prot = alike i } in
    let later : AreAreasAfter (x.first + x.count) (Some x.prot) ys = subst (λ (z : Area). AreAreasAfter (z.first + z.count) (Some z.prot) ys) (sym area) hy.3 in
    let rest = same_areas (x.first + x.count) (Some x.prot) xs ys hx.3 later
    (λ q. same_rest_by x q xs ys hx.3 later (same q ∙ ap (λ (z : Area). prot_in (z ∷ ys) q) (sym area))) in
    ap (λ (z : Area). z ∷ xs) area ∙ ap (λ (zs : List Area). y ∷ zs) rest

pub areas_of-only : (areas : FinMap nat_cmp Prot) (list : List Area) → AreMappedBelow areas → AreAreasAfter 0 None list → ((q : ℕ) → prot_in list q ≡ get areas q) → list ≡ areas_of areas
areas_of-only areas list below ordered same = same_areas 0 None list (areas_of areas) ordered (areas_of-ordered areas) (λ q. same q ∙ sym (prot_in-areas_of areas below q))
