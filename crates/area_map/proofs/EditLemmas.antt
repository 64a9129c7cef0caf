-- The list once an edit is made: it has runs, and the protection in the range.
use Rattle.std.proofs.Common.{◌≡◌, ℕ, ◌+◌, ◌-◌, ◌<◌, ◌≤◌, false, cond, Option, Some, None, List, ◌++◌, refl, sym, ap, ◌∙◌, subst, ⊎_elim, arith, length, take, drop, append_assoc, get_or, get_or-take, length-take}
use Rattle.std.specs.Option.{option_or, option_to_list}
use Rattle.std.specs.List.{All}
use Rattle.std.proofs.lemmas.Bool.Decides.{nat_tests}
use Rattle.std.proofs.lemmas.List.Elements.{All-cons, All-weaker}
use Rattle.mig_base.specs.declared.TheConstants.{HIGH_PAGE}
use Rattle.mig_base.specs.declared.Prot.{Prot}
use Rattle.mig_base.specs.declared.Area.{Area}
use Rattle.foundation.specs.Ranges.{in_range}
use Rattle.foundation.proofs.RangeLemmas.{in_range-false_below}
use Rattle.foundation.proofs.TestLemmas.{at_or_below}
use Rattle.area_map.specs.declared.edit.Side.{Side}
use Rattle.area_map.specs.Areas.{prot_in, IsBefore, AreRuns, EndsBefore, BeginsAfter}
use Rattle.area_map.specs.Edits.{StandsBelow, StandsAbove, kept_below, kept_above, IsBelow, IsAbove, edited, IsEdit}
use Rattle.area_map.proofs.AreaLemmas.{no_area, EndsBy, AreRuns-append, prot_in-append, prot_in-past, prot_in-before, All-drop_at, option_or-none}

-- Indices

-- an area that ends before the range and begins after it
crossed : (areas : List Area) (low high first end : ℕ) → low ≤ length areas → first ≤ end → All (EndsBefore first) (take low areas) → All (BeginsAfter end) (drop high areas) → high < low → ⊥
crossed areas low high first end within order front back wrong =
    let behind : BeginsAfter end (get_or areas high no_area) = All-drop_at (BeginsAfter end) areas high (omega arith) back in
    let before : EndsBefore first (get_or areas high no_area) = subst (EndsBefore first) (get_or-take low areas high no_area wrong) (front high no_area (omega (arith, length-take low areas))) in
    omega arith

-- the areas that end before a page stand before those that begin after it
pub in_order : (areas : List Area) (low high first end : ℕ) → low ≤ length areas → first ≤ end → All (EndsBefore first) (take low areas) → All (BeginsAfter end) (drop high areas) → low ≤ high
in_order areas low high first end within order front back =
    ⊎_elim
    (λ (right : low ≤ high). right)
    (λ (wrong : high < low). absurd (crossed areas low high first end within order front back wrong))
    (at_or_below low high)

-- The area of the range

-- the area that stands from one page to another, if the range has a protection
abbrev pub middle_of : ℕ → ℕ → Option Prot → Option Area
middle_of start end None = None
middle_of start end (Some prot) = Some (record { first = start; count = end - start; prot = prot })

range_none : (start end q : ℕ) (o : Option Prot) → start ≤ end → (q < end → o ≡ None) → o ≡ cond (in_range start (end - start) q) None o
range_none start end q o order none = grind (arith, nat_tests)

after_middle : (start end : ℕ) (prot : Prot) (x : Area) → StandsAbove end (Some prot) x → start < end → IsBefore (record { first = start; count = end - start; prot = prot }) x
after_middle start end prot x s some =
    let apart = s.apart in
    record { apart = omega arith; differ = λ e same. s.differ (omega arith) (ap Some (sym same)) }

-- what stands below a range stands before what stands above it
across : (start end : ℕ) (prot : Option Prot) (x y : Area) → StandsBelow start prot x → StandsAbove end prot y → start < end → IsBefore x y
across start end prot x y below above some =
    let low = below.apart in
    let high = above.apart in
    record { apart = omega arith; differ = λ e. absurd (omega arith) }

-- the areas above the range, with that of the range before them
with_middle : (start end : ℕ) (above : List Area) (prot : Option Prot) (q : ℕ) → (q < end → prot_in above q ≡ None) → start ≤ end → prot_in (option_to_list (middle_of start end prot) ++ above) q ≡ cond (in_range start (end - start) q) prot (prot_in above q)
unfolding prot_in
with_middle start end above None q none order = range_none start end q (prot_in above q) order none
with_middle start end above (Some prot) q none order = refl

runs_middle : (start end : ℕ) (above : List Area) (prot : Option Prot) → start < end → end ≤ HIGH_PAGE → AreRuns above → All (StandsAbove end prot) above → AreRuns (option_to_list (middle_of start end prot) ++ above)
runs_middle start end above None some bound runs apart = runs
runs_middle start end above (Some prot) some bound runs apart =
    let m : Area = record { first = start; count = end - start; prot = prot } in
    (record { some = omega arith; bound = omega arith }, All-weaker (StandsAbove end (Some prot)) (IsBefore m) (λ x s. after_middle start end prot x s some) above apart, runs)

before_all : (start end : ℕ) (above : List Area) (prot : Option Prot) (x : Area) → start < end → StandsBelow start prot x → All (StandsAbove end prot) above → All (IsBefore x) (option_to_list (middle_of start end prot) ++ above)
before_all start end above None x some h apart = All-weaker (StandsAbove end None) (IsBefore x) (λ y s. across start end None x y h s some) above apart
before_all start end above (Some prot) x some h apart =
    let m : Area = record { first = start; count = end - start; prot = prot } in
    All-cons (IsBefore x) m above (record { apart = h.apart; differ = λ e same. h.differ e (ap Some same) }) (All-weaker (StandsAbove end (Some prot)) (IsBefore x) (λ y s. across start end (Some prot) x y h s some) above apart)

-- The edited list

regrouped : (areas : List Area) (below above : Side) (middle : Option Area) → edited areas (record { low = below.at; high = above.at; left = below.part; middle = middle; right = above.part }) ≡ kept_below areas below ++ (option_to_list middle ++ kept_above areas above)
regrouped areas below above middle = sym (append_assoc (take below.at areas) (option_to_list below.part) (option_to_list middle ++ kept_above areas above))

edited_runs : (areas : List Area) (below above : Side) (first end : ℕ) (prot : Option Prot) → first < end → IsBelow areas below first prot → IsAbove areas above end prot → AreRuns (kept_below areas below ++ (option_to_list (middle_of below.page above.page prot) ++ kept_above areas above))
edited_runs areas below above first end prot some b a =
    let until = b.until in
    let from = a.from in
    let part : below.page < above.page = omega arith in
    let rest = option_to_list (middle_of below.page above.page prot) ++ kept_above areas above in
    AreRuns-append (kept_below areas below) rest b.runs (runs_middle below.page above.page (kept_above areas above) prot part a.bound a.runs a.apart)
    (All-weaker (StandsBelow below.page prot) (λ x. All (IsBefore x) rest) (λ x h. before_all below.page above.page (kept_above areas above) prot x part h a.apart) (kept_below areas below) b.apart)

-- a page below the range, in it or above it
pieces : (first count start end q : ℕ) (prot below above was : Option Prot) → start ≤ first → first + count ≤ end → 0 < count → (q < start → below ≡ was) → (end ≤ q → above ≡ was) → (start ≤ q → below ≡ None) → (q < end → above ≡ None) → (start ≤ q → q < first → was ≡ prot) → (first + count ≤ q → q < end → was ≡ prot) → option_or below (cond (in_range start (end - start) q) prot above) ≡ cond (in_range first count q) prot was
pieces first count start end q prot below above was until from some at_below at_above no_below no_above joined_below joined_above =
    ⊎_elim
    (λ (l : start ≤ q).
    ap (λ o. option_or o (cond (in_range start (end - start) q) prot above)) (no_below l)
    ∙ grind (arith, nat_tests))
    (λ (l : q < start).
    let out : in_range start (end - start) q ≡ false = in_range-false_below start (end - start) q l in
    let out_too : in_range first count q ≡ false = in_range-false_below first count q (omega arith) in
    rw (out, out_too) (ap (λ o. option_or below o) (no_above (omega arith)) ∙ option_or-none below ∙ at_below l))
    (at_or_below start q)

edited_pages : (areas : List Area) (below above : Side) (first count : ℕ) (prot : Option Prot) (q : ℕ) → 0 < count → IsBelow areas below first prot → IsAbove areas above (first + count) prot → prot_in (kept_below areas below ++ (option_to_list (middle_of below.page above.page prot) ++ kept_above areas above)) q ≡ cond (in_range first count q) prot (prot_in areas q)
edited_pages areas below above first count prot q some b a =
    let until = b.until in
    let from = a.from in
    let none_below : below.page ≤ q → prot_in (kept_below areas below) q ≡ None =
    λ l. prot_in-past (kept_below areas below) below.page q (All-weaker (StandsBelow below.page prot) (EndsBy below.page) (λ x s. s.apart) (kept_below areas below) b.apart) l in
    let none_above : q < above.page → prot_in (kept_above areas above) q ≡ None =
    λ u. prot_in-before (kept_above areas above) q (All-weaker (StandsAbove above.page prot) (BeginsAfter q) (λ x s. let apart = s.apart in omega arith) (kept_above areas above) a.apart) in
    prot_in-append (kept_below areas below) (option_to_list (middle_of below.page above.page prot) ++ kept_above areas above) q
    ∙ ap (λ o. option_or (prot_in (kept_below areas below) q) o) (with_middle below.page above.page (kept_above areas above) prot q none_above (omega arith))
    ∙ pieces first count below.page above.page q prot (prot_in (kept_below areas below) q) (prot_in (kept_above areas above) q) (prot_in areas q) until from some (b.pages q) (a.pages q) none_below none_above (b.joined q) (a.joined q)

IsEdit-from : (areas : List Area) (below above : Side) (first count : ℕ) (prot : Option Prot) → 0 < count → IsBelow areas below first prot → IsAbove areas above (first + count) prot → IsEdit areas (record { low = below.at; high = above.at; left = below.part; middle = middle_of below.page above.page prot; right = above.part }) first count prot
IsEdit-from areas below above first count prot some b a =
    record {
      inside = record { order = in_order areas below.at above.at first (first + count) b.within (omega arith) b.front a.back; within = a.within };
      runs = rw (regrouped areas below above (middle_of below.page above.page prot)) (edited_runs areas below above first (first + count) prot (omega arith) b a);
      pages = λ q. ap (λ xs. prot_in xs q) (regrouped areas below above (middle_of below.page above.page prot)) ∙ edited_pages areas below above first count prot q some b a;
    }

-- the same, where the area of the range is known by another name
pub IsEdit-with : (areas : List Area) (below above : Side) (middle : Option Area) (first count : ℕ) (prot : Option Prot) → 0 < count → IsBelow areas below first prot → IsAbove areas above (first + count) prot → middle_of below.page above.page prot ≡ middle → IsEdit areas (record { low = below.at; high = above.at; left = below.part; middle = middle; right = above.part }) first count prot
IsEdit-with areas below above middle first count prot some b a same =
    subst (λ m. IsEdit areas (record { low = below.at; high = above.at; left = below.part; middle = m; right = above.part }) first count prot) same (IsEdit-from areas below above first count prot some b a)
