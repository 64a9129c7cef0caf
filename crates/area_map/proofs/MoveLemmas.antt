-- A move of a range, area by area.
use Rattle.std.proofs.Common.{◌≡◌, ℕ, ◌+◌, ◌-◌, ◌<◌, Bool, true, false, cond, Option, Some, None, List, [], ◌∷◌, refl, sym, ap, ◌∙◌, ⊎_elim, arith, min, max, length, take, get_or}
use Rattle.std.specs.Option.{option_or}
use Rattle.std.specs.FinMap.{FinMap, get}
use Rattle.std.specs.Ordering.{nat_cmp}
use Rattle.std.proofs.lemmas.Bool.Decides.{nat_tests}
use Rattle.std.proofs.lemmas.List.{take_more}
use Rattle.std.proofs.lemmas.Bool.{cases_Bool}
use Rattle.mig_base.specs.declared.Prot.{Prot}
use Rattle.mig_base.specs.declared.Area.{Area}
use Rattle.foundation.specs.Ranges.{in_range}
use Rattle.foundation.proofs.RangeLemmas.{in_range_bounds}
use Rattle.mig_base.specs.Pages.{set_range, remove_range}
use Rattle.mig_base.proofs.PageLemmas.{get-set_range, get-remove_range}
use Rattle.area_map.specs.Areas.{pages_in, prot_in, AreRuns}
use Rattle.area_map.specs.Ranges.{moved_protections}
use Rattle.area_map.proofs.AreaLemmas.{no_area, ends_at, prot_in-append, prot_in-past}
use Rattle.area_map.proofs.ViewLemmas.{get-pages_in}

-- what the areas map from `from` on, a map has from `to` on
abbrev pub IsMovedFrom : List Area → FinMap nat_cmp Prot → FinMap nat_cmp Prot → ℕ → ℕ → ℕ → Type 0
IsMovedFrom areas old new from to count = (q : ℕ) → get new q ≡ cond (in_range to count q) (prot_in areas (from + (q - to))) (get old q)

-- the part of an area between two pages
pub record IsPart (low high : ℕ) (a part : Area) : Type 0 where
  pub first : part.first ≡ min high (max low a.first)
  pub end : part.first + part.count ≡ min high (max low (a.first + a.count))
  pub prot : part.prot ≡ a.prot

pub IsMovedFrom-none : (old : FinMap nat_cmp Prot) (from to count : ℕ) → ((q : ℕ) → in_range to count q ≡ true → get old q ≡ None) → IsMovedFrom [] old old from to count
unfolding prot_in
IsMovedFrom-none old from to count free q =
    ⊎_elim
    (λ (e : in_range to count q ≡ true). rw e (free q e))
    (λ (e : in_range to count q ≡ false). rw e refl)
    (cases_Bool (in_range to count q))

part_inside : (first count part_first part_count from to range q : ℕ) → part_first ≡ min (from + range) (max from first) → part_first + part_count ≡ min (from + range) (max from (first + count)) → in_range to range q ≡ true → in_range ((part_first - from) + to) part_count q ≡ in_range first count (from + (q - to))
part_inside first count part_first part_count from to range q f e t = grind (arith, nat_tests)

part_outside : (first count part_first part_count from to range q : ℕ) → part_first ≡ min (from + range) (max from first) → part_first + part_count ≡ min (from + range) (max from (first + count)) → in_range to range q ≡ false → in_range ((part_first - from) + to) part_count q ≡ false
part_outside first count part_first part_count from to range q f e t = grind (arith, nat_tests)

-- an area after others that do not have the page
behind : (b : Bool) (x : Prot) (o : Option Prot) → (b ≡ true → o ≡ None) → cond b (Some x) o ≡ option_or o (cond b (Some x) None)
behind true x o h = rw (h refl) refl
behind false x None h = refl
behind false x (Some y) h = refl

-- the areas up to an index, and one more
pub one_more : (areas : List Area) (i p : ℕ) → AreRuns areas → i < length areas → cond (in_range (get_or areas i no_area).first (get_or areas i no_area).count p) (Some (get_or areas i no_area).prot) (prot_in (take i areas) p) ≡ prot_in (take (i + 1) areas) p
unfolding prot_in
one_more areas i p runs below =
    let a = get_or areas i no_area in
    behind (in_range a.first a.count p) a.prot (prot_in (take i areas) p) (λ e. prot_in-past (take i areas) a.first p (ends_at areas i runs below) (in_range_bounds a.first a.count p e).0)
    ∙ sym (ap (λ xs. prot_in xs p) (take_more areas i no_area below) ∙ prot_in-append (take i areas) (a ∷ []) p)

pub IsMovedFrom-more : (areas : List Area) (i : ℕ) (old cur new : FinMap nat_cmp Prot) (part : Area) (from to count : ℕ) → AreRuns areas → i < length areas → IsPart from (from + count) (get_or areas i no_area) part → IsMovedFrom (take i areas) old cur from to count → new ≡ set_range cur ((part.first - from) + to) part.count part.prot → IsMovedFrom (take (i + 1) areas) old new from to count
IsMovedFrom-more areas i old cur new part from to count runs below is so_far made q =
    let a = get_or areas i no_area in
    let p = from + (q - to) in
    let start = (part.first - from) + to in
    ap (λ m. get m q) made
    ∙ get-set_range cur start part.count part.prot q
    ∙ ⊎_elim
    (λ (e : in_range to count q ≡ true).
    ap (λ b. cond b (Some part.prot) (get cur q)) (part_inside a.first a.count part.first part.count from to count q is.first is.end e)
    ∙ ap (λ x. cond (in_range a.first a.count p) (Some x) (get cur q)) is.prot
    ∙ ap (λ o. cond (in_range a.first a.count p) (Some a.prot) o) (so_far q ∙ ap (λ b. cond b (prot_in (take i areas) p) (get old q)) e)
    ∙ one_more areas i p runs below
    ∙ sym (ap (λ b. cond b (prot_in (take (i + 1) areas) p) (get old q)) e))
    (λ (e : in_range to count q ≡ false).
    ap (λ b. cond b (Some part.prot) (get cur q)) (part_outside a.first a.count part.first part.count from to count q is.first is.end e)
    ∙ so_far q
    ∙ ap (λ b. cond b (prot_in (take i areas) p) (get old q)) e
    ∙ sym (ap (λ b. cond b (prot_in (take (i + 1) areas) p) (get old q)) e))
    (cases_Bool (in_range to count q))

inner : (b : Bool) (x o : Option Prot) → cond b x (cond b None o) ≡ cond b x o
inner true x o = refl
inner false x o = refl

-- the whole move: both ranges taken out, and the areas of the first put at the second
pub moved_answer : (inside items : List Area) (old emptied clear new : FinMap nat_cmp Prot) (from to count : ℕ) → items ≡ inside → pages_in inside ≡ old → emptied ≡ remove_range old from count → clear ≡ remove_range emptied to count → IsMovedFrom items clear new from to count → (q : ℕ) → get new q ≡ moved_protections (λ page. get old page) from to count q
moved_answer inside items old emptied clear new from to count seen view one two three q =
    let there : prot_in items (from + (q - to)) ≡ get old (from + (q - to)) = ap (λ xs. prot_in xs (from + (q - to))) seen ∙ sym (get-pages_in inside (from + (q - to))) ∙ ap (λ m. get m (from + (q - to))) view in
    let here : get clear q ≡ cond (in_range to count q) None (cond (in_range from count q) None (get old q)) =
    ap (λ m. get m q) two ∙ get-remove_range emptied to count q ∙ ap (λ o. cond (in_range to count q) None o) (ap (λ m. get m q) one ∙ get-remove_range old from count q) in
    three q
    ∙ ap (λ o. cond (in_range to count q) o (get clear q)) there
    ∙ ap (λ o. cond (in_range to count q) (get old (from + (q - to))) o) here
    ∙ inner (in_range to count q) (get old (from + (q - to))) (cond (in_range from count q) None (get old q))

-- where nothing is left after the second range is taken out
pub cleared : (emptied clear : FinMap nat_cmp Prot) (to count : ℕ) → clear ≡ remove_range emptied to count → (q : ℕ) → in_range to count q ≡ true → get clear q ≡ None
cleared emptied clear to count made q e = ap (λ m. get m q) made ∙ get-remove_range emptied to count q ∙ ap (λ b. cond b None (get emptied q)) e
