-- A map has one list of maximal runs.
use Rattle.std.proofs.Common.{◌≡◌, ℕ, ◌+◌, ◌<◌, ◌≤◌, Some, List, [], ◌∷◌, refl, sym, ap, ap₂, ◌∙◌, ⊎_elim, arith}
use Rattle.std.proofs.lemmas.Bool.{cases_lt}
use Rattle.std.proofs.lemmas.Option.{none-some, same_Some}
use Rattle.std.specs.FinMap.{FinMap, get}
use Rattle.std.specs.Ordering.{nat_cmp}
use Rattle.mig_base.specs.declared.Prot.{Prot}
use Rattle.mig_base.specs.declared.Area.{Area}
use Rattle.area_map.specs.Areas.{prot_in, pages_in, AreRuns}
use Rattle.area_map.proofs.AreaLemmas.{prot_in-first, prot_in-rest_above, prot_in-rest_below, prot_in-behind}
use Rattle.area_map.proofs.OneProtLemmas.{ends_there}
use Rattle.area_map.proofs.ViewLemmas.{get-pages_in}

abbrev AreAlike : List Area → List Area → Type 0
AreAlike areas others = (q : ℕ) → prot_in areas q ≡ prot_in others q

alike_back : (areas others : List Area) → AreAlike areas others → AreAlike others areas
alike_back areas others same q = sym (same q)

-- the first page of a list has a protection
begins : (a : Area) (rest : List Area) → AreRuns (a ∷ rest) → prot_in (a ∷ rest) a.first ≡ Some a.prot
begins a rest runs = let some = runs.0.some in prot_in-first a rest a.first (omega arith) (omega arith)

some_there : (a : Area) (rest : List Area) → AreRuns (a ∷ rest) → AreAlike [] (a ∷ rest) → ⊥
unfolding prot_in
some_there a rest runs same = none-some a.prot (same a.first ∙ begins a rest runs)

-- the first area of one list does not begin before that of the other
first_upto : (a b : Area) (rest more : List Area) → AreRuns (a ∷ rest) → AreRuns (b ∷ more) → AreAlike (a ∷ rest) (b ∷ more) → b.first ≤ a.first
first_upto a b rest more runs other same =
    ⊎_elim
    (λ (before : a.first < b.first). absurd (none-some a.prot (sym (prot_in-rest_below b more a.first before ∙ prot_in-behind b more a.first other (omega arith)) ∙ sym (same a.first) ∙ begins a rest runs)))
    (λ (from : b.first ≤ a.first). from)
    (cases_lt a.first b.first)

-- nor does it end before
end_upto : (a b : Area) (rest more : List Area) → AreRuns (a ∷ rest) → AreAlike (a ∷ rest) (b ∷ more) → a.first ≡ b.first → a.prot ≡ b.prot → b.count ≤ a.count
end_upto a b rest more runs same first prot =
    ⊎_elim
    (λ (shorter : a.count < b.count).
    let end = a.first + a.count in
    absurd (ends_there a rest runs (sym (prot_in-rest_above a rest end (omega arith)) ∙ same end ∙ prot_in-first b more end (omega (arith, first)) (omega (arith, first, shorter)) ∙ ap (λ (p : Prot). Some p) (sym prot))))
    (λ (from : b.count ≤ a.count). from)
    (cases_lt a.count b.count)

pub one_list : (areas others : List Area) → AreRuns areas → AreRuns others → AreAlike areas others → areas ≡ others
one_list [] [] runs other same = refl
one_list [] (b ∷ more) runs other same = absurd (some_there b more other same)
one_list (a ∷ rest) [] runs other same = absurd (some_there a rest runs (alike_back (a ∷ rest) [] same))
one_list (a ∷ rest) (b ∷ more) runs other same =
    let back = alike_back (a ∷ rest) (b ∷ more) same in
    let low = first_upto a b rest more runs other same in
    let high = first_upto b a more rest other runs back in
    let first : a.first ≡ b.first = omega (arith, low, high) in
    let prot : a.prot ≡ b.prot = same_Some a.prot b.prot (sym (begins a rest runs) ∙ same a.first ∙ ap (prot_in (b ∷ more)) first ∙ begins b more other) in
    let short = end_upto a b rest more runs same first prot in
    let long = end_upto b a more rest other back (sym first) (sym prot) in
    let count : a.count ≡ b.count = omega (arith, short, long) in
    ap₂ (λ (x : Area) (xs : List Area). x ∷ xs) (λ k. record { first = first k; count = count k; prot = prot k })
    (one_list rest more runs.2 other.2 (λ q. ⊎_elim
    (λ (inside : q < a.first + a.count). prot_in-behind a rest q runs inside ∙ sym (prot_in-behind b more q other (omega (arith, inside, first, count))))
    (λ (past : a.first + a.count ≤ q). sym (prot_in-rest_above a rest q past) ∙ same q ∙ prot_in-rest_above b more q (omega (arith, past, first, count)))
    (cases_lt q (a.first + a.count))))

pub one_list_of_map : (areas others : List Area) (value other : FinMap nat_cmp Prot) → AreRuns areas → AreRuns others → pages_in areas ≡ value → pages_in others ≡ other → value ≡ other → areas ≡ others
one_list_of_map areas others value other runs also view shows e =
    one_list areas others runs also (λ q. sym (get-pages_in areas q) ∙ ap (λ m. get m q) (view ∙ e ∙ sym shows) ∙ get-pages_in others q)
