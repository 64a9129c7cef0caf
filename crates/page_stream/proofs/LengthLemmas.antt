-- How many runs a set has, and how many areas a map.
use Rattle.std.proofs.Common.{◌≡◌, ℕ, zero, suc, ◌+◌, ◌-◌, ◌<◌, ◌≤◌, ◌&&◌, ◌||◌, Bool, true, false, not, eqb, ltb, ne_eqb, Option, Some, None, is_some, List, [], ◌∷◌, length, refl, sym, ap, ◌∙◌, subst, ⊎_elim, arith}
use Rattle.std.specs.Ordering.{nat_cmp}
use Rattle.std.specs.FinMap.{FinMap, get}
use Rattle.std.proofs.lemmas.Bool.Decides.{nat_tests}
use Rattle.std.proofs.lemmas.Bool.{cases_lt, lt-ltb}
use Rattle.area_map.specs.Areas.{AreRuns, pages_in, prot_in}
use Rattle.area_map.proofs.AreaLemmas.{prot_in-behind, prot_in-first, prot_in-rest_above, prot_in-rest_below}
use Rattle.area_map.proofs.OneProtLemmas.{ends_there}
use Rattle.area_map.proofs.ViewLemmas.{get-pages_in}
use Rattle.mig_base.specs.declared.Area.{Area}
use Rattle.mig_base.specs.declared.Prot.{Prot}
use Rattle.mig_base.specs.declared.TheConstants.{HIGH_PAGE}
use Rattle.foundation.specs.Ranges.{count_below}
use Rattle.foundation.proofs.RangeLemmas.{count_below-constant, count_below-same}
use Rattle.foundation.proofs.TestLemmas.{eqb-above, eqb-self}
use Rattle.mig_model.specs.Ioctls.{same_protection}
use Rattle.mig_model.proofs.memory.IoctlLemmas.{same_prot-self}
use Rattle.mig_model.specs.Lengths.{begins_area, area_count}

-- Areas

-- a test that passes where another does, and at one number more
count_below-one_more : (p q : ℕ → Bool) (k n : ℕ) → ((i : ℕ) → p i ≡ (eqb i k || q i)) → q k ≡ false → k < n → count_below p n ≡ suc (count_below q n)
unfolding count_below
count_below-one_more p q k zero is out below = absurd (omega arith)
count_below-one_more p q k (suc n) is out below =
    ⊎_elim
    (λ (less : k < n). let more = count_below-one_more p q k n is out less in rw (more, is n, eqb-above n k less) (omega arith))
    (λ (past : n ≤ k).
    let at : k ≡ n = omega arith in
    let same : count_below p n ≡ count_below q n = count_below-same p q n (λ i l. is i ∙ ap (λ b. b || q i) (ne_eqb i k (λ e. omega arith))) in
    rw (same, is n, ap (eqb n) at, eqb-self n, subst (λ m. q m ≡ false) at out) (omega arith))
    (cases_lt k n)

-- whether an area begins at a page, by what each page has
abbrev pub begins_by : (ℕ → Option Prot) → ℕ → Bool
begins_by prots q = is_some (prots q) && not (ltb 0 q && same_protection (prots q) (prots (q - 1)))

pub begins_by-same : (prots others : ℕ → Option Prot) (q : ℕ) → prots q ≡ others q → prots (q - 1) ≡ others (q - 1) → begins_by prots q ≡ begins_by others q
begins_by-same prots others q here before = rw (here, before) refl

pub nothing_begins : (prots : ℕ → Option Prot) (q : ℕ) → prots q ≡ None → begins_by prots q ≡ false
nothing_begins prots q none = rw none refl

-- a page after the first of a run of one protection
goes_on : (prots : ℕ → Option Prot) (prot : Prot) (q : ℕ) → 0 < q → prots q ≡ Some prot → prots (q - 1) ≡ Some prot → begins_by prots q ≡ false
goes_on prots prot q some here before = rw (here, before, same_prot-self prot, lt-ltb 0 q some) refl

begins_first : (prots : ℕ → Option Prot) (prot : Prot) (q : ℕ) → prots q ≡ Some prot → (0 < q → prots (q - 1) ≡ None) → begins_by prots q ≡ true
begins_first prots prot q here before = grind (arith, nat_tests)

-- after an area, one of another protection begins
begins_next : (prots others : ℕ → Option Prot) (prot : Prot) (q : ℕ) → prots q ≡ others q → prots (q - 1) ≡ Some prot → others (q - 1) ≡ None → (others q ≡ Some prot → ⊥) → begins_by prots q ≡ begins_by others q
begins_next prots others prot q here before none other = rw (here, before, none) (differ (others q) prot (ltb 0 q) other)
  where
    differ : (o : Option Prot) (prot : Prot) (b : Bool) → (o ≡ Some prot → ⊥) → (is_some o && not (b && same_protection o (Some prot))) ≡ (is_some o && not (b && same_protection o None))
    differ None prot b other = refl
    differ (Some p) prot b other = grind (arith, nat_tests)

-- the first area begins one more
pub begins_more : (a : Area) (rest : List Area) (q : ℕ) → AreRuns (a ∷ rest) → begins_by (prot_in (a ∷ rest)) q ≡ (eqb q a.first || begins_by (prot_in rest) q)
begins_more a rest q runs =
    let end = a.first + a.count in
    let some = runs.0.some in
    ⊎_elim
    (λ (below : q < a.first).
    begins_by-same (prot_in (a ∷ rest)) (prot_in rest) q (prot_in-rest_below a rest q below) (prot_in-rest_below a rest (q - 1) (omega arith))
    ∙ ap (λ b. b || begins_by (prot_in rest) q) (sym (ne_eqb q a.first (λ e. omega arith))))
    (λ (from : a.first ≤ q).
    ⊎_elim
    (λ (at : q < a.first + 1).
    let here : q ≡ a.first = omega arith in
    begins_first (prot_in (a ∷ rest)) a.prot q (prot_in-first a rest q from (omega arith)) (λ low. prot_in-rest_below a rest (q - 1) (omega arith) ∙ prot_in-behind a rest (q - 1) runs (omega arith))
    ∙ ap (λ b. b || begins_by (prot_in rest) q) (sym (eqb-self q) ∙ ap (eqb q) here))
    (λ (past : a.first + 1 ≤ q).
    ⊎_elim
    (λ (inside : q < end).
    goes_on (prot_in (a ∷ rest)) a.prot q (omega arith) (prot_in-first a rest q from inside) (prot_in-first a rest (q - 1) (omega arith) (omega arith))
    ∙ sym (rw (ne_eqb q a.first (λ e. omega arith)) (nothing_begins (prot_in rest) q (prot_in-behind a rest q runs inside))))
    (λ (out : end ≤ q).
    ⊎_elim
    (λ (touch : q < end + 1).
    let here : q ≡ end = omega arith in
    begins_next (prot_in (a ∷ rest)) (prot_in rest) a.prot q (prot_in-rest_above a rest q out) (prot_in-first a rest (q - 1) (omega arith) (omega arith)) (prot_in-behind a rest (q - 1) runs (omega arith))
    (λ e. ends_there a rest runs (ap (prot_in rest) (sym here) ∙ e))
    ∙ ap (λ b. b || begins_by (prot_in rest) q) (sym (ne_eqb q a.first (λ e. omega arith))))
    (λ (far : end + 1 ≤ q).
    begins_by-same (prot_in (a ∷ rest)) (prot_in rest) q (prot_in-rest_above a rest q out) (prot_in-rest_above a rest (q - 1) (omega arith))
    ∙ ap (λ b. b || begins_by (prot_in rest) q) (sym (ne_eqb q a.first (λ e. omega arith))))
    (cases_lt q (end + 1)))
    (cases_lt q end))
    (cases_lt q (a.first + 1)))
    (cases_lt q a.first)

pub no_prot : (q : ℕ) → prot_in [] q ≡ None
unfolding prot_in
no_prot q = refl

begins_counted : (areas : List Area) → AreRuns areas → count_below (begins_by (prot_in areas)) HIGH_PAGE ≡ length areas
begins_counted [] runs = count_below-constant (begins_by (prot_in [])) false HIGH_PAGE (λ q l. nothing_begins (prot_in []) q (no_prot q))
begins_counted (a ∷ rest) runs =
    let some = runs.0.some in
    let bound = runs.0.bound in
    count_below-one_more (begins_by (prot_in (a ∷ rest))) (begins_by (prot_in rest)) a.first HIGH_PAGE (λ q. begins_more a rest q runs) (nothing_begins (prot_in rest) a.first (prot_in-behind a rest a.first runs (omega arith))) (omega arith)
    ∙ ap suc (begins_counted rest runs.2)

-- the number of maximal runs of one protection is the number of pages at which one begins
pub areas_counted : (areas : List Area) (value : FinMap nat_cmp Prot) → AreRuns areas → pages_in areas ≡ value → length areas ≡ area_count value
unfolding area_count
areas_counted areas value runs is =
    sym (begins_counted areas runs)
    ∙ count_below-same (begins_by (prot_in areas)) (begins_area value) HIGH_PAGE
    (λ q l. let same = λ (p : ℕ). sym (get-pages_in areas p) ∙ ap (λ m. get m p) is in begins_by-same (prot_in areas) (λ p. get value p) q (same q) (same (q - 1)))
