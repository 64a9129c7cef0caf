-- Tests of each page of a range.
use Rattle.std.proofs.Common.{◌≡◌, ℕ, zero, suc, ◌+◌, ◌-◌, ◌<◌, ◌≤◌, ◌&&◌, ◌||◌, Bool, true, false, not, refl, sym, ap, ◌∙◌, ⊎_elim, arith, nat_le}
use Rattle.std.proofs.lemmas.Bool.Decides.{nat_tests}
use Rattle.std.proofs.lemmas.Bool.{cases_lt}
use Rattle.foundation.specs.Ranges.{none_below}
use Rattle.foundation.proofs.RangeLemmas.{none_below-from, none_below-not}
use Rattle.foundation.specs.Tests.{same_bool, is_every}

is_below : (a b : ℕ) → a < b → nat_le b a ≡ false
is_below a b h = grind (arith, nat_tests)

is_past : (a b : ℕ) → b ≤ a → nat_le b a ≡ true
is_past a b h = grind (arith, nat_tests)

-- each page passes where the first that does not pass is not before the end
pub every_to : (test : ℕ → Bool) (first count next : ℕ) → first ≤ next → ((q : ℕ) → first ≤ q → q < next → test q ≡ true) → (next < first + count → test next ≡ false) → nat_le (first + count) next ≡ is_every test first count
every_to test first count next low before here =
    ⊎_elim
    (λ (below : next < first + count).
    let at : first + (next - first) ≡ next = omega arith in
    is_below next (first + count) below
    ∙ sym (none_below-not (λ i. not (test (first + i))) count (next - first) (omega arith) (ap (λ k. not (test k)) at ∙ ap not (here below))))
    (λ (past : first + count ≤ next).
    is_past next (first + count) past
    ∙ sym (none_below-from (λ i. not (test (first + i))) count (λ i l. ap not (before (first + i) (omega arith) (omega arith)))))
    (cases_lt next (first + count))

four : (x y a b : Bool) → ((x && y) && not (not (a && b))) ≡ ((x && not (not a)) && (y && not (not b)))
four true true true b = refl
four true true false true = refl
four true true false false = refl
four true false true b = refl
four true false false b = refl
four false y a b = refl

-- two tests of each page
pub every_both : (a b : ℕ → Bool) (first count : ℕ) → is_every (λ page. a page && b page) first count ≡ (is_every a first count && is_every b first count)
unfolding none_below
every_both a b first zero = refl
every_both a b first (suc count) =
    ap (λ x. x && not (not (a (first + count) && b (first + count)))) (every_both a b first count)
    ∙ four (is_every a first count) (is_every b first count) (a (first + count)) (b (first + count))

same_not : (a b : Bool) → b ≡ not (not a) → same_bool a b ≡ true
same_not true b h = h
same_not false b h = ap not h

other_not : (a b : Bool) → b ≡ not a → same_bool a b ≡ false
other_not true b h = h
other_not false b h = ap not h

-- each page is as the first where the next that is not is not before the end
pub every_same : (test : ℕ → Bool) (first count next : ℕ) → first ≤ next → ((q : ℕ) → first ≤ q → q < next → test q ≡ not (not (test first))) → (next < first + count → test next ≡ not (test first))
    → nat_le (first + count) next ≡ is_every (λ page. same_bool (test first) (test page)) first count
every_same test first count next low before here =
    every_to (λ page. same_bool (test first) (test page)) first count next low
    (λ q a b. same_not (test first) (test q) (before q a b))
    (λ l. other_not (test first) (test next) (here l))

asked_for : (a b : Bool) → a ≡ true → (not a || b) ≡ b
asked_for a b h = rw h refl

not_asked : (a b : Bool) → a ≡ false → (not a || b) ≡ true
not_asked a b h = rw h refl

-- a mode that is not asked for
pub every_unasked : (asked : Bool) (test : ℕ → Bool) (first count : ℕ) → asked ≡ false → not asked ≡ is_every (λ page. not asked || test page) first count
every_unasked asked test first count h =
    ap not h ∙ sym (none_below-from (λ i. not (not asked || test (first + i))) count (λ i l. ap not (not_asked asked (test (first + i)) h)))

-- a mode that is asked for
pub every_asked : (asked : Bool) (test : ℕ → Bool) (first count next : ℕ) → asked ≡ true → first ≤ next → ((q : ℕ) → first ≤ q → q < next → test q ≡ true) → (next < first + count → test next ≡ false)
    → nat_le (first + count) next ≡ is_every (λ page. not asked || test page) first count
every_asked asked test first count next h low before here =
    every_to (λ page. not asked || test page) first count next low
    (λ q a b. asked_for asked (test q) h ∙ before q a b)
    (λ l. asked_for asked (test next) h ∙ here l)

-- what two tests say together
pub both_true : (a b : ℕ → Bool) (first count : ℕ) (one two : Bool) → one ≡ is_every a first count → two ≡ is_every b first count → one ≡ true → two ≡ is_every (λ page. a page && b page) first count
both_true a b first count one two is_one is_two h =
    ap (λ x. x && two) (sym h) ∙ ap (λ x. x && two) is_one ∙ ap (λ y. is_every a first count && y) is_two ∙ sym (every_both a b first count)

pub both_false : (a b : ℕ → Bool) (first count : ℕ) (one : Bool) → one ≡ is_every a first count → one ≡ false → one ≡ is_every (λ page. a page && b page) first count
both_false a b first count one is_one h =
    h ∙ ap (λ x. x && is_every b first count) (sym h) ∙ ap (λ x. x && is_every b first count) is_one ∙ sym (every_both a b first count)
