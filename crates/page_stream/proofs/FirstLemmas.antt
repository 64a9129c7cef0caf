-- The numbers below a bound that pass a test, and how long a run of neighbours is.
use Rattle.std.proofs.Common.{◌≡◌, ℕ, zero, suc, ◌+◌, ◌<◌, ◌≤◌, ◌||◌, Bool, true, false, eqb, ne_eqb, [], ◌∷◌, ◌++◌, refl, sym, ap, ◌∙◌, subst, ⊎_elim, arith}
use Rattle.std.specs.Ordering.{nat_cmp}
use Rattle.std.specs.FinSet.{FinSet, contains}
use Rattle.std.proofs.lemmas.Bool.{cases_lt, false_from_ne_true}
use Rattle.std.proofs.lemmas.List.{append-nil}
use Rattle.foundation.specs.Ranges.{count_below}
use Rattle.mig_base.specs.Sets.{run_length}
use Rattle.foundation.proofs.TestLemmas.{eqb-above, eqb-self}
use Rattle.page_stream.specs.Texts.{list_below}
use Rattle.page_stream.proofs.OneArea.{none_listed}

-- Numbers that pass

pub list_below-same : (p q : ℕ → Bool) (bound : ℕ) → ((i : ℕ) → i < bound → p i ≡ q i) → list_below p bound ≡ list_below q bound
unfolding list_below
list_below-same p q zero same = refl
list_below-same p q (suc bound) same = rw (list_below-same p q bound (λ i l. same i (omega arith)), same bound (omega arith)) refl

-- a number that passes is counted
pub counted_below : (test : ℕ → Bool) (k bound : ℕ) → k < bound → test k ≡ true → count_below test k + 1 ≤ count_below test bound
unfolding count_below
counted_below test k zero below is = absurd (omega arith)
counted_below test k (suc bound) below is =
    ⊎_elim
    (λ (less : k < bound). let more = counted_below test k bound less is in omega (arith, more))
    (λ (past : bound ≤ k).
    let at : k ≡ bound = omega arith in
    let here : test bound ≡ true = subst (λ j. test j ≡ true) at is in
    rw here (let e : count_below test k ≡ count_below test bound = ap (count_below test) at in omega (arith, e)))
    (cases_lt k bound)

-- one number from here on passes, this one
pub list_below-one : (test : ℕ → Bool) (first next : ℕ) → first < next → test first ≡ true → count_below test next ≡ count_below test first + 1 → list_below test next ≡ list_below test first ++ first ∷ []
unfolding list_below count_below
list_below-one test first zero below is one = absurd (omega arith)
list_below-one test first (suc next) below is one =
    ⊎_elim
    (λ (less : first < next).
    let some = counted_below test first next less is in
    let out : test next ≡ false = false_from_ne_true (test next) (λ there. let more : count_below test next + 1 ≡ count_below test first + 1 = rw there at one in omega (arith, some, more)) in
    let before : count_below test next ≡ count_below test first + 1 = let e : count_below test next + 0 ≡ count_below test first + 1 = rw out at one in omega (arith, e) in
    rw (list_below-one test first next less is before, out) (append-nil (list_below test first ++ first ∷ [])))
    (λ (past : next ≤ first).
    let at : first ≡ next = omega arith in
    let here : test next ≡ true = subst (λ j. test j ≡ true) at is in
    rw here (ap (λ j. list_below test j ++ j ∷ []) (sym at)))
    (cases_lt first next)

-- a test that passes where another does, and at one number before all of those
pub list_below-cons : (p q : ℕ → Bool) (k bound : ℕ) → ((i : ℕ) → p i ≡ (eqb i k || q i)) → ((i : ℕ) → i ≤ k → q i ≡ false) → k < bound → list_below p bound ≡ k ∷ list_below q bound
unfolding list_below
list_below-cons p q k zero is out below = absurd (omega arith)
list_below-cons p q k (suc bound) is out below =
    ⊎_elim
    (λ (less : k < bound). rw (list_below-cons p q k bound is out less, is bound, eqb-above bound k less) refl)
    (λ (past : bound ≤ k).
    let at : k ≡ bound = omega arith in
    let none : list_below p bound ≡ [] = none_listed p bound (λ i l. is i ∙ ap (λ b. b || q i) (ne_eqb i k (λ e. omega arith)) ∙ out i (omega arith)) in
    let others : list_below q bound ≡ [] = none_listed q bound (λ i l. out i (omega arith)) in
    let here : p bound ≡ true = is bound ∙ rw (ap (eqb bound) at, eqb-self bound) refl in
    rw (none, others, here, out bound (omega arith)) (ap (λ j. j ∷ []) (sym at)))
    (cases_lt k bound)

-- Runs

pub run_length-is : (set : FinSet nat_cmp) (first bound count : ℕ) → count ≤ bound → ((q : ℕ) → first ≤ q → q < first + count → contains set q ≡ true) → contains set (first + count) ≡ false → run_length set first bound ≡ count
unfolding run_length
run_length-is set first zero count most all out = omega arith
run_length-is set first (suc bound) zero most all out =
    let here : contains set first ≡ false = let e : first + 0 ≡ first = omega arith in rw e at out in rw here refl
run_length-is set first (suc bound) (suc count) most all out =
    let here : contains set first ≡ true = all first (omega arith) (omega arith) in
    let end : contains set (1 + first + count) ≡ false = let e : first + suc count ≡ 1 + first + count = omega arith in rw e at out in
    let rest = run_length-is set (1 + first) bound count (omega arith) (λ q l m. all q (omega arith) (omega arith)) end in
    rw here (omega (arith, rest))
