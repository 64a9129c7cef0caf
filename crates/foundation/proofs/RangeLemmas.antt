-- What the tests, counts and least numbers of `specs/Ranges.antt` tell.
use Rattle.std.proofs.Common.{◌≡◌, ℕ, zero, suc, ◌+◌, ◌-◌, ◌*◌, ◌<◌, ◌≤◌, Bool, true, false, cond, not, eqb, Option, Some, None, is_some, refl, sym, ap, ◌∙◌, subst, ◌⊎◌, ⊎_elim, arith, add-zero, add-suc, add_assoc, mul-zero}
use Rattle.std.proofs.lemmas.Bool.Decides.{nat_tests}
use Rattle.std.proofs.lemmas.Bool.{false≢true, not-true}
use Rattle.std.proofs.lemmas.Option.{none-some, same_Some}
use Rattle.foundation.specs.Ranges.{in_range, count_below, least_below, none_below}
use Rattle.foundation.proofs.TestLemmas.{and_first, and_second, below_or_at}

pub in_range-true : (first count n : ℕ) → first ≤ n → n < first + count → in_range first count n ≡ true
in_range-true first count n a b = grind (arith, nat_tests)

pub in_range-false_below : (first count n : ℕ) → n < first → in_range first count n ≡ false
in_range-false_below first count n a = grind (arith, nat_tests)

pub in_range-false_above : (first count n : ℕ) → first + count ≤ n → in_range first count n ≡ false
in_range-false_above first count n a = grind (arith, nat_tests)

pub in_range-out : (first count n : ℕ) → (n < first) ⊎ (first + count ≤ n) → in_range first count n ≡ false
in_range-out first count n h = grind (arith, nat_tests)

pub in_range-none : (first n : ℕ) → in_range first 0 n ≡ false
in_range-none first n = grind (arith, nat_tests)

pub in_range-one : (first n : ℕ) → in_range first 1 n ≡ eqb n first
in_range-one first n = grind (arith, nat_tests)

-- the last number of a range, those before it, and the one past it
pub in_range-last : (first count : ℕ) → in_range first (suc count) (first + count) ≡ true
in_range-last first count = grind (arith, nat_tests)

pub in_range-but_last : (first count n : ℕ) → eqb n (first + count) ≡ false → in_range first count n ≡ in_range first (suc count) n
in_range-but_last first count n h = grind (arith, nat_tests)

pub in_range-end : (first count : ℕ) → in_range first count (first + count) ≡ false
in_range-end first count = grind (arith, nat_tests)

pub in_range_bounds : (first count n : ℕ) → in_range first count n ≡ true → (first ≤ n) × (n < first + count)
in_range_bounds first count n h = grind (arith, nat_tests)

-- what the test tells
pub in_range_tells : (first count n : ℕ) → ((in_range first count n ≡ true) × (first ≤ n) × (n < first + count)) ⊎ ((in_range first count n ≡ false) × ((n < first) ⊎ (first + count ≤ n)))
in_range_tells first count n = grind (arith, nat_tests)

pub ruleset ranges = (in_range_tells, nat_tests)

pub none_below_tells : (test : ℕ → Bool) (n i : ℕ) → none_below test n ≡ true → i < n → test i ≡ false
unfolding none_below
none_below_tells test zero i h l = absurd (omega arith)
none_below_tells test (suc n) i h l =
    ⊎_elim
    (λ below. none_below_tells test n i (and_first (none_below test n) (not (test n)) h) below)
    (λ (at : i ≡ n). subst (λ k. test k ≡ false) (sym at) (not-true (test n) (and_second (none_below test n) (not (test n)) h)))
    (below_or_at i n l)

pub none_below-from : (test : ℕ → Bool) (n : ℕ) → ((i : ℕ) → i < n → test i ≡ false) → none_below test n ≡ true
unfolding none_below
none_below-from test zero h = refl
none_below-from test (suc n) h =
    rw (none_below-from test n (λ i l. h i (omega arith)), h n (omega arith)) refl

pub none_below-not : (test : ℕ → Bool) (n i : ℕ) → i < n → test i ≡ true → none_below test n ≡ false
none_below-not test n i l h =
    elim (none_below test n) as (λ b. none_below test n ≡ b → none_below test n ≡ false) [
      | true ↦ λ e. absurd (false≢true (sym (none_below_tells test n i e l) ∙ h))
      | false ↦ λ e. e
    ] refl

-- nothing below the bound passes
pub least_below-none : (test : ℕ → Bool) (bound : ℕ) → ((j : ℕ) → j < bound → test j ≡ false) → least_below test bound ≡ None
unfolding least_below
least_below-none test zero h = refl
least_below-none test (suc bound) h =
    rw (least_below-none test bound (λ j l. h j (omega arith)), h bound (omega arith)) refl

-- k passes, and nothing below it does
pub least_below-is : (test : ℕ → Bool) (bound k : ℕ) → k < bound → test k ≡ true → ((j : ℕ) → j < k → test j ≡ false) → least_below test bound ≡ Some k
unfolding least_below
least_below-is test zero k l p h = absurd (omega arith)
least_below-is test (suc bound) k l p h =
    ⊎_elim
    (λ (below : k < bound). rw (least_below-is test bound k below p h) refl)
    (λ (at : k ≡ bound). subst (λ m. ((j : ℕ) → j < m → test j ≡ false) → test m ≡ true → least_below test (suc bound) ≡ Some m) (sym at)
    (λ none passes. rw (least_below-none test bound none, passes) refl) h p)
    (below_or_at k bound l)

-- something is found where something passes
pub least_below-some : (test : ℕ → Bool) (bound k : ℕ) → k < bound → test k ≡ true → is_some (least_below test bound) ≡ true
unfolding least_below
least_below-some test zero k l h = absurd (omega arith)
least_below-some test (suc bound) k l h =
    ⊎_elim
    (λ (below : k < bound). sooner (least_below test bound) (test bound) bound (least_below-some test bound k below h))
    (λ (at : k ≡ bound). here (least_below test bound) (test bound) bound (ap test (sym at) ∙ h))
    (below_or_at k bound l)
  where
    sooner : (o : Option ℕ) (last : Bool) (bound : ℕ) → is_some o ≡ true → is_some (elim o [ Some least ↦ Some least | None ↦ cond last (Some bound) None ]) ≡ true
    sooner (Some least) last bound some = refl
    sooner None last bound some = absurd (false≢true some)

    here : (o : Option ℕ) (last : Bool) (bound : ℕ) → last ≡ true → is_some (elim o [ Some least ↦ Some least | None ↦ cond last (Some bound) None ]) ≡ true
    here (Some least) last bound passes = refl
    here None true bound passes = refl
    here None false bound passes = absurd (false≢true passes)

-- the same test gives the same count
pub count_below-same : (p q : ℕ → Bool) (n : ℕ) → ((i : ℕ) → i < n → p i ≡ q i) → count_below p n ≡ count_below q n
unfolding count_below
count_below-same p q zero h = refl
count_below-same p q (suc n) h = rw (count_below-same p q n (λ i l. h i (omega arith)), h n (omega arith)) refl

pub count_below-append : (p : ℕ → Bool) (m n : ℕ) → count_below p (m + n) ≡ count_below p m + count_below (λ i. p (m + i)) n
unfolding count_below
count_below-append p m zero = rw add-zero (sym (add-zero (count_below p m)))
count_below-append p m (suc n) = rw (add-suc m n, count_below-append p m n) (add_assoc (count_below p m) (count_below (λ i. p (m + i)) n) (cond (p (m + n)) 1 0))

-- no more than all
pub count_below-few : (p : ℕ → Bool) (n : ℕ) → count_below p n ≤ n
unfolding count_below
count_below-few p zero = omega arith
count_below-few p (suc n) = one_at_most (p n) (count_below p n) n (count_below-few p n)
  where
    one_at_most : (b : Bool) (count n : ℕ) → count ≤ n → count + cond b 1 0 ≤ suc n
    one_at_most b count n h = grind (arith, nat_tests)

-- one answer throughout
pub count_below-constant : (p : ℕ → Bool) (b : Bool) (n : ℕ) → ((i : ℕ) → i < n → p i ≡ b) → count_below p n ≡ cond b n 0
unfolding count_below
count_below-constant p true zero h = refl
count_below-constant p false zero h = refl
count_below-constant p true (suc n) h = rw (count_below-constant p true n (λ i l. h i (omega arith)), h n (omega arith)) (omega arith)
count_below-constant p false (suc n) h = rw (count_below-constant p false n (λ i l. h i (omega arith)), h n (omega arith)) refl

times_cond : (b : Bool) (size count : ℕ) → size * count + cond b size 0 ≡ size * (count + cond b 1 0)
times_cond true size count = omega arith
times_cond false size count = omega arith

-- whole blocks: each number stands for `size` numbers
pub count_below-blocks : (size : ℕ) (p : ℕ → Bool) (whole : ℕ → Bool) (n : ℕ) → ((k i : ℕ) → i < size → p (size * k + i) ≡ whole k) → count_below p (size * n) ≡ size * count_below whole n
unfolding count_below
count_below-blocks size p whole zero h = rw mul-zero refl
count_below-blocks size p whole (suc n) h =
    let next : size * suc n ≡ size * n + size = omega arith in
    rw (next, count_below-append p (size * n) size, count_below-blocks size p whole n h, count_below-constant (λ i. p (size * n + i)) (whole n) size (h n)) (times_cond (whole n) size (count_below whole n))

found_here : (b : Bool) (bound k : ℕ) (test : ℕ → Bool) → b ≡ test bound → cond b (Some bound) None ≡ Some k → test k ≡ true
found_here true bound k test e h = subst (λ n. test n ≡ true) (same_Some bound k h) (sym e)
found_here false bound k test e h = absurd (none-some k h)

-- what is found passes
pub least_below_tells : (test : ℕ → Bool) (bound k : ℕ) → least_below test bound ≡ Some k → test k ≡ true
unfolding least_below
least_below_tells test zero k h = absurd (none-some k h)
least_below_tells test (suc bound) k h =
    elim (least_below test bound) as (λ o. least_below test bound ≡ o → elim o [ Some least ↦ Some least | None ↦ cond (test bound) (Some bound) None ] ≡ Some k → test k ≡ true) [
      | Some least ↦ λ e same. least_below_tells test bound k (e ∙ same)
      | None ↦ λ e same. found_here (test bound) bound k test refl same
    ] refl h
