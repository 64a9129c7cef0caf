-- Pages by the runs that start at them or before.
use Rattle.std.proofs.Common.{Bool, IsSome, Result, Ok, Err, OnOk, ◌≡◌, ◌∙◌, ℕ, zero, suc, ◌+◌, ◌-◌, ◌^◌, ◌≤◌, ◌<◌, Option, Some, None, false, true, refl, sym, subst, arith, eqb, ap, ◌⊎◌, inl, inr, ⊎_elim}
use mathlib.Core.Bool.{beq}
use Rattle.std.specs.Prelude.{if◌then◌else◌, nat_lt}
use Rattle.std.proofs.lemmas.Bool.Decides.{nat_tests}
use Rattle.std.proofs.lemmas.Bool.{false≢true}
use Rattle.std.proofs.lemmas.Map.Keys.{le_from_not_gt}
use Rattle.std.specs.Ordering.{is_eq, is_gt, is_lt, nat_cmp}
use Rattle.foundation.specs.Ranges.{in_range}
use Rattle.foundation.proofs.TestLemmas.{below_or_at}
use Rattle.foundation.proofs.RangeLemmas.{in_range-true, in_range-false_below, in_range-false_above, in_range_tells}
use Rattle.kernel_rules.specs.Changes.{changed, range_changed}
use Rattle.kernel_rules.specs.Tables.{run_at, range_set}
use Rattle.kernel_rules.specs.declared.change.Change.{Change}
use Rattle.kernel_rules.specs.declared.known.Page.{Page}

nat_split : (n at : ℕ) → (n < at) ⊎ (at < suc n)
nat_split n at = grind arith

lt-true : (n at : ℕ) → n < at → nat_lt n at ≡ true
lt-true n at l = grind (arith, nat_tests)

lt-false : (n at : ℕ) → at ≤ n → nat_lt n at ≡ false
lt-false n at l = grind (arith, nat_tests)

-- the pages before a start, and those after one
pub run_at-below : (g h : ℕ → Option (Option Page)) (n : ℕ) → ((q : ℕ) → q ≤ n → g q ≡ h q) → run_at g n ≡ run_at h n
unfolding run_at
run_at-below g h zero same = rw (same zero (omega arith)) refl
run_at-below g h (suc n) same = rw (same (suc n) (omega arith), run_at-below g h n (λ q l. same q (omega arith))) refl

pub run_at-above : (g h : ℕ → Option (Option Page)) (at n : ℕ) → at < suc n → run_at g at ≡ run_at h at → ((q : ℕ) → at < q → q ≤ n → g q ≡ h q) → run_at g n ≡ run_at h n
unfolding run_at
run_at-above g h at zero l here same =
    ⊎_elim (λ (b : at < zero). absurd (omega arith)) (λ (is : at ≡ zero). subst (λ k. run_at g k ≡ run_at h k) is here) (below_or_at at zero l)
run_at-above g h at (suc n) l here same =
    ⊎_elim
    (λ (b : at < suc n). rw (same (suc n) (omega arith) (omega arith), run_at-above g h at n b here (λ q m k. same q m (omega arith))) refl)
    (λ (is : at ≡ suc n). subst (λ k. run_at g k ≡ run_at h k) is here)
    (below_or_at at (suc n) l)

pub run_at-flat : (g : ℕ → Option (Option Page)) (at n : ℕ) → at < suc n → ((q : ℕ) → at < q → q ≤ n → g q ≡ None) → run_at g n ≡ run_at g at
unfolding run_at
run_at-flat g at zero l none =
    ⊎_elim (λ (b : at < zero). absurd (omega arith)) (λ (is : at ≡ zero). subst (λ k. run_at g zero ≡ run_at g k) (sym is) refl) (below_or_at at zero l)
run_at-flat g at (suc n) l none =
    ⊎_elim
    (λ (b : at < suc n). rw (none (suc n) (omega arith) (omega arith)) (run_at-flat g at n b (λ q m k. none q m (omega arith))))
    (λ (is : at ≡ suc n). subst (λ k. run_at g (suc n) ≡ run_at g k) (sym is) refl)
    (below_or_at at (suc n) l)

-- a start
pub run_at-is : (g : ℕ → Option (Option Page)) (n : ℕ) (found : Option Page) → g n ≡ Some found → run_at g n ≡ found
unfolding run_at
run_at-is g zero found is = rw is refl
run_at-is g (suc n) found is = rw is refl

pub run_at-none : (g : ℕ → Option (Option Page)) (n : ℕ) → ((q : ℕ) → q ≤ n → g q ≡ None) → run_at g n ≡ None
unfolding run_at
run_at-none g zero none = rw (none zero (omega arith)) refl
run_at-none g (suc n) none = rw (none (suc n) (omega arith)) (run_at-none g n (λ q l. none q (omega arith)))

-- a page before which nothing starts is as the one before it
pub run_at-joined : (g : ℕ → Option (Option Page)) (n : ℕ) → 0 < n → g n ≡ None → run_at g n ≡ run_at g (n - 1)
run_at-joined g n l none = run_at-flat g (n - 1) n (omega arith) (λ q m k. subst (λ i. g i ≡ None) (omega (arith, m, k, l)) none)

other : (a b : ℕ) → (a < b) ⊎ (b < a) → eqb a b ≡ false
other a b h = grind (arith, nat_tests)

-- pages that are set: those before the end, and all of them once what follows starts there
pub set_before : (g m : ℕ → Option (Option Page)) (first count : ℕ) (found : Option Page) → ((q : ℕ) → first < q → q < first + count → g q ≡ None) → ((q : ℕ) → eqb first q ≡ false → m q ≡ g q)
    → run_at m first ≡ found → (n : ℕ) → n < first + count → run_at m n ≡ range_set (run_at g) first count found n
set_before g m first count found none same is n l =
    ⊎_elim
    (λ (b : n < first). rw (in_range-false_below first count n b) (run_at-below m g n (λ q k. same q (other first q (inr (omega (arith, b, k)))))))
    (λ (b : first < suc n). rw (in_range-true first count n (omega (arith, b)) l) (run_at-flat m first n b (λ q k j. same q (other first q (inl k)) ∙ none q k (omega (arith, j, l))) ∙ is))
    (nat_split n first)

pub set_then : (g m h : ℕ → Option (Option Page)) (first count : ℕ) (found : Option Page) → 0 < count → ((q : ℕ) → first < q → q < first + count → g q ≡ None) → ((q : ℕ) → eqb first q ≡ false → m q ≡ g q)
    → run_at m first ≡ found → ((q : ℕ) → eqb (first + count) q ≡ false → h q ≡ m q) → run_at h (first + count) ≡ run_at g (first + count)
    → (n : ℕ) → run_at h n ≡ range_set (run_at g) first count found n
set_then g m h first count found some none same is after next n =
    ⊎_elim
    (λ (b : n < first + count). run_at-below h m n (λ q k. after q (other (first + count) q (inr (omega (arith, b, k))))) ∙ set_before g m first count found none same is n b)
    (λ (b : first + count < suc n). rw (in_range-false_above first count n (omega (arith, b)))
    (run_at-above h g (first + count) n b next (λ q k j. after q (other (first + count) q (inl k)) ∙ same q (other first q (inl (omega (arith, k, some)))))))
    (nat_split n (first + count))

-- the same of the pages that have a number of 64 bits
pub bounded : (old new : ℕ → Option Page) (first count : ℕ) (found : Option Page) → first + count ≤ 2 ^ 64 → ((n : ℕ) → n < 2 ^ 64 → new n ≡ range_set old first count found n)
    → (n : ℕ) → (if nat_lt n (2 ^ 64) then new n else None) ≡ range_set (λ k. if nat_lt k (2 ^ 64) then old k else None) first count found n
bounded old new first count found room is n =
    ⊎_elim
    (λ (b : n < 2 ^ 64). rw (lt-true n (2 ^ 64) b) (is n b))
    (λ (b : 2 ^ 64 < suc n). rw (lt-false n (2 ^ 64) (omega (arith, b)), in_range-false_above first count n (omega (arith, b, room))) refl)
    (nat_split n (2 ^ 64))

-- pages that are changed one run after another
pub range_more : (old mid new : ℕ → Option Page) (first i more : ℕ) (change : Change) → ((n : ℕ) → mid n ≡ range_changed old first i change n)
    → ((n : ℕ) → new n ≡ range_changed mid (first + i) more change n) → (n : ℕ) → new n ≡ range_changed old first (i + more) change n
range_more old mid new first i more change before after n = grind (arith, nat_tests, before n, after n)

-- equal pages that are set to what becomes of the first are changed
pub set_changed : (old new : ℕ → Option Page) (first count : ℕ) (found : Option Page) (change : Change) → found ≡ changed change (old first) → ((n : ℕ) → first ≤ n → n < first + count → old n ≡ old first)
    → ((n : ℕ) → new n ≡ range_set old first count found n) → (n : ℕ) → new n ≡ range_changed old first count change n
set_changed old new first count found change is same set n =
    set n ∙ ⊎_elim
    (λ (h : (in_range first count n ≡ true) × (first ≤ n) × (n < first + count)). rw h.0 (is ∙ ap (changed change) (sym (same n h.1 h.2))))
    (λ (h : (in_range first count n ≡ false) × ((n < first) ⊎ (first + count ≤ n))). rw h.0 refl)
    (in_range_tells first count n)

-- what a map has at keys in order
lt-cmp : (a b : ℕ) → a < b → is_lt (nat_cmp a b) ≡ true
lt-cmp a b l = grind (arith, nat_tests)

le-cmp : (a b : ℕ) → a ≤ b → is_gt (nat_cmp a b) ≡ false
le-cmp a b l = grind (arith, nat_tests)

ne-cmp : (a b : ℕ) → b < a → is_eq (nat_cmp a b) ≡ false
ne-cmp a b l = grind (arith, nat_tests)

no_key : (one : Option (Option Page)) → (IsSome one → ⊥) → one ≡ None
no_key None none = refl
no_key (Some found) none = absurd (none refl)

pub look_is : (g : ℕ → Option (Option Page)) (key page : ℕ) (found : Option Page) → page < 2 ^ 64 → is_gt (nat_cmp key page) ≡ false → g key ≡ Some found
    → ((q : ℕ) → is_gt (nat_cmp q page) ≡ false → IsSome (g q) → is_lt (nat_cmp key q) ≡ false) → found ≡ (if nat_lt page (2 ^ 64) then run_at g page else None)
look_is g key page found fits before is last =
    rw (lt-true page (2 ^ 64) fits)
    (sym
    (run_at-flat g key page (let l = le_from_not_gt key page before in omega (arith, l)) (λ q m k. no_key (g q) (λ s. false≢true (sym (last q (le-cmp q page k) s) ∙ lt-cmp key q m)))
    ∙ run_at-is g key found is))

either : (b : Bool) (found : Option Page) → (if b then found else found) ≡ found
either true found = refl
either false found = refl

pub look_none : (g : ℕ → Option (Option Page)) (page : ℕ) → ((q : ℕ) → is_gt (nat_cmp q page) ≡ false → g q ≡ None) → None ≡ (if nat_lt page (2 ^ 64) then run_at g page else None)
look_none g page none = sym (rw (run_at-none g page (λ q l. none q (le-cmp q page l))) (either (nat_lt page (2 ^ 64)) None))

-- pages between starts
pub same_until : (g : ℕ → Option (Option Page)) (page count n : ℕ) → page + count ≤ 2 ^ 64 → ((q : ℕ) → page < q → q < page + count → g q ≡ None) → page ≤ n → n < page + count
    → (if nat_lt n (2 ^ 64) then run_at g n else None) ≡ (if nat_lt page (2 ^ 64) then run_at g page else None)
same_until g page count n room none from to =
    rw (lt-true n (2 ^ 64) (omega (arith, to, room)), lt-true page (2 ^ 64) (omega (arith, from, to, room))) (run_at-flat g page n (omega (arith, from)) (λ q m k. none q m (omega (arith, k, to))))

-- a start that is taken away, or put
bounded_is : (run : Option Page) (n : ℕ) (found : Option Page) → n < 2 ^ 64 → (if nat_lt n (2 ^ 64) then run else None) ≡ found → run ≡ found
bounded_is run n found fits is = rw (lt-true n (2 ^ 64) fits) at is

pub start_joined : (g h : ℕ → Option (Option Page)) (page : ℕ) (found : Option Page) → 0 < page → page < 2 ^ 64 → h page ≡ None → ((q : ℕ) → is_eq (nat_cmp page q) ≡ false → h q ≡ g q)
    → (if nat_lt (page - 1) (2 ^ 64) then run_at g (page - 1) else None) ≡ found → (if nat_lt page (2 ^ 64) then run_at h page else None) ≡ found
start_joined g h page found some fits none same before =
    rw (lt-true page (2 ^ 64) fits)
    (run_at-joined h page some none ∙ run_at-below h g (page - 1) (λ q l. same q (ne-cmp page q (omega (arith, l, some))))
    ∙ bounded_is (run_at g (page - 1)) (page - 1) found (omega (arith, some, fits)) before)

pub start_put : (h : ℕ → Option (Option Page)) (page : ℕ) (found : Option Page) → page < 2 ^ 64 → h page ≡ Some found → (if nat_lt page (2 ^ 64) then run_at h page else None) ≡ found
start_put h page found fits is = rw (lt-true page (2 ^ 64) fits) (run_at-is h page found is)

-- pages that are set, by what a table says
pub set_last : (g m : ℕ → Option (Option Page)) (first count : ℕ) (found : Option Page) → first < 2 ^ 64 → first + count ≤ 2 ^ 64 → 2 ^ 64 ≤ first + count
    → ((q : ℕ) → first < q → q < first + count → g q ≡ None) → ((q : ℕ) → eqb first q ≡ false → m q ≡ g q) → (if nat_lt first (2 ^ 64) then run_at m first else None) ≡ found
    → (n : ℕ) → (if nat_lt n (2 ^ 64) then run_at m n else None) ≡ range_set (λ k. if nat_lt k (2 ^ 64) then run_at g k else None) first count found n
set_last g m first count found fits room high none same is n =
    bounded (run_at g) (run_at m) first count found room
    (λ k l. set_before g m first count found none same (bounded_is (run_at m first) first found fits is) k (omega (arith, l, high))) n

pub set_within : (g m h : ℕ → Option (Option Page)) (first count end : ℕ) (found next : Option Page) → end ≡ first + count → end < 2 ^ 64 → 0 < count
    → ((q : ℕ) → first < q → q < first + count → g q ≡ None) → ((q : ℕ) → eqb first q ≡ false → m q ≡ g q) → (if nat_lt first (2 ^ 64) then run_at m first else None) ≡ found
    → ((q : ℕ) → eqb end q ≡ false → h q ≡ m q) → next ≡ (if nat_lt end (2 ^ 64) then run_at g end else None) → (if nat_lt end (2 ^ 64) then run_at h end else None) ≡ next
    → (n : ℕ) → (if nat_lt n (2 ^ 64) then run_at h n else None) ≡ range_set (λ k. if nat_lt k (2 ^ 64) then run_at g k else None) first count found n
set_within g m h first count end found next ends fits some none same is after next_is ends_is n =
    bounded (run_at g) (run_at h) first count found (omega (arith, ends, fits))
    (λ k l. set_then g m h first count found some none same (bounded_is (run_at m first) first found (omega (arith, ends, fits)) is)
    (subst (λ e. (q : ℕ) → eqb e q ≡ false → h q ≡ m q) ends after)
    (subst (λ e. run_at h e ≡ run_at g e) ends (bounded_is (run_at h end) end next fits ends_is ∙ sym (bounded_is (run_at g end) end next fits (sym next_is)))) k) n

-- two facts of a success
pub both : {A B P Q R : Type 0} (r : Result A B) → OnOk r P → OnOk r Q → (P → Q → R) → OnOk r R
both (Ok x) p q f = f p q
both (Err x) p q f = tt

-- one more run that answers so
pub so_more : (pages : ℕ → Option Page) (test : Option Page → Bool) (first done more : ℕ) (answer : Bool) → ((k : ℕ) → k < done → test (pages (first + k)) ≡ answer) → test (pages (first + done)) ≡ answer
    → ((n : ℕ) → first + done ≤ n → n < first + done + more → pages n ≡ pages (first + done)) → (k : ℕ) → k < done + more → test (pages (first + k)) ≡ answer
so_more pages test first done more answer before here same k l =
    ⊎_elim (λ (b : k < done). before k b) (λ (b : done < suc k). ap test (same (first + k) (omega (arith, b)) (omega (arith, l))) ∙ here) (nat_split k done)

-- flags
pub flags : (a b : Bool) → beq a b ≡ true → a ≡ b
flags true true h = refl
flags false false h = refl
flags true false h = absurd (false≢true h)
flags false true h = absurd (false≢true h)
