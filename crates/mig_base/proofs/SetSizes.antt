-- How many pages sets and maps have, compared.
use Rattle.std.proofs.Common.{◌≡◌, ℕ, zero, suc, ◌+◌, ◌-◌, ◌<◌, ◌≤◌, Bool, true, false, cond, sym, ap, ◌∙◌, ⊎_elim, arith}
use Rattle.std.specs.Ordering.{nat_cmp}
use Rattle.std.specs.Cmp.{nat_cmp_total}
use Rattle.std.specs.FinSet as finset
use Rattle.std.specs.FinSet.{FinSet, contains, len, contains-empty, empty_of_len, len-remove}
use Rattle.std.proofs.lemmas.Bool.{cases_lt, false≢true}
use Rattle.std.proofs.lemmas.Bool.Decides.{nat_tests}
use Rattle.mig_base.specs.declared.TheConstants.{HIGH_PAGE}
use Rattle.foundation.specs.Ranges.{count_below}
use Rattle.mig_base.specs.Sets.{set_below}
use Rattle.foundation.proofs.TestLemmas.{all_below}
use Rattle.mig_base.proofs.SetLemmas.{len-set_below, member_below, same_members}

more_if : (b c : Bool) (m n : ℕ) → (b ≡ true → c ≡ true) → m ≤ n → m + cond b 1 0 ≤ n + cond c 1 0
more_if b c m n h l = grind (arith, nat_tests)

-- a test that passes wherever another does passes as often at least
pub count_below-few : (p q : ℕ → Bool) (bound : ℕ) → ((i : ℕ) → p i ≡ true → q i ≡ true) → count_below p bound ≤ count_below q bound
unfolding count_below
count_below-few p q zero h = omega arith
count_below-few p q (suc bound) h = more_if (p bound) (q bound) (count_below p bound) (count_below q bound) (h bound) (count_below-few p q bound h)

-- a set whose pages lie below a bound
pub len-below : (set : FinSet nat_cmp) (bound : ℕ) → ((q : ℕ) → bound ≤ q → contains set q ≡ false) → len set ≡ count_below (contains set) bound
len-below set bound h =
    ap len (same_members set (set_below (contains set) bound) (λ q. sym (member_below (contains set) bound q ∙ all_below q bound (contains set q) (h q))))
    ∙ len-set_below (contains set) bound

-- what holds only where something else does holds nowhere else
pub only_where : (one other : Bool) → (one ≡ true → other ≡ true) → other ≡ false → one ≡ false
only_where one other h none = grind (arith, nat_tests)

-- a part of such a set has no more pages than it
pub len-part : (part set : FinSet nat_cmp) → ((q : ℕ) → contains part q ≡ true → contains set q ≡ true) → ((q : ℕ) → HIGH_PAGE ≤ q → contains set q ≡ false) → len part ≤ len set
len-part part set h low =
    let few = count_below-few (contains part) (contains set) HIGH_PAGE h in
    let one = len-below part HIGH_PAGE (λ q l. only_where (contains part q) (contains set q) (h q) (low q l)) in
    let all = len-below set HIGH_PAGE low in
    omega (arith, few, one, all)

-- a part of such a set that lacks one of its pages has fewer
more_than : (b c : Bool) (m n : ℕ) → (b ≡ true → c ≡ true) → m < n → m + cond b 1 0 < n + cond c 1 0
more_than b c m n h l = grind (arith, nat_tests)

count_below-fewer : (p q : ℕ → Bool) (bound k : ℕ) → k < bound → ((i : ℕ) → p i ≡ true → q i ≡ true) → p k ≡ false → q k ≡ true → count_below p bound < count_below q bound
unfolding count_below
count_below-fewer p q zero k low h out here = absurd (omega arith)
count_below-fewer p q (suc bound) k low h out here =
    ⊎_elim
    (λ (below : k < bound). more_than (p bound) (q bound) (count_below p bound) (count_below q bound) (h bound) (count_below-fewer p q bound k below h out here))
    (λ (last : bound ≤ k).
    let at : k ≡ bound = omega arith in
    let lacks : p bound ≡ false = ap p (sym at) ∙ out in
    let has : q bound ≡ true = ap q (sym at) ∙ here in
    let few = count_below-few p q bound h in
    rw (lacks, has) (omega (arith, few)))
    (cases_lt k bound)

pub len-fewer : (part set : FinSet nat_cmp) (page : ℕ) → ((q : ℕ) → contains part q ≡ true → contains set q ≡ true) → ((q : ℕ) → HIGH_PAGE ≤ q → contains set q ≡ false) → contains part page ≡ false → contains set page ≡ true → len part < len set
len-fewer part set page h low out here =
    let below : page < HIGH_PAGE = ⊎_elim (λ (l : page < HIGH_PAGE). l) (λ (past : HIGH_PAGE ≤ page). absurd (false≢true (sym (low page past) ∙ here))) (cases_lt page HIGH_PAGE) in
    let fewer = count_below-fewer (contains part) (contains set) HIGH_PAGE page below h out here in
    let one = len-below part HIGH_PAGE (λ q l. only_where (contains part q) (contains set q) (h q) (low q l)) in
    let all = len-below set HIGH_PAGE low in
    omega (arith, fewer, one, all)

-- a set without one of its pages has one less
one_less : (here : Bool) (n m : ℕ) → m ≡ cond here (n - 1) n → here ≡ true → m ≡ n - 1
one_less here n m h is = grind (arith, nat_tests)

pub len-removed : (set : FinSet nat_cmp) (page : ℕ) → contains set page ≡ true → len (finset.remove set page) ≡ len set - 1
len-removed set page h = one_less (contains set page) (len set) _ (len-remove nat_cmp_total set page) h

-- a set with a page has one at least
some_len : (n : ℕ) → (n ≡ 0 → ⊥) → 1 ≤ n
some_len n h = grind (arith, nat_tests)

pub len-some : (set : FinSet nat_cmp) (page : ℕ) → contains set page ≡ true → 1 ≤ len set
len-some set page h = some_len (len set) (λ none. false≢true (sym (ap (λ s. contains s page) (empty_of_len set none) ∙ contains-empty nat_cmp page) ∙ h))
