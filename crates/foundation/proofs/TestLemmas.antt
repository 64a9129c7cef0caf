-- Small facts on tests, options and numbers that the standard library does not have.
use Rattle.std.proofs.Common.{◌≡◌, ℕ, suc, ◌<◌, ◌≤◌, ◌&&◌, ◌||◌, Bool, true, false, cond, not, eqb, ltb, Option, Some, None, is_some, refl, sym, ap, ◌∙◌, ◌⊎◌, arith}
use Rattle.std.proofs.lemmas.Bool.Decides.{nat_tests}
use Rattle.std.proofs.lemmas.Bool.{false≢true, and_parts, or_parts}

-- Tests

pub and_first : (a b : Bool) → (a && b) ≡ true → a ≡ true
and_first a b h = (and_parts a b h).0

pub and_second : (a b : Bool) → (a && b) ≡ true → b ≡ true
and_second a b h = (and_parts a b h).1

pub or_first : (a b : Bool) → (a || b) ≡ false → a ≡ false
or_first a b h = (or_parts a b h).0

pub or_second : (a b : Bool) → (a || b) ≡ false → b ≡ false
or_second a b h = (or_parts a b h).1

pub and_true : (b : Bool) → (b && true) ≡ b
and_true true = refl
and_true false = refl

pub and_false : (b : Bool) → (b && false) ≡ false
and_false true = refl
and_false false = refl

pub or_assoc : (a b c : Bool) → (a || (b || c)) ≡ ((a || b) || c)
or_assoc true b c = refl
or_assoc false b c = refl

pub cond_not : {A : Type 0} (b : Bool) (x y : A) → cond (not b) x y ≡ cond b y x
cond_not true x y = refl
cond_not false x y = refl

pub cond_none : {A : Type 0} (b : Bool) (o : Option A) → o ≡ None → cond b None o ≡ None
cond_none true o h = refl
cond_none false o h = h

pub cond_true : (b c : Bool) → cond b true c ≡ (b || c)
cond_true true c = refl
cond_true false c = refl

pub cond_false : (b c : Bool) → cond b false c ≡ (not b && c)
cond_false true c = refl
cond_false false c = refl

pub and_not : (b out : Bool) → (b && not out) ≡ cond out false b
and_not true true = refl
and_not true false = refl
and_not false true = refl
and_not false false = refl

-- Options

pub is_some-cond : {A : Type 0} (b : Bool) (x : A) (o : Option A) → is_some (cond b (Some x) o) ≡ cond b true (is_some o)
is_some-cond true x o = refl
is_some-cond false x o = refl

pub missing_none : {A : Type 0} (o : Option A) → is_some o ≡ false → o ≡ None
missing_none None h = refl
missing_none (Some x) h = absurd (false≢true (sym h))

pub none_is_some : {A : Type 0} (o : Option A) → o ≡ None → is_some o ≡ true → ⊥
none_is_some o none some = false≢true (ap is_some (sym none) ∙ some)

pub some_is_none : {A : Type 0} (x : A) (o : Option A) → o ≡ Some x → o ≡ None → ⊥
some_is_none x o some none = let e : Some x ≡ None = sym some ∙ none in cc

pub never_some : {A : Type 0} (o : Option A) → ((x : A) → o ≡ Some x → ⊥) → o ≡ None
never_some None never = refl
never_some (Some x) never = absurd (never x refl)

-- Numbers

pub eqb-self : (n : ℕ) → eqb n n ≡ true
eqb-self n = grind (arith, nat_tests)

pub eqb-above : (a b : ℕ) → b < a → eqb a b ≡ false
eqb-above a b h = grind (arith, nat_tests)

pub positive : (n : ℕ) → eqb n 0 ≡ false → 0 < n
positive n h = grind (arith, nat_tests)

pub none_or_some : (n : ℕ) → (n ≡ 0) ⊎ (0 < n)
none_or_some n = grind (arith, nat_tests)

pub same_or_other : (a b : ℕ) → (a ≡ b) ⊎ (eqb a b ≡ false)
same_or_other a b = grind (arith, nat_tests)

pub at_or_below : (a b : ℕ) → (a ≤ b) ⊎ (b < a)
at_or_below a b = grind (arith, nat_tests)

-- a number that is below the next one is below, or is it
pub below_or_at : (i n : ℕ) → i < suc n → (i < n) ⊎ (i ≡ n)
below_or_at i n h = grind (arith, nat_tests)

pub none_below_zero : (n : ℕ) (b : Bool) → false ≡ (ltb n 0 && b)
none_below_zero n b = grind (arith, nat_tests)

-- a test that fails from the bound on needs no bound
pub all_below : (n bound : ℕ) (b : Bool) → (bound ≤ n → b ≡ false) → (ltb n bound && b) ≡ b
all_below n bound b h = grind (arith, nat_tests)
