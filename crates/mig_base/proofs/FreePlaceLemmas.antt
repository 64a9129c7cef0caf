-- Which places are free, by pages.
use Rattle.std.proofs.Common.{◌≡◌, ℕ, ◌+◌, ◌-◌, ◌*◌, ◌/◌, ◌%◌, ◌<◌, ◌≤◌, ◌&&◌, Bool, true, false, eqb, leb, Some, None, refl, subst, ◌⊎◌, ⊎_elim, arith}
use Rattle.std.proofs.lemmas.Bool.{eq-eqb, eqb-true, cases_Bool, le-leb, leb-true}
use Rattle.mig_base.specs.declared.TheConstants.{LOW, HIGH, LOW_PAGE, HIGH_PAGE}
use Rattle.foundation.specs.Ranges.{none_below}
use Rattle.mig_base.specs.FreePlaces.{free_place, is_free_place}
use Rattle.foundation.proofs.RangeLemmas.{none_below_tells, none_below-from, least_below-is, least_below-none, least_below_tells}
use Rattle.foundation.proofs.TestLemmas.{and_first, and_second}

-- the parts of a test of four
pub record HasFour (a b c d : Bool) : Type 0 where
  pub one : a ≡ true
  pub two : b ≡ true
  pub three : c ≡ true
  pub four : d ≡ true

pub four_hold : (a b c d : Bool) → (a && b && c && d) ≡ true → HasFour a b c d
four_hold a b c d h =
    let abc = and_first (a && b && c) d h in
    let ab = and_first (a && b) c abc in
    record { one = and_first a b ab; two = and_second a b ab; three = and_second (a && b) c abc; four = and_second (a && b && c) d h }

-- none of the pages is taken, and they lie inside the address space
pub record IsFreeRun (taken : ℕ → Bool) (count start : ℕ) : Type 0 where
  pub low : LOW_PAGE ≤ start
  pub high : start + count ≤ HIGH_PAGE
  pub free : (page : ℕ) → start ≤ page → page < start + count → taken page ≡ false

place_of_run : (taken : ℕ → Bool) (len start : ℕ) → IsFreeRun taken ((len + 4095) / 4096) start → is_free_place (λ addr. taken (addr / 4096)) len (start * 4096) ≡ true
place_of_run taken len start h =
    let low = h.low in
    let high = h.high in
    rw (eq-eqb (start * 4096 % 4096) 0 (omega arith), le-leb LOW (start * 4096) (omega arith), le-leb (start * 4096 + len) HIGH (omega arith))
    (none_below-from (λ i. taken ((start * 4096 + i) / 4096)) len (λ i l. h.free ((start * 4096 + i) / 4096) (omega arith) (omega arith)))

run_of_place : (taken : ℕ → Bool) (len place : ℕ) → is_free_place (λ addr. taken (addr / 4096)) len place ≡ true → (place ≡ place / 4096 * 4096) × IsFreeRun taken ((len + 4095) / 4096) (place / 4096)
run_of_place taken len place h =
    let parts = four_hold (eqb (place % 4096) 0) (leb LOW place) (leb (place + len) HIGH) (none_below (λ i. taken ((place + i) / 4096)) len) h in
    let whole = eqb-true (place % 4096) 0 parts.one in
    let low = leb-true LOW place parts.two in
    let high = leb-true (place + len) HIGH parts.three in (
      omega arith,
      record {
        low = omega arith;
        high = omega arith;
        free = λ page a b.
            let at : (place + 4096 * (page - place / 4096)) / 4096 ≡ page = omega arith in
            subst (λ p. taken p ≡ false) at (none_below_tells (λ i. taken ((place + i) / 4096)) len (4096 * (page - place / 4096)) parts.four (omega arith));
      },
    )

pub free_place-is : (taken : ℕ → Bool) (len start : ℕ) → 0 < len → IsFreeRun taken ((len + 4095) / 4096) start → ((other : ℕ) → IsFreeRun taken ((len + 4095) / 4096) other → start ≤ other) → free_place (λ addr. taken (addr / 4096)) len ≡ Some (start * 4096)
free_place-is taken len start some h least =
    let high = h.high in
    least_below-is (is_free_place (λ addr. taken (addr / 4096)) len) HIGH (start * 4096) (omega arith) (place_of_run taken len start h)
    (λ j l. ⊎_elim
    (λ (e : is_free_place (λ addr. taken (addr / 4096)) len j ≡ true).
    let run = run_of_place taken len j e in
    let whole = run.0 in
    let above = least (j / 4096) run.1 in
    absurd (omega arith))
    (λ (e : is_free_place (λ addr. taken (addr / 4096)) len j ≡ false). e)
    (cases_Bool (is_free_place (λ addr. taken (addr / 4096)) len j)))

pub free_place-none : (taken : ℕ → Bool) (len : ℕ) → ((other : ℕ) → IsFreeRun taken ((len + 4095) / 4096) other → ⊥) → free_place (λ addr. taken (addr / 4096)) len ≡ None
free_place-none taken len none =
    least_below-none (is_free_place (λ addr. taken (addr / 4096)) len) HIGH
    (λ j l. ⊎_elim
    (λ (e : is_free_place (λ addr. taken (addr / 4096)) len j ≡ true). absurd (none (j / 4096) (run_of_place taken len j e).1))
    (λ (e : is_free_place (λ addr. taken (addr / 4096)) len j ≡ false). e)
    (cases_Bool (is_free_place (λ addr. taken (addr / 4096)) len j)))

-- a range of no bytes is free at once
pub free_place-zero : (taken : ℕ → Bool) → free_place taken 0 ≡ Some LOW
unfolding none_below
free_place-zero taken =
    least_below-is (is_free_place taken 0) HIGH LOW (omega arith) refl
    (λ j l. ⊎_elim
    (λ (e : is_free_place taken 0 j ≡ true).
    let parts = four_hold (eqb (j % 4096) 0) (leb LOW j) (leb (j + 0) HIGH) true e in
    let low = leb-true LOW j parts.two in
    absurd (omega arith))
    (λ (e : is_free_place taken 0 j ≡ false). e)
    (cases_Bool (is_free_place taken 0 j)))

pub place_found : (taken : ℕ → Bool) (len start : ℕ) → free_place taken len ≡ Some start → is_free_place taken len start ≡ true
place_found taken len start h = least_below_tells (is_free_place taken len) HIGH start h

pub run_found : (taken : ℕ → Bool) (len start : ℕ) → free_place (λ addr. taken (addr / 4096)) len ≡ Some start → (start ≡ start / 4096 * 4096) × IsFreeRun taken ((len + 4095) / 4096) (start / 4096)
run_found taken len start h = run_of_place taken len start (place_found (λ addr. taken (addr / 4096)) len start h)
