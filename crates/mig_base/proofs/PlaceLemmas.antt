-- Pages in places of 1024 each: one place changed, one page changed, and a range gone through place by place.
use Rattle.std.proofs.Common.{◌≡◌, ◌≢◌, ℕ, zero, suc, ◌+◌, ◌-◌, ◌*◌, ◌/◌, ◌%◌, ◌<◌, ◌≤◌, ◌&&◌, Bool, true, false, cond, eqb, ltb, refl, sym, ap, ◌∙◌, ⊎_elim, arith, List, ◌∷◌, [], ◌++◌, length, min, get_or, set, get_or-set_same, get_or-set_other, Option, None}
use mathlib.Core.Logic.{dite}
use native.Mathlib.Decide.{ℕ_discrete}
use Rattle.std.proofs.Math.ListN.{get_or-eq_default}
use Rattle.std.proofs.lemmas.List.{get_or_append_left, get_or-append_right}
use Rattle.std.proofs.lemmas.Option.{same_Some, slice_get-get_or}
use Rattle.std.proofs.lemmas.Bool.Decides.{nat_tests}
use Rattle.std.proofs.lemmas.Bool.{false≢true, eq-eqb, ne_eqb, cases_lt}
use Rattle.foundation.specs.Ranges.{in_range}
use Rattle.mig_base.specs.Places.{is_place, has_place}

-- two pages of one place, and of two
pub same_place : (q page : ℕ) → q / 1024 ≡ page / 1024 → eqb (q % 1024) (page % 1024) ≡ eqb q page
same_place q page e = grind (arith, nat_tests)

pub elsewhere : (q page : ℕ) → q / 1024 ≢ page / 1024 → eqb q page ≡ false
elsewhere q page n = grind (arith, nat_tests)

-- what an index reads
pub read_place : {A : Type 0} (places : List (Option A)) (at : ℕ) (place : Option A) → at < length places → place ≡ get_or places at place → place ≡ get_or places at None
read_place places at place inside h = h ∙ same_Some (get_or places at place) (get_or places at None) (sym (slice_get-get_or places at place inside) ∙ slice_get-get_or places at None inside)

-- What is said of a page, where `said` is what a place says of its page of that number

module _ {A X : Type 0} (said : Option A → ℕ → X) where
  abbrev pub said_of : List (Option A) → ℕ → X
  said_of places q = said (get_or places (q / 1024) None) (q % 1024)

  -- a page, by its place
  pub said_at : (places : List (Option A)) (q at : ℕ) → q / 1024 ≡ at → said (get_or places at None) (q % 1024) ≡ said_of places q
  said_at places q at e = ap (λ k. said (get_or places k None) (q % 1024)) (sym e)

  pub said_here : (places : List (Option A)) (place : Option A) (q : ℕ) → q / 1024 < length places → place ≡ get_or places (q / 1024) place → said place (q % 1024) ≡ said_of places q
  said_here places place q inside h = ap (λ p. said p (q % 1024)) (read_place places (q / 1024) place inside h)

  pub said_past : (places : List (Option A)) (q : ℕ) → length places ≤ q / 1024 → said_of places q ≡ said None (q % 1024)
  said_past places q h = ap (λ o. said o (q % 1024)) (get_or-eq_default places None h)

  -- one place changed
  pub said-set : (places : List (Option A)) (at : ℕ) (place : Option A) (q : ℕ) → at < length places → said_of (set places at place) q ≡ cond (eqb (q / 1024) at) (said place (q % 1024)) (said_of places q)
  said-set places at place q inside =
      dite (ℕ_discrete (q / 1024) at)
      (λ e. ap (λ k. said (get_or (set places at place) k None) (q % 1024)) e ∙ ap (λ o. said o (q % 1024)) (get_or-set_same places at place None inside) ∙ sym (ap (λ b. cond b (said place (q % 1024)) (said_of places q)) (eq-eqb (q / 1024) at e)))
      (λ n. ap (λ o. said o (q % 1024)) (get_or-set_other places at (q / 1024) place None n) ∙ sym (ap (λ b. cond b (said place (q % 1024)) (said_of places q)) (ne_eqb (q / 1024) at n)))

  -- a place that says the same
  pub said_same : (places : List (Option A)) (at : ℕ) (place : Option A) → at < length places → ((i : ℕ) → said place i ≡ said (get_or places at None) i) → (q : ℕ) → said_of (set places at place) q ≡ said_of places q
  said_same places at place inside h q =
      said-set places at place q inside
      ∙ dite (ℕ_discrete (q / 1024) at)
      (λ e. rw (eq-eqb (q / 1024) at e) (h (q % 1024) ∙ said_at places q at e))
      (λ n. rw (ne_eqb (q / 1024) at n) refl)

  -- one place more, with nothing in it
  pub said-push : (places : List (Option A)) (q : ℕ) → said_of (places ++ None ∷ []) q ≡ said_of places q
  said-push places q =
      ap (λ o. said o (q % 1024))
      (⊎_elim
      (λ (below : q / 1024 < length places). get_or_append_left places (None ∷ []) None (q / 1024) below)
      (λ (past : length places ≤ q / 1024). get_or-append_right places (None ∷ []) (length places) (q / 1024) None refl past ∙ only_none (q / 1024 - length places) ∙ sym (get_or-eq_default places None past))
      (cases_lt (q / 1024) (length places)))
    where
      only_none : (i : ℕ) → get_or {A = Option A} (None ∷ []) i None ≡ None
      only_none zero = refl
      only_none (suc i) = refl

  -- one page changed
  pub said-put : (places : List (Option A)) (page : ℕ) (place : Option A) (new : X) → page / 1024 < length places → ((i : ℕ) → said place i ≡ cond (eqb i (page % 1024)) new (said (get_or places (page / 1024) None) i)) → (q : ℕ) → said_of (set places (page / 1024) place) q ≡ cond (eqb q page) new (said_of places q)
  said-put places page place new inside h q =
      said-set places (page / 1024) place q inside
      ∙ dite (ℕ_discrete (q / 1024) (page / 1024))
      (λ e. rw (eq-eqb (q / 1024) (page / 1024) e) (h (q % 1024) ∙ ap (λ b. cond b new (said (get_or places (page / 1024) None) (q % 1024))) (same_place q page e) ∙ ap (λ o. cond (eqb q page) new o) (said_at places q (page / 1024) e)))
      (λ n. rw (ne_eqb (q / 1024) (page / 1024) n) (ap (λ b. cond b new (said_of places q)) (sym (elsewhere q page n))))

-- Whether there is a leaf for a page

pub own_place : {A : Type 0} (places : List (Option A)) (place : Option A) (q : ℕ) → q / 1024 < length places → place ≡ get_or places (q / 1024) place → is_place place ≡ has_place places q
unfolding has_place
own_place places place q inside h = said_here (λ p i. is_place p) places place q inside h

pub past_leaves : {A : Type 0} (places : List (Option A)) (q : ℕ) → length places ≤ q / 1024 → has_place places q ≡ false
unfolding has_place
past_leaves places q h = said_past (λ p i. is_place p) places q h

-- a page with a leaf is inside
pub place_inside : {A : Type 0} (places : List (Option A)) (q : ℕ) → has_place places q ≡ true → q / 1024 < length places
place_inside places q h =
    ⊎_elim
    (λ (below : q / 1024 < length places). below)
    (λ (past : length places ≤ q / 1024). absurd (false≢true (sym (past_leaves places q past) ∙ h)))
    (cases_lt (q / 1024) (length places))

pub has_place-set : {A : Type 0} (places : List (Option A)) (at : ℕ) (place : Option A) (q : ℕ) → at < length places → has_place (set places at place) q ≡ cond (eqb (q / 1024) at) (is_place place) (has_place places q)
unfolding has_place
has_place-set places at place q inside = said-set (λ p i. is_place p) places at place q inside

pub has_place-push : {A : Type 0} (places : List (Option A)) (q : ℕ) → has_place (places ++ None ∷ []) q ≡ has_place places q
unfolding has_place
has_place-push places q = said-push (λ p i. is_place p) places q

-- a leaf stays a leaf, and none stays none
pub places_stay : {A : Type 0} (places : List (Option A)) (at : ℕ) (place : Option A) → at < length places → is_place place ≡ is_place (get_or places at None) → (q : ℕ) → has_place (set places at place) q ≡ has_place places q
unfolding has_place
places_stay places at place inside h q = said_same (λ p i. is_place p) places at place inside (λ i. h) q

pub place_of_set : {A : Type 0} (places : List (Option A)) (page : ℕ) (place : Option A) → page / 1024 < length places → is_place place ≡ true → has_place (set places (page / 1024) place) page ≡ true
place_of_set places page place inside h = has_place-set places (page / 1024) place page inside ∙ rw (eq-eqb (page / 1024) (page / 1024) refl) h

pub places_kept : {A : Type 0} (places : List (Option A)) (at : ℕ) (place : Option A) → at < length places → (is_place (get_or places at None) ≡ true → is_place place ≡ true) → (q : ℕ) → has_place places q ≡ true → has_place (set places at place) q ≡ true
unfolding has_place
places_kept places at place inside h q t =
    has_place-set places at place q inside
    ∙ dite (ℕ_discrete (q / 1024) at)
    (λ e. rw (eq-eqb (q / 1024) at e) (h (sym (ap (λ k. is_place (get_or places k None)) e) ∙ t)))
    (λ n. rw (ne_eqb (q / 1024) at n) t)

-- two pages of one place
pub same_leaf : {A : Type 0} {b : Bool} (places : List (Option A)) (p q : ℕ) → q / 1024 ≡ p / 1024 → has_place places p ≡ b → has_place places q ≡ b
unfolding has_place
same_leaf places p q e h = ap (λ k. is_place (get_or places k None)) e ∙ h

-- A range gone through place by place

pub nothing_yet : (q first count : ℕ) → (ltb q (1024 * (first / 1024)) && in_range first count q) ≡ false
nothing_yet q first count = grind (arith, nat_tests)

pub all_now : (q first count at : ℕ) → first + count ≤ 1024 * at → (ltb q (1024 * at) && in_range first count q) ≡ in_range first count q
all_now q first count at h = grind (arith, nat_tests)

pub in_this : (q first count at low high : ℕ) → q / 1024 ≡ at → low ≡ first - 1024 * at → high ≡ min (first + count - 1024 * at) 1024 → low ≤ high → in_range low (high - low) (q % 1024) ≡ (ltb q (1024 * (at + 1)) && in_range first count q)
in_this q first count at low high e a b h = grind (arith, nat_tests)

pub before_this : (q at : ℕ) → q / 1024 ≡ at → ltb q (1024 * at) ≡ false
before_this q at e = grind (arith, nat_tests)

pub not_this : (q at : ℕ) → q / 1024 ≢ at → ltb q (1024 * (at + 1)) ≡ ltb q (1024 * at)
not_this q at e = grind (arith, nat_tests)
