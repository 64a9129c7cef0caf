-- Tables of 1024 pages as one: one table changed, one page changed, a range cleared, a range moved.
use Rattle.std.proofs.Common.{◌≡◌, ◌≢◌, ℕ, ◌+◌, ◌-◌, ◌*◌, ◌/◌, ◌%◌, ◌<◌, ◌≤◌, ◌&&◌, Bool, true, false, cond, eqb, ltb, refl, sym, ap, ◌∙◌, ◌⊎◌, ⊎_elim, inl, inr, arith, List, ◌∷◌, [], ◌++◌, length, min, get_or, set, Option, Some, None, option_copied, Decides, Bor}
use mathlib.Core.Bool.{beq}
use mathlib.Core.Logic.{dite}
use native.Mathlib.Decide.{ℕ_discrete}
use Rattle.std.proofs.lemmas.Bool.Decides.{nat_tests, Decides-like}
use Rattle.std.proofs.lemmas.Bool.{false≢true, eq-eqb, ne_eqb, cases_lt}
use Rattle.std.proofs.lemmas.List.{get_or_append_left, get_or-append_right}
use Rattle.std.proofs.lemmas.Option.{none-some, same_Some}
use Rattle.std.proofs.lemmas.Slice.Eq.{bytes_eq-Decides}
use Rattle.std.specs.Option.{option_eq}
use Rattle.std.specs.Cmp.Lexicographic.{pointwise}
use Rattle.foundation.specs.declared.TheConstants.{PAGE_SIZE}
use Rattle.foundation.specs.Ranges.{in_range}
use Rattle.foundation.proofs.RangeLemmas.{in_range-none, in_range-out}
use Rattle.mig_base.proofs.PlaceLemmas.{said_at, said_here, said_past, said-set, said_same, said-push, said-put, nothing_yet, all_now, in_this, before_this, not_this}
use Rattle.page_table.specs.Leaves.{Cell, Place, cell_in, cell_at, is_place, no_cell, moved_cell}

abbrev pub Places : Type 0
Places = List Place

-- a page, by its table
pub at_place : (places : Places) (q at : ℕ) → q / 1024 ≡ at → cell_in (get_or places at None) (q % 1024) ≡ cell_at places q
unfolding cell_at
at_place places q at e = said_at cell_in places q at e

pub at_own_place : (places : Places) (place : Place) (q : ℕ) → q / 1024 < length places → place ≡ get_or places (q / 1024) place → cell_in place (q % 1024) ≡ cell_at places q
unfolding cell_at
at_own_place places place q inside h = said_here cell_in places place q inside h

pub past_places : (places : Places) (q : ℕ) → length places ≤ q / 1024 → cell_at places q ≡ no_cell
unfolding cell_at
past_places places q h = said_past cell_in places q h

-- no page of a place without a leaf is present
pub nothing_in : (place : Place) (i : ℕ) → is_place place ≡ false → (cell_in place i).0 ≡ None
nothing_in None i none = refl
nothing_in (Some leaf) i none = absurd (false≢true (sym none))

-- one table changed
pub cell_at-set : (places : Places) (at : ℕ) (place : Place) (q : ℕ) → at < length places → cell_at (set places at place) q ≡ cond (eqb (q / 1024) at) (cell_in place (q % 1024)) (cell_at places q)
unfolding cell_at
cell_at-set places at place q inside = said-set cell_in places at place q inside

-- a table with the same cells
pub cells_stay : (places : Places) (at : ℕ) (place : Place) → at < length places → ((i : ℕ) → cell_in place i ≡ cell_in (get_or places at None) i) → (q : ℕ) → cell_at (set places at place) q ≡ cell_at places q
unfolding cell_at
cells_stay places at place inside h q = said_same cell_in places at place inside h q

pub cell_at-push : (places : Places) (q : ℕ) → cell_at (places ++ None ∷ []) q ≡ cell_at places q
unfolding cell_at
cell_at-push places q = said-push cell_in places q

-- one page changed
pub one_cell : (places : Places) (page : ℕ) (place : Place) (cell : Cell) → page / 1024 < length places → ((i : ℕ) → cell_in place i ≡ cond (eqb i (page % 1024)) cell (cell_in (get_or places (page / 1024) None) i)) → (q : ℕ) → cell_at (set places (page / 1024) place) q ≡ cond (eqb q page) cell (cell_at places q)
unfolding cell_at
one_cell places page place cell inside h q = said-put cell_in places page place cell inside h q

pub gone_already : (places : Places) (page q : ℕ) → cell_at places page ≡ no_cell → cell_at places q ≡ cond (eqb q page) no_cell (cell_at places q)
gone_already places page q h =
    dite (ℕ_discrete q page)
    (λ e. rw (eq-eqb q page e) (ap (cell_at places) e ∙ h))
    (λ n. rw (ne_eqb q page n) refl)

-- A range cleared table by table

abbrev pub IsCleared : Places → Places → ℕ → ℕ → ℕ → Type 0
IsCleared old new first count bound = (q : ℕ) → cell_at new q ≡ cond (ltb q bound && in_range first count q) no_cell (cell_at old q)

pub cleared_none : (places : Places) (first count : ℕ) → IsCleared places places first count (1024 * (first / 1024))
cleared_none places first count = λ q. ap (λ b. cond b no_cell (cell_at places q)) (sym (nothing_yet q first count))

pub cleared_all : (old new : Places) (first count at : ℕ) → first + count ≤ 1024 * at → IsCleared old new first count (1024 * at) → (q : ℕ) → cell_at new q ≡ cond (in_range first count q) no_cell (cell_at old q)
cleared_all old new first count at h is q = is q ∙ ap (λ b. cond b no_cell (cell_at old q)) (all_now q first count at h)

pub cleared_more : (old places : Places) (first count at low high : ℕ) (place : Place) → at < length places → IsCleared old places first count (1024 * at) → ((i : ℕ) → cell_in place i ≡ cond (in_range low (high - low) i) no_cell (cell_in (get_or places at None) i)) → low ≡ first - 1024 * at → high ≡ min (first + count - 1024 * at) 1024 → low ≤ high → IsCleared old (set places at place) first count (1024 * (at + 1))
cleared_more old places first count at low high place inside is here a b h = λ q.
    cell_at-set places at place q inside
    ∙ dite (ℕ_discrete (q / 1024) at)
    (λ e. rw (eq-eqb (q / 1024) at e)
    (here (q % 1024)
    ∙ ap (λ t. cond (in_range low (high - low) (q % 1024)) no_cell t) (at_place places q at e ∙ is q ∙ ap (λ t. cond (t && in_range first count q) no_cell (cell_at old q)) (before_this q at e))
    ∙ ap (λ t. cond t no_cell (cell_at old q)) (in_this q first count at low high e a b h)))
    (λ n. rw (ne_eqb (q / 1024) at n) (is q ∙ ap (λ t. cond (t && in_range first count q) no_cell (cell_at old q)) (sym (not_this q at n))))

either : (t r : Bool) (x : Cell) → x ≡ no_cell → cond t no_cell x ≡ cond r no_cell x
either t r x h = ap (cond t no_cell) h ∙ both t r ∙ sym (ap (cond r no_cell) h)
  where
    both : (t r : Bool) → cond t no_cell no_cell ≡ cond r no_cell no_cell
    both true true = refl
    both true false = refl
    both false true = refl
    both false false = refl

pub cleared_past : (old places : Places) (first count at : ℕ) → length places ≡ length old → length places ≤ at → IsCleared old places first count (1024 * at) → IsCleared old places first count (1024 * (at + 1))
cleared_past old places first count at same past is = λ q.
    dite (ℕ_discrete (q / 1024) at)
    (λ e. is q ∙ either _ _ (cell_at old q) (past_places old q (omega arith)))
    (λ n. is q ∙ ap (λ t. cond (t && in_range first count q) no_cell (cell_at old q)) (sym (not_this q at n)))

-- A range moved page by page

pub moved_none : (cells : ℕ → Cell) (from to q : ℕ) → cells q ≡ moved_cell cells from to 0 q
moved_none cells from to q = sym (rw (in_range-none to q, in_range-none from q) refl)

grows_here : (first count i : ℕ) → i ≡ first + count → in_range first (count + 1) i ≡ true
grows_here first count i e = grind (arith, nat_tests)

grows_not : (first count i : ℕ) → i ≢ first + count → in_range first (count + 1) i ≡ in_range first count i
grows_not first count i n = grind (arith, nat_tests)

pub not_moved_yet : (cells : ℕ → Cell) (from to count i : ℕ) → (from + count ≤ to) ⊎ (to + count ≤ from) → i < count → moved_cell cells from to i (from + i) ≡ cells (from + i)
not_moved_yet cells from to count i apart l =
    let a : in_range to i (from + i) ≡ false = in_range-out to i (from + i) (⊎_elim (λ (x : from + count ≤ to). inl (omega arith)) (λ (x : to + count ≤ from). inr (omega arith)) apart) in
    let b : in_range from i (from + i) ≡ false = in_range-out from i (from + i) (inr (omega arith)) in
    rw (a, b) refl

pub moved_more : (cells now : ℕ → Cell) (from to count i : ℕ) (cell : Cell) → (from + count ≤ to) ⊎ (to + count ≤ from) → i < count → ((q : ℕ) → now q ≡ moved_cell cells from to i q) → cell ≡ now (from + i) → (q : ℕ) → cond (eqb q (to + i)) cell (cond (eqb q (from + i)) no_cell (now q)) ≡ moved_cell cells from to (i + 1) q
moved_more cells now from to count i cell apart l is taken q =
    dite (ℕ_discrete q (to + i))
    (λ e. let at : from + i ≡ from + (q - to) = omega arith in
    rw (eq-eqb q (to + i) e, grows_here to i q e) (taken ∙ is (from + i) ∙ not_moved_yet cells from to count i apart l ∙ ap cells at))
    (λ n. rw (ne_eqb q (to + i) n, grows_not to i q n)
    (dite (ℕ_discrete q (from + i))
    (λ e. let out : in_range to i q ≡ false = in_range-out to i q (⊎_elim (λ (x : from + count ≤ to). inl (omega arith)) (λ (x : to + count ≤ from). inr (omega arith)) apart) in
    rw (eq-eqb q (from + i) e, out, grows_here from i q e) refl)
    (λ m. rw (ne_eqb q (from + i) m, grows_not from i q m) (is q))))

whole_in : (place : Place) (i : ℕ) (bytes : List ℕ) → (cell_in place i).0 ≡ Some bytes → length bytes ≡ PAGE_SIZE
whole_in None i bytes h = let absent : None ≡ Some bytes = h in cc
whole_in (Some leaf) i bytes h = let sized = leaf.value.sized in sized i bytes h

-- a page that is present has its bytes
pub whole_cell : (places : Places) (q : ℕ) (bytes : List ℕ) → (cell_at places q).0 ≡ Some bytes → length bytes ≡ PAGE_SIZE
unfolding cell_at
whole_cell places q bytes h = whole_in (get_or places (q / 1024) None) (q % 1024) bytes h

-- A copy, place by place

abbrev pub IsCopied : Places → Places → ℕ → Type 0
IsCopied old copies at = (k : ℕ) → k < at → (i : ℕ) → i < 1024 → cell_in (get_or copies k None) i ≡ cell_in (get_or old k None) i

pub copied_more : (old copies : Places) (at : ℕ) (place : Place) → length copies ≡ at → IsCopied old copies at → ((i : ℕ) → i < 1024 → cell_in place i ≡ cell_in (get_or old at None) i) → IsCopied old (copies ++ place ∷ []) (at + 1)
copied_more old copies at place size is here k l i inside =
    ⊎_elim
    (λ (below : k < length copies). ap (λ o. cell_in o i) (get_or_append_left copies (place ∷ []) None k below) ∙ is k (omega arith) i inside)
    (λ (past : length copies ≤ k).
    let e : k ≡ at = omega arith in
    let zero_more : k - length copies ≡ 0 = omega arith in
    ap (λ o. cell_in o i) (get_or-append_right copies (place ∷ []) (length copies) k None refl past ∙ ap (λ n. get_or (place ∷ []) n None) zero_more)
    ∙ here i inside ∙ ap (λ n. cell_in (get_or old n None) i) (sym e))
    (cases_lt k (length copies))

pub copied_all : (old copies : Places) (bound : ℕ) → length old ≤ bound → length copies ≤ bound → IsCopied old copies bound → (q : ℕ) → cell_at copies q ≡ cell_at old q
copied_all old copies bound size also is q =
    ⊎_elim
    (λ (below : q / 1024 < bound). sym (at_place copies q (q / 1024) refl) ∙ is (q / 1024) below (q % 1024) (omega arith) ∙ at_place old q (q / 1024) refl)
    (λ (past : bound ≤ q / 1024). past_places copies q (omega arith) ∙ sym (past_places old q (omega arith)))
    (cases_lt (q / 1024) bound)

-- the other way round, for one place
pub same_in_place : (places others : Places) (at i : ℕ) → ((q : ℕ) → cell_at places q ≡ cell_at others q) → i < 1024 → cell_in (get_or places at None) i ≡ cell_in (get_or others at None) i
same_in_place places others at i same inside =
    let place : (1024 * at + i) / 1024 ≡ at = omega arith in
    let number : (1024 * at + i) % 1024 ≡ i = omega arith in
    ap (cell_in (get_or places at None)) (sym number) ∙ at_place places (1024 * at + i) at place ∙ same (1024 * at + i) ∙ sym (at_place others (1024 * at + i) at place) ∙ ap (cell_in (get_or others at None)) number

-- What `==` says of what two places have of a page
pub same_read : (one other : Option (Bor (List ℕ))) → Decides (option_eq (λ x y. pointwise eqb x.now y.now) one other) (option_copied one ≡ option_copied other)
same_read None None = (λ _. refl, λ _. refl)
same_read None (Some y) = (λ e. absurd (false≢true e), λ e. absurd (none-some y.now e))
same_read (Some x) None = (λ e. absurd (false≢true e), λ e. absurd (none-some x.now (sym e)))
same_read (Some x) (Some y) = Decides-like (pointwise eqb x.now y.now) (λ e. ap (λ (bytes : List ℕ). Some bytes) e) (same_Some x.now y.now) (bytes_eq-Decides x.now y.now)

same_flags : (b c : Bool) → beq b c ≡ true → b ≡ c
same_flags true true e = refl
same_flags true false e = absurd (false≢true e)
same_flags false true e = absurd (false≢true e)
same_flags false false e = refl

beq_itself : (b : Bool) → beq b b ≡ true
beq_itself true = refl
beq_itself false = refl

-- a page of two places, once its bytes are known to be the same
pub same_cell : (one other : Cell) → one.0 ≡ other.0 → (r : Bool) → r ≡ beq one.1 other.1 → Decides r (one ≡ other)
same_cell one other bytes r is = (λ e k. (bytes k, same_flags one.1 other.1 (sym is ∙ e) k), λ e. is ∙ ap (λ (b : Bool). beq one.1 b) (ap (λ x. x.1) (sym e)) ∙ beq_itself one.1)
