-- Tables of numbers: one number changed, and leaves that are made.
use Rattle.std.proofs.Common.{◌≡◌, ℕ, zero, suc, ◌+◌, ◌-◌, ◌*◌, ◌/◌, ◌%◌, ◌<◌, ◌≤◌, true, false, cond, eqb, refl, sym, ap, ◌∙◌, ⊎_elim, arith, List, ◌∷◌, [], ◌++◌, length, get_or, set, get_or-set_same, get_or-set_other, Option, Some, None, is_some, replicate}
use mathlib.Core.Logic.{dite}
use native.Mathlib.Decide.{ℕ_discrete}
use Rattle.std.proofs.lemmas.Bool.{eq-eqb, ne_eqb, cases_lt}
use Rattle.std.proofs.lemmas.List.{get_or_append_left, get_or-append_right}
use Rattle.owed_pages.specs.Tables.{Place, number_in, page_number, is_place, has_place}
use Rattle.mig_base.proofs.PlaceLemmas.{same_leaf, said_at, said_here, said_past, said_same, said-push, said-put}

abbrev pub Places : Type 0
Places = List Place

-- a page, by its table
pub at_place : (places : Places) (q at : ℕ) → q / 1024 ≡ at → number_in (get_or places at None) (q % 1024) ≡ page_number places q
unfolding page_number
at_place places q at e = said_at number_in places q at e

pub at_own_place : (places : Places) (place : Place) (q : ℕ) → q / 1024 < length places → place ≡ get_or places (q / 1024) place → number_in place (q % 1024) ≡ page_number places q
unfolding page_number
at_own_place places place q inside h = said_here number_in places place q inside h

pub past_places : (places : Places) (q : ℕ) → length places ≤ q / 1024 → page_number places q ≡ None
unfolding page_number
past_places places q h = said_past number_in places q h

-- a table with the same cells
pub numbers_stay : (places : Places) (at : ℕ) (place : Place) → at < length places → ((i : ℕ) → number_in place i ≡ number_in (get_or places at None) i) → (q : ℕ) → page_number (set places at place) q ≡ page_number places q
unfolding page_number
numbers_stay places at place inside h q = said_same number_in places at place inside h q

pub number_at-push : (places : Places) (q : ℕ) → page_number (places ++ None ∷ []) q ≡ page_number places q
unfolding page_number
number_at-push places q = said-push number_in places q

-- one page changed
pub one_number : (places : Places) (page : ℕ) (place : Place) (number : Option ℕ) → page / 1024 < length places → ((i : ℕ) → number_in place i ≡ cond (eqb i (page % 1024)) number (number_in (get_or places (page / 1024) None) i)) → (q : ℕ) → page_number (set places (page / 1024) place) q ≡ cond (eqb q page) number (page_number places q)
unfolding page_number
one_number places page place number inside h q = said-put number_in places page place number inside h q

pub gone_already : (places : Places) (page q : ℕ) → page_number places page ≡ None → page_number places q ≡ cond (eqb q page) None (page_number places q)
gone_already places page q h =
    dite (ℕ_discrete q page)
    (λ e. rw (eq-eqb q page e) (ap (page_number places) e ∙ h))
    (λ n. rw (ne_eqb q page n) refl)

-- leaves that are made

-- a page with a number has a leaf
pub place_of_number : (places : Places) (page number : ℕ) → page_number places page ≡ Some number → has_place places page ≡ true
unfolding page_number has_place
place_of_number places page number h = in_place (get_or places (page / 1024) None) h
  where
    in_place : (place : Place) → number_in place (page % 1024) ≡ Some number → is_place place ≡ true
    in_place None h = cc
    in_place (Some leaf) h = refl

-- a page with no leaf has no number
pub none_without_place : (places : Places) (page : ℕ) → has_place places page ≡ false → page_number places page ≡ None
unfolding page_number has_place
none_without_place places page h = in_place (get_or places (page / 1024) None) h
  where
    in_place : (place : Place) → is_place place ≡ false → number_in place (page % 1024) ≡ None
    in_place None h = refl
    in_place (Some leaf) h = cc

pub is_some_place : (place : Place) → is_some place ≡ is_place place
is_some_place None = refl
is_some_place (Some leaf) = refl

-- one number of a leaf changed
pub one_set : (leaf : List (Option ℕ)) (i j : ℕ) (number : Option ℕ) → i < length leaf → get_or (set leaf i number) j None ≡ cond (eqb j i) number (get_or leaf j None)
one_set leaf i j number inside =
    dite (ℕ_discrete j i)
    (λ e. rw (eq-eqb j i e) (ap (λ k. get_or (set leaf i number) k None) e ∙ get_or-set_same leaf i number None inside))
    (λ n. rw (ne_eqb j i n) (get_or-set_other leaf i j number None n))

-- a leaf with no number
pub all_none : (count i : ℕ) → get_or {A = Option ℕ} (replicate count None) i None ≡ None
all_none zero i = refl
all_none (suc count) zero = refl
all_none (suc count) (suc i) = all_none count i

-- A copy, place by place

abbrev pub IsCopied : Places → Places → ℕ → Type 0
IsCopied old copies at = (k : ℕ) → k < at → (i : ℕ) → number_in (get_or copies k None) i ≡ number_in (get_or old k None) i

pub copied_more : (old copies : Places) (at : ℕ) (place : Place) → length copies ≡ at → IsCopied old copies at → ((i : ℕ) → number_in place i ≡ number_in (get_or old at None) i) → IsCopied old (copies ++ place ∷ []) (at + 1)
copied_more old copies at place size is here k l i =
    ⊎_elim
    (λ (below : k < length copies). ap (λ o. number_in o i) (get_or_append_left copies (place ∷ []) None k below) ∙ is k (omega arith) i)
    (λ (past : length copies ≤ k).
    let e : k ≡ at = omega arith in
    let zero_more : k - length copies ≡ 0 = omega arith in
    ap (λ o. number_in o i) (get_or-append_right copies (place ∷ []) (length copies) k None refl past ∙ ap (λ n. get_or (place ∷ []) n None) zero_more)
    ∙ here i ∙ ap (λ n. number_in (get_or old n None) i) (sym e))
    (cases_lt k (length copies))

pub copied_all : (old copies : Places) → length copies ≡ length old → IsCopied old copies (length old) → (q : ℕ) → page_number copies q ≡ page_number old q
copied_all old copies size is q =
    ⊎_elim
    (λ (below : q / 1024 < length old). sym (at_place copies q (q / 1024) refl) ∙ is (q / 1024) below (q % 1024) ∙ at_place old q (q / 1024) refl)
    (λ (past : length old ≤ q / 1024). past_places copies q (omega arith) ∙ sym (past_places old q past))
    (cases_lt (q / 1024) (length old))

-- Two tables

-- each page from `first` up to `end` has the same number, or none, in both tables
abbrev pub AreSame : Places → Places → ℕ → ℕ → Type 0
AreSame places others first end = (q : ℕ) → first ≤ q → q < end → page_number places q ≡ page_number others q

pub same_more : (places others : Places) (page next : ℕ) → AreSame places others 0 page → AreSame places others page next → AreSame places others 0 next
same_more places others page next same more q from below =
    ⊎_elim (λ (before : q < page). same q from before) (λ (past : page ≤ q). more q past below) (cases_lt q page)

-- pages of a leaf that both tables miss
pub both_missing : (places others : Places) (page next : ℕ) → ((q : ℕ) → page ≤ q → q < next → q / 1024 ≡ page / 1024) → has_place places page ≡ false → has_place others page ≡ false → AreSame places others page next
both_missing places others page next leaf none neither q from below =
    none_without_place places q (same_leaf places page q (leaf q from below) none)
    ∙ sym (none_without_place others q (same_leaf others page q (leaf q from below) neither))

-- past the last leaf of both no page has a number
pub same_all : (places others : Places) (end : ℕ) → length places * 1024 ≤ end → length others * 1024 ≤ end → AreSame places others 0 end → (q : ℕ) → page_number places q ≡ page_number others q
same_all places others end all theirs same q =
    ⊎_elim
    (λ (below : q < end). same q (omega arith) below)
    (λ (past : end ≤ q). past_places places q (omega arith) ∙ sym (past_places others q (omega arith)))
    (cases_lt q end)
