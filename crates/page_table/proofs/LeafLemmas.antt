-- A table of 1024 pages: one page changed, a range made missing.
use Rattle.std.proofs.Common.{◌≡◌, ◌≢◌, ℕ, ◌+◌, ◌<◌, ◌&&◌, ◌||◌, Bool, true, false, cond, not, eqb, refl, sym, ap, ◌∙◌, arith, List, length, get_or, set, get_or-set_same, get_or-set_other, Some, None, Option, Result, Ok, Err, ◌≤◌, length-append, length-take, length-drop, ◌*◌}
use mathlib.Core.Logic.{dite}
use native.Mathlib.Decide.{ℕ_discrete}
use Rattle.std.specs.Ordering.{nat_cmp}
use Rattle.std.specs.FinSet.{FinSet, contains, insert, remove}
use Rattle.std.proofs.lemmas.Bool.Decides.{nat_tests}
use Rattle.foundation.specs.Ranges.{in_range}
use Rattle.mig_base.specs.Sets.{without}
use Rattle.mig_base.proofs.SetLemmas.{member_inserted, member_removed, member_without}
use Rattle.foundation.specs.declared.TheConstants.{PAGE_SIZE}
use Rattle.std.proofs.lemmas.Option.{same_Some}
use Rattle.std.proofs.lemmas.Bool.{eq-eqb, ne_eqb}
use Rattle.mig_base.specs.Bytes.{overwrite, zero_page}
use Rattle.mig_base.proofs.ByteLemmas.{length-zero_page}
use Rattle.foundation.proofs.TestLemmas.{and_true, and_false, cond_true, cond_false}
use Rattle.page_table.specs.Bytes.{Page, IsWhole, AreWhole, stored_page}
use Rattle.page_table.specs.Leaves.{Cell, no_cell}

pub member_set : (s : FinSet nat_cmp) (i j : ℕ) → contains (insert s i) j ≡ cond (eqb j i) true (contains s j)
member_set s i j = member_inserted s i j ∙ sym (cond_true (eqb j i) (contains s j))

pub member_unset : (s : FinSet nat_cmp) (i j : ℕ) → contains (remove s i) j ≡ cond (eqb j i) false (contains s j)
member_unset s i j = member_removed s i j ∙ sym (cond_false (eqb j i) (contains s j))

pub put_cell : (old new : List Page) (before after : Bool) (i j : ℕ) (page : Page) (flag : Bool) → i < length old → new ≡ set old i page → after ≡ cond (eqb j i) flag before → ◌≡◌ {A = Cell} ((get_or new j None), after) (cond (eqb j i) (page, flag) ((get_or old j None), before))
put_cell old new before after i j page flag inside e h =
    dite (ℕ_discrete j i)
    (λ s. let same : get_or new j None ≡ page = ap (λ xs. get_or xs j None) e ∙ ap (λ k. get_or (set old i page) k None) s ∙ get_or-set_same old i page None inside in
    rw (eq-eqb j i s) (λ k. (same k, (h ∙ ap (λ b. cond b flag before) (eq-eqb j i s)) k)))
    (λ n. let other : get_or new j None ≡ get_or old j None = ap (λ xs. get_or xs j None) e ∙ get_or-set_other old i j page None n in
    rw (ne_eqb j i n) (λ k. (other k, (h ∙ ap (λ b. cond b flag before) (ne_eqb j i n)) k)))

pub protect_cell : (pages : List Page) (s t : ℕ → Bool) (i j : ℕ) (flag : Bool) → t j ≡ cond (eqb j i) flag (s j) → ◌≡◌ {A = Cell} (get_or pages j None, t j) (cond (eqb j i) ((get_or pages i None), flag) ((get_or pages j None), s j))
protect_cell pages s t i j flag h =
    dite (ℕ_discrete j i)
    (λ e. rw (eq-eqb j i e) (λ k. (get_or pages (e k) None, (h ∙ ap (λ b. cond b flag (s j)) (eq-eqb j i e)) k)))
    (λ n. rw (ne_eqb j i n) (λ k. (get_or pages j None, (h ∙ ap (λ b. cond b flag (s j)) (ne_eqb j i n)) k)))

clear_pair : (r : Bool) (new old : Page) (after before : Bool) → new ≡ cond r None old → after ≡ (before && not r) → ◌≡◌ {A = Cell} (new, after) (cond r no_cell (old, before))
clear_pair true new old after before e h = λ k. (e k, (h ∙ and_false before) k)
clear_pair false new old after before e h = λ k. (e k, (h ∙ and_true before) k)

pub clear_cell : (old new : List Page) (s t : FinSet nat_cmp) (first count j : ℕ) → get_or new j None ≡ cond (in_range first count j) None (get_or old j None) → t ≡ without s first count → ◌≡◌ {A = Cell} ((get_or new j None), contains t j) (cond (in_range first count j) no_cell ((get_or old j None), contains s j))
clear_cell old new s t first count j e h = clear_pair (in_range first count j) (get_or new j None) (get_or old j None) (contains t j) (contains s j) e (ap (λ x. contains x j) h ∙ member_without s first count j)

-- a range of a list made missing, page by page
abbrev pub IsBare : List Page → List Page → ℕ → ℕ → Type 0
IsBare old new first count = (i : ℕ) → get_or new i None ≡ cond (in_range first count i) None (get_or old i None)

-- the present pages of a leaf, gathered one by one

pub one_of_leaf : (q at i : ℕ) (member there : Bool) → (q ≡ at * 1024 + i → there ≡ true) → (eqb q (at * 1024 + i) || (member || (in_range (1024 * at) i q && there))) ≡ (member || (in_range (1024 * at) (i + 1) q && there))
one_of_leaf q at i member there h = grind (arith, nat_tests)

pub next_of_leaf : (q at i : ℕ) (member there : Bool) → (q ≡ at * 1024 + i → there ≡ false) → (member || (in_range (1024 * at) i q && there)) ≡ (member || (in_range (1024 * at) (i + 1) q && there))
next_of_leaf q at i member there h = grind (arith, nat_tests)

-- pages that have their bytes

pub whole_set : (pages : List Page) (at : ℕ) (page : Page) → at < length pages → AreWhole pages → IsWhole page → AreWhole (set pages at page)
whole_set pages at page inside whole sized i bytes h =
    dite (ℕ_discrete i at)
    (λ e. sized bytes (sym (ap (λ k. get_or (set pages at page) k None) e ∙ get_or-set_same pages at page None inside) ∙ h))
    (λ n. whole i bytes (sym (get_or-set_other pages at i page None n) ∙ h))

overwritten : (held bytes : List ℕ) (offset : ℕ) → length held ≡ PAGE_SIZE → offset + length bytes ≤ PAGE_SIZE → length (overwrite held offset bytes) ≡ PAGE_SIZE
unfolding overwrite
overwritten held bytes offset size inside = simp (length-append, length-take, length-drop) (omega arith)

pub whole_stored : {A E : Type 0} (result : Result A E) (old new : List Page) (at offset : ℕ) (bytes : List ℕ) → offset + length bytes ≤ PAGE_SIZE → AreWhole old → get_or new at None ≡ stored_page result (get_or old at None) offset bytes → ((j : ℕ) → j ≢ at → get_or new j None ≡ get_or old j None) → AreWhole new
whole_stored result old new at offset bytes inside whole here others i written h =
    dite (ℕ_discrete i at)
    (λ e. held_stored result (get_or old at None) (whole at) (sym here ∙ ap (λ k. get_or new k None) (sym e) ∙ h))
    (λ n. whole i written (sym (others i n) ∙ h))
  where
    held_stored : {A E : Type 0} (result : Result A E) (o : Option (List ℕ)) → ((held : List ℕ) → o ≡ Some held → length held ≡ PAGE_SIZE) → stored_page result o offset bytes ≡ Some written → length written ≡ PAGE_SIZE
    held_stored (Ok done) None size e = sym (ap length (same_Some (overwrite zero_page offset bytes) written e)) ∙ overwritten zero_page bytes offset length-zero_page inside
    held_stored (Ok done) (Some held) size e = sym (ap length (same_Some (overwrite held offset bytes) written e)) ∙ overwritten held bytes offset (size held refl) inside
    held_stored (Err fault) o size e = size written e

-- a leaf copied cell by cell
pub copied_cell : (copy old : ℕ → Cell) (new cell : Cell) (i j : ℕ) → ((k : ℕ) → k < i → copy k ≡ old k) → cell ≡ old i → new ≡ cond (eqb j i) cell (copy j) → j < i + 1 → new ≡ old j
copied_cell copy old new cell i j is here put l =
    dite (ℕ_discrete j i)
    (λ e. put ∙ ap (λ b. cond b cell (copy j)) (eq-eqb j i e) ∙ here ∙ ap old (sym e))
    (λ n. put ∙ ap (λ b. cond b cell (copy j)) (ne_eqb j i n) ∙ is j (omega arith))
