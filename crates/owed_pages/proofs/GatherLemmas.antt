-- The pages of a table that have a number, gathered in ascending order.
use Rattle.std.proofs.Common.{◌≡◌, ℕ, ◌+◌, ◌*◌, ◌<◌, ◌≤◌, ◌&&◌, ◌||◌, Bool, true, false, eqb, ltb, ap, ◌∙◌, arith, List, length, is_some}
use Rattle.std.specs.Ordering.{nat_cmp}
use Rattle.std.specs.FinSet.{FinSet, contains, insert, empty, contains-empty}
use Rattle.std.proofs.lemmas.Bool.Decides.{nat_tests}
use Rattle.mig_base.proofs.SetLemmas.{member_inserted}
use Rattle.foundation.proofs.TestLemmas.{none_below_zero, all_below}
use Rattle.owed_pages.specs.Tables.{Place, page_number}
use Rattle.owed_pages.proofs.TableLemmas.{past_places}

-- the set has the pages below the bound that have a number
abbrev pub IsGathered : List Place → FinSet nat_cmp → ℕ → Type 0
IsGathered places pages bound = (q : ℕ) → contains pages q ≡ (ltb q bound && is_some (page_number places q))

pub gathered_none : (places : List Place) → IsGathered places empty 0
gathered_none places q = contains-empty nat_cmp q ∙ none_below_zero q (is_some (page_number places q))

below_or_at : (q page : ℕ) (b : Bool) → (q ≡ page → b ≡ true) → (eqb q page || (ltb q page && b)) ≡ (ltb q (page + 1) && b)
below_or_at q page b h = grind (arith, nat_tests)

passed : (q page next : ℕ) (b : Bool) → page ≤ next → (page ≤ q → q < next → b ≡ false) → (ltb q page && b) ≡ (ltb q next && b)
passed q page next b l h = grind (arith, nat_tests)

pub gathered_more : (places : List Place) (pages : FinSet nat_cmp) (page : ℕ) → IsGathered places pages page → is_some (page_number places page) ≡ true → IsGathered places (insert pages page) (page + 1)
gathered_more places pages page is here q =
    member_inserted pages page q ∙ ap (λ b. eqb q page || b) (is q)
    ∙ below_or_at q page (is_some (page_number places q)) (λ e. ap (λ p. is_some (page_number places p)) e ∙ here)

pub gathered_past : (places : List Place) (pages : FinSet nat_cmp) (page next : ℕ) → page ≤ next → IsGathered places pages page → ((p : ℕ) → page ≤ p → p < next → is_some (page_number places p) ≡ false) → IsGathered places pages next
gathered_past places pages page next l is none q = is q ∙ passed q page next (is_some (page_number places q)) l (none q)

pub gathered_all : (places : List Place) (pages : FinSet nat_cmp) (bound : ℕ) → 1024 * length places ≤ bound → IsGathered places pages bound → (q : ℕ) → contains pages q ≡ is_some (page_number places q)
gathered_all places pages bound l is q = is q ∙ all_below q bound (is_some (page_number places q)) (λ h. ap is_some (past_places places q (omega arith)))
