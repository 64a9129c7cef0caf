-- A range of a map that becomes longer or shorter, or goes elsewhere.
use Rattle.std.proofs.Common.{◌≡◌, ℕ, ◌+◌, ◌-◌, ◌<◌, ◌≤◌, ◌&&◌, Bool, true, false, cond, not, ltb, Option, Some, None, refl, sym, ap, ◌∙◌, ◌⊎◌, ⊎_elim, arith, min}
use Rattle.std.specs.Ordering.{nat_cmp}
use Rattle.std.specs.FinMap.{FinMap, get}
use Rattle.std.specs.FinSet.{FinSet, contains}
use Rattle.std.proofs.lemmas.Bool.Decides.{nat_tests}
use Rattle.std.proofs.lemmas.Bool.{ltb-true}
use Rattle.mig_base.specs.declared.TheConstants.{HIGH_PAGE}
use Rattle.mig_base.specs.declared.Prot.{Prot}
use Rattle.foundation.specs.Ranges.{in_range}
use Rattle.mig_base.specs.Pages.{set_range, remove_range, moved_range}
use Rattle.mig_base.specs.Sets.{without, moved_set}
use Rattle.foundation.proofs.RangeLemmas.{in_range_tells}
use Rattle.mig_base.proofs.PageLemmas.{same_pages, get-set_range, get-remove_range, get-moved_range}
use Rattle.mig_base.proofs.SetLemmas.{member_without}
use Rattle.foundation.proofs.TestLemmas.{and_not, cond_false}
use Rattle.userfault.proofs.ModeLemmas.{is_pages_where}
use Rattle.area_map.specs.Ranges.{HasOneProt}

-- In place

-- outside the first part, the rest of a range is the range
tail_is : (from count part q : ℕ) → part ≤ count → ((q < from) ⊎ (from + part ≤ q)) → in_range (from + part) (count - part) q ≡ in_range from count q
tail_is from count part q short out = grind (arith, nat_tests)

added : {A : Type 0} (from count new_count q : ℕ) (old growth kept : A) → ((q < from) ⊎ (from + count ≤ q)) → cond (in_range from new_count q) growth old ≡ cond (in_range from new_count q) (cond (ltb (q - from) count) kept growth) old
added from count new_count q old growth kept out = grind (arith, nat_tests)

within_shrunk : {A : Type 0} (from count new_count q : ℕ) (old growth : A) (at : ℕ → A) (none : A) → new_count ≤ count → at q ≡ old → cond (in_range (from + new_count) (count - new_count) q) none old ≡ cond (in_range from new_count q) (cond (ltb (q - from) count) (at (from + (q - from))) growth) (cond (in_range from count q) none old)
within_shrunk from count new_count q old growth at none short is =
    ⊎_elim
    (λ (t : (in_range from new_count q ≡ true) × (from ≤ q) × (q < from + new_count)).
    let inside = t.0 in
    let low = t.1 in
    let high = t.2 in
    let out : in_range (from + new_count) (count - new_count) q ≡ false = grind (arith, nat_tests) in
    let kept : ltb (q - from) count ≡ true = grind (arith, nat_tests) in
    let here : from + (q - from) ≡ q = omega arith in
    rw (inside, out, kept, here, is) refl)
    (λ (t : (in_range from new_count q ≡ false) × ((q < from) ⊎ (from + new_count ≤ q))).
    let outside = t.0 in
    let same : in_range (from + new_count) (count - new_count) q ≡ in_range from count q = tail_is from count new_count q short t.1 in
    rw (outside, same) refl)
    (in_range_tells from new_count q)

pub shrunk : {X : Type 0} (pages : FinMap nat_cmp X) (from count to new_count : ℕ) (growth : Option X) → to ≡ from → new_count ≤ count → remove_range pages (from + new_count) (count - new_count) ≡ moved_range pages from count to new_count growth
shrunk pages from count to new_count growth place short =
    rw place (same_pages (remove_range pages (from + new_count) (count - new_count)) (moved_range pages from count from new_count growth) (λ q.
    get-remove_range pages (from + new_count) (count - new_count) q
    ∙ within_shrunk from count new_count q (get pages q) growth (λ p. get pages p) None short refl
    ∙ sym (get-moved_range pages from count from new_count q growth)))

within_grown : {A : Type 0} (from count new_count q : ℕ) (old growth : A) (at : ℕ → A) (none : A) → count < new_count → at q ≡ old → cond (in_range (from + count) (new_count - count) q) growth old ≡ cond (in_range from new_count q) (cond (ltb (q - from) count) (at (from + (q - from))) growth) (cond (in_range from count q) none old)
within_grown from count new_count q old growth at none long is =
    ⊎_elim
    (λ (t : (in_range from count q ≡ true) × (from ≤ q) × (q < from + count)).
    let low = t.1 in
    let high = t.2 in
    let out : in_range (from + count) (new_count - count) q ≡ false = grind (arith, nat_tests) in
    let inside : in_range from new_count q ≡ true = grind (arith, nat_tests) in
    let kept : ltb (q - from) count ≡ true = grind (arith, nat_tests) in
    let here : from + (q - from) ≡ q = omega arith in
    rw (inside, out, kept, here, is) refl)
    (λ (t : (in_range from count q ≡ false) × ((q < from) ⊎ (from + count ≤ q))).
    let outside = t.0 in
    let same : in_range (from + count) (new_count - count) q ≡ in_range from new_count q = tail_is from new_count count q (omega arith) t.1 in
    let rest : cond (in_range from new_count q) growth old ≡ cond (in_range from new_count q) (cond (ltb (q - from) count) (at (from + (q - from))) growth) old = added from count new_count q old growth (at (from + (q - from))) t.1 in
    rw (outside, same) rest)
    (in_range_tells from count q)

pub grown : {X : Type 0} (pages new : FinMap nat_cmp X) (from count to new_count : ℕ) (growth : Option X) → to ≡ from → count < new_count → ((q : ℕ) → get new q ≡ cond (in_range (from + count) (new_count - count) q) growth (get pages q)) → new ≡ moved_range pages from count to new_count growth
grown pages new from count to new_count growth place long is =
    rw place (same_pages new (moved_range pages from count from new_count growth) (λ q.
    is q
    ∙ within_grown from count new_count q (get pages q) growth (λ p. get pages p) None long refl
    ∙ sym (get-moved_range pages from count from new_count q growth)))

pub grown_prots : (areas new : FinMap nat_cmp Prot) (from count to new_count : ℕ) (prot : Prot) → 0 < count → to ≡ from → count < new_count → HasOneProt (λ page. get areas page) from count prot → new ≡ set_range areas (from + count) (new_count - count) prot → new ≡ moved_range areas from count to new_count (get areas from)
grown_prots areas new from count to new_count prot some place long has is =
    grown areas new from count to new_count (get areas from) place long (λ q.
    ap (λ m. get m q) is
    ∙ get-set_range areas (from + count) (new_count - count) prot q
    ∙ ap (λ o. cond (in_range (from + count) (new_count - count) q) o (get areas q)) (sym (has from (omega arith) (omega arith))))

pub grown_pages : {X : Type 0} (pages new : FinMap nat_cmp X) (from count to new_count : ℕ) → to ≡ from → count < new_count → new ≡ remove_range pages (from + count) (new_count - count) → new ≡ moved_range pages from count to new_count None
grown_pages pages new from count to new_count place long is =
    grown pages new from count to new_count None place long (λ q. ap (λ m. get m q) is ∙ get-remove_range pages (from + count) (new_count - count) q)

-- Elsewhere

held_prot : (inside : Bool) (a b : Option Prot) (prot : Prot) → (inside ≡ true → a ≡ Some prot) → b ≡ Some prot → Some prot ≡ cond inside a b
held_prot true a b prot h k = sym (h refl)
held_prot false a b prot h k = sym k

pub moved_prots : (areas new : FinMap nat_cmp Prot) (from count to new_count : ℕ) (prot : Prot) → 0 < count → HasOneProt (λ page. get areas page) from count prot → new ≡ set_range (remove_range areas from count) to new_count prot → new ≡ moved_range areas from count to new_count (get areas from)
moved_prots areas new from count to new_count prot some has is =
    same_pages new (moved_range areas from count to new_count (get areas from)) (λ q.
    ap (λ m. get m q) is
    ∙ get-set_range (remove_range areas from count) to new_count prot q
    ∙ ap (λ o. cond (in_range to new_count q) (Some prot) o) (get-remove_range areas from count q)
    ∙ ap (λ o. cond (in_range to new_count q) o (cond (in_range from count q) None (get areas q)))
    (held_prot (ltb (q - to) count) (get areas (from + (q - to))) (get areas from) prot (λ e. let l = ltb-true (q - to) count e in has (from + (q - to)) (omega arith) (omega arith)) (has from (omega arith) (omega arith)))
    ∙ sym (get-moved_range areas from count to new_count q (get areas from)))

-- what the steps of a move leave at a page
left_by : {A : Type 0} (from count to new_count kept q : ℕ) (none along old : A) → kept ≡ min count new_count → ((from + count ≤ to) ⊎ (to + new_count ≤ from))
    → cond (in_range (to + kept) (new_count - kept) q) none (cond (in_range (from + kept) (count - kept) q) none (cond (in_range to kept q) along (cond (in_range from kept q) none old)))
    ≡ cond (in_range to new_count q) (cond (ltb (q - to) count) along none) (cond (in_range from count q) none old)
left_by from count to new_count kept q none along old least apart = grind (arith, nat_tests)

pub moved_pages : {X : Type 0} (pages first second new : FinMap nat_cmp X) (from count to new_count kept : ℕ) → kept ≡ min count new_count → ((from + count ≤ to) ⊎ (to + new_count ≤ from))
    → ((q : ℕ) → get first q ≡ cond (in_range to kept q) (get pages (from + (q - to))) (cond (in_range from kept q) None (get pages q)))
    → second ≡ remove_range first (from + kept) (count - kept) → new ≡ remove_range second (to + kept) (new_count - kept) → new ≡ moved_range pages from count to new_count None
moved_pages pages first second new from count to new_count kept least apart one two three =
    same_pages new (moved_range pages from count to new_count None) (λ q.
    ap (λ m. get m q) three
    ∙ get-remove_range second (to + kept) (new_count - kept) q
    ∙ ap (λ o. cond (in_range (to + kept) (new_count - kept) q) None o) (ap (λ m. get m q) two ∙ get-remove_range first (from + kept) (count - kept) q ∙ ap (λ o. cond (in_range (from + kept) (count - kept) q) None o) (one q))
    ∙ left_by from count to new_count kept q None (get pages (from + (q - to))) (get pages q) least apart
    ∙ sym (get-moved_range pages from count to new_count q None))

-- Sets of pages

abbrev Set : Type 0
Set = FinSet nat_cmp

-- what a set without a range contains
pub member_left : (set : Set) (first count q : ℕ) → contains (without set first count) q ≡ cond (in_range first count q) false (contains set q)
member_left set first count q = member_without set first count q ∙ and_not (contains set q) (in_range first count q)

past_end : (from count to new_count q : ℕ) (along growth old : Bool) → to + new_count ≤ HIGH_PAGE → HIGH_PAGE ≤ q → old ≡ false → cond (in_range to new_count q) (cond (ltb (q - to) count) along growth) (not (in_range from count q) && old) ≡ false
past_end from count to new_count q along growth old high past none = grind (arith, nat_tests)

-- a set is the moved one where it has the members of that
moved_members : (set new : Set) (from count to new_count : ℕ) (growth : Bool) → to + new_count ≤ HIGH_PAGE → ((q : ℕ) → HIGH_PAGE ≤ q → contains set q ≡ false)
    → ((q : ℕ) → contains new q ≡ cond (in_range to new_count q) (cond (ltb (q - to) count) (contains set (from + (q - to))) growth) (cond (in_range from count q) false (contains set q)))
    → new ≡ moved_set set from count to new_count growth
moved_members set new from count to new_count growth high past is =
    is_pages_where new (λ q. cond (in_range to new_count q) (cond (ltb (q - to) count) (contains set (from + (q - to))) growth) (not (in_range from count q) && contains set q))
    (λ q. is q ∙ ap (cond (in_range to new_count q) (cond (ltb (q - to) count) (contains set (from + (q - to))) growth)) (cond_false (in_range from count q) (contains set q)))
    (λ q out. past_end from count to new_count q (contains set (from + (q - to))) growth (contains set q) high out (past q out))

pub shrunk_set : (set new : Set) (from count to new_count : ℕ) → to + new_count ≤ HIGH_PAGE → ((q : ℕ) → HIGH_PAGE ≤ q → contains set q ≡ false) → to ≡ from → new_count ≤ count → new ≡ without set (from + new_count) (count - new_count) → new ≡ moved_set set from count to new_count false
shrunk_set set new from count to new_count high past place short is =
    moved_members set new from count to new_count false high past (λ q.
    ap (λ s. contains s q) is
    ∙ member_left set (from + new_count) (count - new_count) q
    ∙ rw place (within_shrunk from count new_count q (contains set q) false (λ p. contains set p) false short refl))

pub grown_set : (set new : Set) (from count to new_count : ℕ) → to + new_count ≤ HIGH_PAGE → ((q : ℕ) → HIGH_PAGE ≤ q → contains set q ≡ false) → to ≡ from → count < new_count → new ≡ without set (from + count) (new_count - count) → new ≡ moved_set set from count to new_count false
grown_set set new from count to new_count high past place long is =
    moved_members set new from count to new_count false high past (λ q.
    ap (λ s. contains s q) is
    ∙ member_left set (from + count) (new_count - count) q
    ∙ rw place (within_grown from count new_count q (contains set q) false (λ p. contains set p) false long refl))

pub moved_pages_set : (set first second new : Set) (from count to new_count kept : ℕ) → to + new_count ≤ HIGH_PAGE → ((q : ℕ) → HIGH_PAGE ≤ q → contains set q ≡ false) → kept ≡ min count new_count → ((from + count ≤ to) ⊎ (to + new_count ≤ from))
    → ((q : ℕ) → contains first q ≡ cond (in_range to kept q) (contains set (from + (q - to))) (cond (in_range from kept q) false (contains set q)))
    → second ≡ without first (from + kept) (count - kept) → new ≡ without second (to + kept) (new_count - kept) → new ≡ moved_set set from count to new_count false
moved_pages_set set first second new from count to new_count kept high past least apart one two three =
    moved_members set new from count to new_count false high past (λ q.
    ap (λ s. contains s q) three
    ∙ member_left second (to + kept) (new_count - kept) q
    ∙ ap (cond (in_range (to + kept) (new_count - kept) q) false) (ap (λ s. contains s q) two ∙ member_left first (from + kept) (count - kept) q ∙ ap (cond (in_range (from + kept) (count - kept) q) false) (one q))
    ∙ left_by from count to new_count kept q false (contains set (from + (q - to))) (contains set q) least apart)
