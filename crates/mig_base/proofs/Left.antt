-- The pages of a set that are left, and the first of them.
use Rattle.std.proofs.Common.{◌≡◌, ℕ, ◌+◌, ◌-◌, ◌<◌, ◌≤◌, ◌&&◌, Bool, true, false, not, eqb, ltb, sym, ap, ◌∙◌, ⊎_elim, arith}
use Rattle.std.specs.Ordering.{nat_cmp}
use Rattle.std.specs.FinSet.{FinSet, contains, empty, len, remove, contains-empty, contains-retain, nat_cmp-IsAntisymmetric}
use Rattle.std.proofs.lemmas.Bool.{cases_lt, false≢true}
use Rattle.mig_base.specs.declared.TheConstants.{HIGH_PAGE}
use Rattle.mig_base.specs.declared.Run.{Run}
use Rattle.foundation.specs.Ranges.{in_range}
use Rattle.mig_base.specs.Sets.{without}
use Rattle.mig_base.specs.PageSets.{from_on, IsFirstPage, IsFirstRun}
use Rattle.foundation.proofs.RangeLemmas.{in_range-true, ranges}
use Rattle.mig_base.proofs.SetLemmas.{member_removed, member_without, same_members}
use Rattle.mig_base.proofs.SetSizes.{len-fewer, len-removed, len-some}

member_from_on : (pages : FinSet nat_cmp) (first q : ℕ) → contains (from_on pages first) q ≡ (contains pages q && not (ltb q first))
unfolding from_on
member_from_on pages first q = contains-retain pages (λ page. not (ltb page first)) q (λ x e. ap (λ k. not (ltb k first)) (sym (nat_cmp-IsAntisymmetric q x e)))

-- all are left at the beginning
pub from_zero : (pages : FinSet nat_cmp) → from_on pages 0 ≡ pages
from_zero pages = same_members (from_on pages 0) pages (λ q. member_from_on pages 0 q ∙ all (contains pages q) q)
  where
    all : (b : Bool) (q : ℕ) → (b && not (ltb q 0)) ≡ b
    all b q = grind (arith, ranges)

-- a run has a page
pub longer_run : (pages : FinSet nat_cmp) (first end : ℕ) → ((q : ℕ) → HIGH_PAGE ≤ q → contains pages q ≡ false) → contains pages first ≡ true → first ≤ end → (end < HIGH_PAGE → contains pages end ≡ false) → first < end
longer_run pages first end past here order after =
    ⊎_elim (λ (l : first < end). l)
    (λ (same : end ≤ first).
    let at : first ≡ end = omega arith in
    absurd (false≢true (sym (⊎_elim after (past end) (cases_lt end HIGH_PAGE)) ∙ ap (contains pages) (sym at) ∙ here)))
    (cases_lt first end)

-- pages of the set from one on, as callers know them
module _ (pages left : FinSet nat_cmp) (from : ℕ) (view : from_on pages from ≡ left) (past : (q : ℕ) → HIGH_PAGE ≤ q → contains pages q ≡ false) where
  member_left : (q : ℕ) → contains left q ≡ (contains pages q && not (ltb q from))
  member_left q = ap (λ s. contains s q) (sym view) ∙ member_from_on pages from q

  pub past_left : (q : ℕ) → HIGH_PAGE ≤ q → contains left q ≡ false
  past_left q l = member_left q ∙ none (contains pages q) (past q l)
    where
      none : (b : Bool) → b ≡ false → (b && not (ltb q from)) ≡ false
      none b h = grind arith

  pub nothing_left : ((q : ℕ) → from ≤ q → q < HIGH_PAGE → contains pages q ≡ false) → left ≡ empty
  nothing_left none = same_members left empty (λ q. member_left q ∙ none_at (contains pages q) q (none q) (past q) ∙ sym (contains-empty nat_cmp q))
    where
      none_at : (b : Bool) (q : ℕ) → (from ≤ q → q < HIGH_PAGE → b ≡ false) → (HIGH_PAGE ≤ q → b ≡ false) → (b && not (ltb q from)) ≡ false
      none_at b q h k = grind (arith, ranges)

  module _ (page : ℕ) (low : page < HIGH_PAGE) (from_there : from ≤ page) (gap : (q : ℕ) → from ≤ q → q < page → contains pages q ≡ false) (here : contains pages page ≡ true) where
    pub first_page_left : IsFirstPage left page
    first_page_left =
        record {
          low = low;
          here = member_left page ∙ here_by (contains pages page) here;
          before = λ q l. member_left q ∙ before_by (contains pages q) q l (λ m. gap q m l);
        }
      where
        here_by : (b : Bool) → b ≡ true → (b && not (ltb page from)) ≡ true
        here_by b h = grind (arith, ranges)

        before_by : (b : Bool) (q : ℕ) → q < page → (from ≤ q → b ≡ false) → (b && not (ltb q from)) ≡ false
        before_by b q l h = grind (arith, ranges)

    pub others_left : from_on pages (page + 1) ≡ remove left page
    others_left =
        same_members _ _
        (λ q. member_from_on pages (page + 1) q ∙ others_by (contains pages q) q (gap q) ∙ sym (member_removed left page q ∙ ap (λ b. not (eqb q page) && b) (member_left q)))
      where
        others_by : (b : Bool) (q : ℕ) → (from ≤ q → q < page → b ≡ false) → (b && not (ltb q (page + 1))) ≡ (not (eqb q page) && (b && not (ltb q from)))
        others_by b q h = grind (arith, ranges)

  module _ (first end : ℕ) (high : end ≤ HIGH_PAGE) (from_there : from ≤ first) (some : first < end) (gap : (q : ℕ) → from ≤ q → q < first → contains pages q ≡ false) (run : (q : ℕ) → first ≤ q → q < end → contains pages q ≡ true) (after : end < HIGH_PAGE → contains pages end ≡ false) where
    behind : contains left end ≡ false
    behind = member_left end ∙ out (contains pages end) (⊎_elim after (past end) (cases_lt end HIGH_PAGE))
      where
        out : (b : Bool) → b ≡ false → (b && not (ltb end from)) ≡ false
        out b h = grind arith

    pub first_left : IsFirstRun left (record { first = first; count = end - first })
    first_left =
        let whole : first + (end - first) ≡ end = omega arith in
        record {
          some = omega arith;
          high = omega arith;
          before = λ q l. member_left q ∙ before_it (contains pages q) q l (λ m. gap q m l);
          inside = λ q l m. let below : q < end = omega (arith, m) in member_left q ∙ inside_it (contains pages q) q l (run q l below);
          behind = ap (contains left) whole ∙ behind;
        }
      where
        before_it : (b : Bool) (q : ℕ) → q < first → (from ≤ q → b ≡ false) → (b && not (ltb q from)) ≡ false
        before_it b q l h = grind (arith, ranges)

        inside_it : (b : Bool) (q : ℕ) → first ≤ q → b ≡ true → (b && not (ltb q from)) ≡ true
        inside_it b q l h = grind (arith, ranges)

    pub rest_left : from_on pages end ≡ without left first (end - first)
    rest_left =
        same_members _ _
        (λ q. member_from_on pages end q ∙ rest_at (contains pages q) q (gap q) ∙ sym (member_without left first (end - first) q ∙ ap (λ b. b && not (in_range first (end - first) q)) (member_left q)))
      where
        rest_at : (b : Bool) (q : ℕ) → (from ≤ q → q < first → b ≡ false) → (b && not (ltb q end)) ≡ ((b && not (ltb q from)) && not (in_range first (end - first) q))
        rest_at b q h = grind (arith, ranges)

-- a set has fewer pages without its first
pub fewer_others : (left rest : FinSet nat_cmp) (page : ℕ) → IsFirstPage left page → rest ≡ remove left page → len rest < len left
fewer_others left rest page is at =
    let some = len-some left page is.here in
    let less = len-removed left page is.here in
    omega (arith, ap len at, some, less)

-- a set has fewer pages without its first run
pub fewer_left : (left : FinSet nat_cmp) (run : Run) → IsFirstRun left run → (rest : FinSet nat_cmp) → rest ≡ without left run.first run.count → ((q : ℕ) → HIGH_PAGE ≤ q → contains left q ≡ false) → len rest < len left
fewer_left left run is rest at past =
    let some = is.some in
    let out : in_range run.first run.count run.first ≡ true = in_range-true run.first run.count run.first (omega arith) (omega (arith, some)) in
    len-fewer rest left run.first (λ q h. still (contains left q) (in_range run.first run.count q) (sym (member_rest q) ∙ h)) past
    (member_rest run.first ∙ gone (contains left run.first) (in_range run.first run.count run.first) out)
    (is.inside run.first (omega arith) (omega (arith, some)))
  where
    member_rest : (q : ℕ) → contains rest q ≡ (contains left q && not (in_range run.first run.count q))
    member_rest q = ap (λ s. contains s q) at ∙ member_without left run.first run.count q

    still : (b c : Bool) → (b && not c) ≡ true → b ≡ true
    still b c h = grind arith

    gone : (b c : Bool) → c ≡ true → (b && not c) ≡ false
    gone b c h = grind arith
