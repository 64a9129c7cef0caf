-- The pages of a set that a loop over it, or over its runs, has taken.
use Rattle.std.proofs.Common.{◌≡◌, ℕ, ◌&&◌, ◌||◌, Bool, true, false, not, eqb, refl, sym, ap, ◌∙◌, arith}
use Rattle.std.specs.Ordering.{nat_cmp}
use Rattle.std.specs.FinSet.{FinSet, contains, empty, remove, contains-empty}
use Rattle.std.proofs.lemmas.Bool.{eqb-true}
use Rattle.mig_base.specs.declared.Run.{Run}
use Rattle.foundation.specs.Ranges.{in_range}
use Rattle.mig_base.specs.Sets.{without}
use Rattle.mig_base.specs.PageSets.{IsFirstPage, IsFirstRun}
use Rattle.foundation.proofs.RangeLemmas.{in_range_bounds}
use Rattle.mig_base.proofs.SetLemmas.{member_removed, member_without}
use Rattle.foundation.proofs.TestLemmas.{and_first, and_second}

-- what is left is a part of the set
abbrev pub IsPart : FinSet nat_cmp → FinSet nat_cmp → Type 0
IsPart pages left = (q : ℕ) → contains left q ≡ true → contains pages q ≡ true

abbrev pub taken : FinSet nat_cmp → FinSet nat_cmp → ℕ → Bool
taken pages left q = contains pages q && not (contains left q)

-- at the beginning all are left

pub all_left : (pages left : FinSet nat_cmp) → left ≡ pages → IsPart pages left
all_left pages left all q h = sym (ap (λ s. contains s q) all) ∙ h

pub none_taken : (pages left : FinSet nat_cmp) → left ≡ pages → (q : ℕ) → taken pages left q ≡ false
none_taken pages left all q = apart (contains pages q) (contains left q) (ap (λ s. contains s q) all)
  where
    apart : (b c : Bool) → c ≡ b → (b && not c) ≡ false
    apart b c h = grind arith

-- and at the end none

pub all_taken : (pages left : FinSet nat_cmp) (q : ℕ) → left ≡ empty → taken pages left q ≡ contains pages q
all_taken pages left q none = whole (contains pages q) (contains left q) (ap (λ s. contains s q) none ∙ contains-empty nat_cmp q)
  where
    whole : (b c : Bool) → c ≡ false → (b && not c) ≡ b
    whole b c h = grind arith

-- nor is one that is left taken
pub not_taken : (pages left : FinSet nat_cmp) (q : ℕ) → contains left q ≡ true → taken pages left q ≡ false
not_taken pages left q here = out (contains pages q) (contains left q) here
  where
    out : (b c : Bool) → c ≡ true → (b && not c) ≡ false
    out b c h = grind arith

-- what holds of each page that was taken holds of those that are taken now too
pub each_more : {P : Type 0} (before more after : Bool) → after ≡ (before || more) → (before ≡ true → P) → (more ≡ true → P) → after ≡ true → P
each_more true more after e old new h = old refl
each_more false more after e old new h = new (sym e ∙ h)

-- after a run

module _ (pages left rest : FinSet nat_cmp) (run : Run) (is : IsFirstRun left run) (at : rest ≡ without left run.first run.count) (part : IsPart pages left) where
  member_rest : (q : ℕ) → contains rest q ≡ (contains left q && not (in_range run.first run.count q))
  member_rest q = ap (λ s. contains s q) at ∙ member_without left run.first run.count q

  pub part_run : IsPart pages rest
  part_run q h = part q (and_first (contains left q) (not (in_range run.first run.count q)) (sym (member_rest q) ∙ h))

  -- the pages of the run are in the set
  pub run_is : (q : ℕ) → in_range run.first run.count q ≡ true → contains pages q ≡ true
  run_is q h = let bounds = in_range_bounds run.first run.count q h in part q (is.inside q bounds.0 bounds.1)

  pub taken_run : (q : ℕ) → taken pages rest q ≡ (taken pages left q || in_range run.first run.count q)
  taken_run q = ap (λ b. contains pages q && not b) (member_rest q) ∙ more (contains pages q) (contains left q) (in_range run.first run.count q) (run_is q)
    where
      more : (a b c : Bool) → (c ≡ true → a ≡ true) → (a && not (b && not c)) ≡ ((a && not b) || c)
      more a b c h = grind arith

-- after a page

module _ (pages left rest : FinSet nat_cmp) (page : ℕ) (is : IsFirstPage left page) (at : rest ≡ remove left page) (part : IsPart pages left) where
  member_others : (q : ℕ) → contains rest q ≡ (not (eqb q page) && contains left q)
  member_others q = ap (λ s. contains s q) at ∙ member_removed left page q

  pub part_page : IsPart pages rest
  part_page q h = part q (and_second (not (eqb q page)) (contains left q) (sym (member_others q) ∙ h))

  pub page_is : contains pages page ≡ true
  page_is = part page is.here

  pub taken_page : (q : ℕ) → taken pages rest q ≡ (eqb q page || taken pages left q)
  taken_page q = ap (λ b. contains pages q && not b) (member_others q) ∙ more (contains pages q) (contains left q) (eqb q page) (λ h. ap (contains pages) (eqb-true q page h) ∙ page_is)
    where
      more : (a b c : Bool) → (c ≡ true → a ≡ true) → (a && not (not c && b)) ≡ (c || (a && not b))
      more a b c h = grind arith
