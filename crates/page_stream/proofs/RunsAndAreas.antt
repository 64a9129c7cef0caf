-- The runs of a set have its pages, and the areas of mapped pages their protections: so either tells what it is of.
use Rattle.std.proofs.lemmas.Bool.Decides.{nat_tests}
use Rattle.std.proofs.Common.{◌≡◌, ℕ, zero, suc, ◌+◌, ◌-◌, ◌<◌, ◌≤◌, ◌||◌, ⊎_elim, Bool, true, false, cond, ltb, Option, Some, None, is_some, List, [], ◌∷◌, ◌++◌, map, refl, sym, ap, ◌∙◌, subst, arith}
use Rattle.std.specs.List.{AllByRecursion}
use Rattle.std.proofs.Math.Bool.{or-true}
use Rattle.std.specs.Cmp.{both_ways}
use Rattle.std.specs.Ordering.{nat_cmp}
use Rattle.std.specs.FinMap.{FinMap, get}
use Rattle.std.specs.FinSet.{FinSet, contains}
use Rattle.std.proofs.lemmas.Bool.{lt-ltb}
use Rattle.mig_base.specs.declared.Prot.{Prot}
use Rattle.mig_base.specs.declared.TheConstants.{HIGH_PAGE}
use Rattle.mig_base.specs.PageSets.{in_runs}
use Rattle.foundation.specs.Ranges.{in_range}
use Rattle.mig_base.specs.Sets.{run_length}
use Rattle.mig_base.proofs.PageLemmas.{same_pages}
use Rattle.foundation.proofs.RangeLemmas.{in_range-true}
use Rattle.mig_base.proofs.SetLemmas.{same_members, member_below, member_run}
use Rattle.mig_model.specs.Ioctls.{same_protection}
use Rattle.mig_model.specs.Lengths.{begins_run, begins_area}
use Rattle.page_stream.specs.Texts.{list_below, run_at, runs_of, area_at, areas_of, prot_in, AreBelow, AreMappedBelow}
use Rattle.mig_model.proofs.memory.Facts.{none_absurd, either, and_second, below_or_at, or_assoc, and_false}
use Rattle.mig_model.proofs.invariant.SourceSending.{present_bytes}
use Rattle.mig_model.proofs.memory.IoctlLemmas.{same_prot-self}

-- Runs

-- a run is as long as there are neighbours
pub run_length-covers : (set : FinSet nat_cmp) (first bound n : ℕ) → n < bound → ((j : ℕ) → j ≤ n → contains set (first + j) ≡ true) → n < run_length set first bound
unfolding run_length
run_length-covers set first zero n below all = absurd (omega arith)
run_length-covers set first (suc bound) zero below all =
    let here : contains set first ≡ true = let e : first + 0 ≡ first = omega arith in rw e at (all 0 (omega arith)) in
    rw here (omega arith)
run_length-covers set first (suc bound) (suc n) below all =
    let here : contains set first ≡ true = let e : first + 0 ≡ first = omega arith in rw e at (all 0 (omega arith)) in
    let more = run_length-covers set (1 + first) bound n (omega arith) (λ j l. let e : 1 + first + j ≡ first + suc j = omega arith in rw e (all (suc j) (omega arith))) in
    rw here (omega (arith, more))

-- Numbers that pass a test

-- whether one of the numbers covers another
abbrev covered : (ℕ → ℕ → Bool) → List ℕ → ℕ → Bool
covered covers [] q = false
covered covers (first ∷ firsts) q = covers first q || covered covers firsts q

covered-append : (covers : ℕ → ℕ → Bool) (a b : List ℕ) (q : ℕ) → covered covers (a ++ b) q ≡ (covered covers a q || covered covers b q)
covered-append covers [] b q = refl
covered-append covers (first ∷ a) b q = ap (λ t. covers first q || t) (covered-append covers a b q) ∙ or_assoc (covers first q) (covered covers a q) (covered covers b q)

-- a number that passes is listed
covered-listed : (covers : ℕ → ℕ → Bool) (test : ℕ → Bool) (bound first q : ℕ) → first < bound → test first ≡ true → covers first q ≡ true → covered covers (list_below test bound) q ≡ true
unfolding list_below
covered-listed covers test zero first q below passes covers_it = absurd (omega arith)
covered-listed covers test (suc bound) first q below passes covers_it =
    covered-append covers (list_below test bound) (cond (test bound) (bound ∷ []) []) q
    ∙ ⊎_elim
    (λ (less : first < bound). rw (covered-listed covers test bound first q less passes covers_it) refl)
    (λ (at : first ≡ bound).
    let there : test bound ≡ true = subst (λ k. test k ≡ true) at passes in
    let it : covers bound q ≡ true = subst (λ k. covers k q ≡ true) at covers_it in
    rw (there, it) (or-true (covered covers (list_below test bound) q)))
    (below_or_at first bound below)

all-append : (P : ℕ → Type 0) (a b : List ℕ) → AllByRecursion P a → AllByRecursion P b → AllByRecursion P (a ++ b)
all-append P [] b x y = y
all-append P (n ∷ a) b x y = (x.0, all-append P a b x.1 y)

-- what holds of each number that passes holds of each that is listed
pub all_listed : (P : ℕ → Type 0) (test : ℕ → Bool) (bound : ℕ) → ((k : ℕ) → k < bound → P k) → AllByRecursion P (list_below test bound)
unfolding list_below
all_listed P test zero are = tt
all_listed P test (suc bound) are = grind (arith, nat_tests, all-append, all_listed P test bound (λ k l. are k (omega arith)))

-- where the run of a number begins, and what holds of each number from there on
record BeginsAt (begins : ℕ → Bool) (Passes : ℕ → Type 0) (q : ℕ) : Type 0 where
  pub first : ℕ
  pub low : first ≤ q
  pub is : begins first ≡ true
  pub all : (j : ℕ) → first ≤ j → j ≤ q → Passes j

begins_here : (begins : ℕ → Bool) (Passes : ℕ → Type 0) (q : ℕ) → begins q ≡ true → Passes q → BeginsAt begins Passes q
begins_here begins Passes q is passes = record { first = q; low = omega arith; is = is; all = λ j l m. let at : q ≡ j = omega arith in subst Passes at passes }

begins_before : (begins : ℕ → Bool) (Passes : ℕ → Type 0) (q : ℕ) → Passes (suc q) → BeginsAt begins Passes q → BeginsAt begins Passes (suc q)
begins_before begins Passes q passes before = grind (arith, nat_tests)

-- The pages of a set

run_begins : (set : FinSet nat_cmp) (q : ℕ) → contains set q ≡ true → BeginsAt (begins_run set) (λ j. contains set j ≡ true) q
run_begins set zero h = begins_here (begins_run set) (λ j. contains set j ≡ true) 0 (rw h refl) h
run_begins set (suc q) h =
    elim (contains set q) as (λ b. contains set q ≡ b → BeginsAt (begins_run set) (λ j. contains set j ≡ true) (suc q)) [
      | true ↦ λ e. begins_before (begins_run set) (λ j. contains set j ≡ true) q h (run_begins set q e)
      | false ↦ λ e. begins_here (begins_run set) (λ j. contains set j ≡ true) (suc q) (let before : suc q - 1 ≡ q = omega arith in rw (h, before, e, and_false (ltb 0 (suc q))) refl) h
    ] refl

runs_tell : (set : FinSet nat_cmp) (firsts : List ℕ) (q : ℕ) → in_runs (map (run_at set) firsts) q ≡ true → contains set q ≡ true
runs_tell set [] q h = none_absurd h
runs_tell set (first ∷ firsts) q h =
    either (in_range first (run_length set first HIGH_PAGE) q) (in_runs (map (run_at set) firsts) q) h (λ here. member_run set first HIGH_PAGE q here) (λ later. runs_tell set firsts q later)

runs_covered : (set : FinSet nat_cmp) (firsts : List ℕ) (q : ℕ) → in_runs (map (run_at set) firsts) q ≡ covered (λ first q. in_range first (run_length set first HIGH_PAGE) q) firsts q
runs_covered set [] q = refl
runs_covered set (first ∷ firsts) q = ap (λ b. in_range first (run_length set first HIGH_PAGE) q || b) (runs_covered set firsts q)

-- a run of pages that are in the set is no longer than the set's own
run_covers : (set : FinSet nat_cmp) (first q : ℕ) → first ≤ q → q < HIGH_PAGE → ((j : ℕ) → first ≤ j → j ≤ q → contains set j ≡ true) → in_range first (run_length set first HIGH_PAGE) q ≡ true
run_covers set first q low below all =
    let long = run_length-covers set first HIGH_PAGE (q - first) (omega arith) (λ j l. all (first + j) (omega arith) (omega arith)) in
    in_range-true first (run_length set first HIGH_PAGE) q low (omega (arith, long))

in_runs_of : (set : FinSet nat_cmp) (q : ℕ) → q < HIGH_PAGE → contains set q ≡ true → in_runs (runs_of set) q ≡ true
in_runs_of set q below h =
    let begins = run_begins set q h in
    let low = begins.low in
    runs_covered set (list_below (begins_run set) HIGH_PAGE) q
    ∙ covered-listed (λ first q. in_range first (run_length set first HIGH_PAGE) q) (begins_run set) HIGH_PAGE begins.first q (omega (arith, low)) begins.is (run_covers set begins.first q low below begins.all)

-- a set has the pages of its runs
pub member-runs_of : (set : FinSet nat_cmp) → AreBelow set → (q : ℕ) → in_runs (runs_of set) q ≡ contains set q
member-runs_of set below q = both_ways (in_runs (runs_of set) q) (contains set q) (runs_tell set (list_below (begins_run set) HIGH_PAGE) q) (λ h. in_runs_of set q (below q h) h)

pub runs_of-same : (a b : FinSet nat_cmp) → AreBelow a → AreBelow b → runs_of a ≡ runs_of b → a ≡ b
runs_of-same a b in_a in_b e = same_members a b (λ q. sym (member-runs_of a in_a q) ∙ ap (λ runs. in_runs runs q) e ∙ member-runs_of b in_b q)

-- The protections of mapped pages

pub same_prot_tells : (a b : Option Prot) → same_protection a b ≡ true → (a ≡ b) × (is_some a ≡ true)
same_prot_tells a b h = grind (arith, nat_tests)

area_begins : (areas : FinMap nat_cmp Prot) (prot : Prot) (q : ℕ) → get areas q ≡ Some prot → BeginsAt (begins_area areas) (λ j. get areas j ≡ Some prot) q
area_begins areas prot zero h = begins_here (begins_area areas) (λ j. get areas j ≡ Some prot) 0 (rw h refl) h
area_begins areas prot (suc q) h =
    let before : suc q - 1 ≡ q = omega arith in
    elim (same_protection (Some prot) (get areas q)) as (λ b. same_protection (Some prot) (get areas q) ≡ b → BeginsAt (begins_area areas) (λ j. get areas j ≡ Some prot) (suc q)) [
      | true ↦ λ e. begins_before (begins_area areas) (λ j. get areas j ≡ Some prot) q h (area_begins areas prot q (sym (same_prot_tells (Some prot) (get areas q) e).0))
      | false ↦ λ e. begins_here (begins_area areas) (λ j. get areas j ≡ Some prot) (suc q) (rw (h, before, e, and_false (ltb 0 (suc q))) refl) h
    ] refl

-- the pages of the area that begins at a page have its protection
pub area_tells : (areas : FinMap nat_cmp Prot) (first q : ℕ) → in_range first (area_at areas first).count q ≡ true → get areas q ≡ Some (area_at areas first).prot
area_tells areas first q h = grind (arith, nat_tests, member_run, same_prot_tells, and_second, member_below, present_bytes)

prots_covered : (areas : FinMap nat_cmp Prot) (firsts : List ℕ) (q : ℕ) → prot_in (map (area_at areas) firsts) q ≡ cond (covered (λ first q. in_range first (area_at areas first).count q) firsts q) (get areas q) None
prots_covered areas [] q = refl
prots_covered areas (first ∷ firsts) q = grind (arith, nat_tests, prot_in, covered, area_tells, prots_covered areas firsts q)

pub area_covers : (areas : FinMap nat_cmp Prot) (prot : Prot) (first q : ℕ) → first ≤ q → q < HIGH_PAGE → ((j : ℕ) → first ≤ j → j ≤ q → get areas j ≡ Some prot) → in_range first (area_at areas first).count q ≡ true
area_covers areas prot first q low below all = grind (arith, nat_tests, run_covers, member_below, lt-ltb, same_prot-self)

in_areas_of : (areas : FinMap nat_cmp Prot) (prot : Prot) (q : ℕ) → q < HIGH_PAGE → get areas q ≡ Some prot → covered (λ first q. in_range first (area_at areas first).count q) (list_below (begins_area areas) HIGH_PAGE) q ≡ true
in_areas_of areas prot q below h =
    let begins = area_begins areas prot q h in
    let low = begins.low in
    covered-listed (λ first q. in_range first (area_at areas first).count q) (begins_area areas) HIGH_PAGE begins.first q (omega (arith, low)) begins.is (area_covers areas prot begins.first q low below begins.all)

-- mapped pages have the protections of their areas
pub prot_in-areas_of : (areas : FinMap nat_cmp Prot) → AreMappedBelow areas → (q : ℕ) → prot_in (areas_of areas) q ≡ get areas q
prot_in-areas_of areas below q = grind (arith, nat_tests, prots_covered, in_areas_of)

pub areas_of-same : (a b : FinMap nat_cmp Prot) → AreMappedBelow a → AreMappedBelow b → areas_of a ≡ areas_of b → a ≡ b
areas_of-same a b in_a in_b e = same_pages a b (λ q. sym (prot_in-areas_of a in_a q) ∙ ap (λ areas. prot_in areas q) e ∙ prot_in-areas_of b in_b q)
