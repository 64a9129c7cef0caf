-- Whether a set has a page that passes a test, and whether a Package is torn.
use Rattle.std.proofs.Common.{◌≡◌, ℕ, zero, suc, ◌+◌, ◌-◌, ◌<◌, ◌≤◌, ◌&&◌, ◌||◌, ◌⊎◌, ⊎_elim, inl, inr, Bool, true, false, not, cond, eqb, refl, sym, ap, ◌∙◌, arith, List, Option, Some, None, is_some}
use Rattle.std.specs.Ordering.{nat_cmp}
use Rattle.std.specs.FinMap as finmap
use Rattle.std.specs.FinMap.{FinMap, get, contains_key, retain_keys, get-empty, get-retain_keys}
use Rattle.std.specs.FinSet as set
use Rattle.std.specs.FinSet.{FinSet, contains, retain, len, contains-empty, contains-retain, len-empty, empty_of_len, nat_cmp-IsAntisymmetric}
use Rattle.std.proofs.lemmas.Bool.{and_from, and_parts, false≢true, cases_Bool, cases_lt, eqb-true, not-false, or_from}
use Rattle.mig_base.specs.declared.Prot.{Prot}
use Rattle.mig_base.specs.declared.Run.{Run as PageRun}
use Rattle.foundation.specs.Ranges.{count_below, in_range}
use Rattle.mig_base.proofs.PageLemmas.{same_pages}
use Rattle.foundation.proofs.RangeLemmas.{count_below-few, in_range-true, in_range_bounds}
use Rattle.mig_base.proofs.SetLemmas.{same_members}
use Rattle.mig_model.specs.Faults.{is_torn}
use Rattle.mig_model.proofs.delivery.FrameFaults.{and_none}
use Rattle.uffd_ioctl.proofs.CallLemmas.{same_bool_by}
use Rattle.foundation.proofs.TestLemmas.{or_first, or_second}

-- no page of the set passes the test
abbrev pub has_none : FinSet nat_cmp → (ℕ → Bool) → Bool
has_none pages test = eqb (len (retain pages test)) 0

member_passing : (pages : FinSet nat_cmp) (test : ℕ → Bool) (q : ℕ) → contains (retain pages test) q ≡ (contains pages q && test q)
member_passing pages test q = contains-retain pages test q (λ x e. ap test (sym (nat_cmp-IsAntisymmetric q x e)))

second_false : (a b : Bool) → (a && b) ≡ false → a ≡ true → b ≡ false
second_false a b h e = grind arith

pub has_none_tells : (pages : FinSet nat_cmp) (test : ℕ → Bool) → has_none pages test ≡ true → (q : ℕ) → contains pages q ≡ true → test q ≡ false
has_none_tells pages test none q here =
    second_false (contains pages q) (test q) (sym (member_passing pages test q) ∙ ap (λ s. contains s q) (empty_of_len (retain pages test) (eqb-true (len (retain pages test)) 0 none)) ∙ contains-empty nat_cmp q) here

pub has_none_from : (pages : FinSet nat_cmp) (test : ℕ → Bool) → ((q : ℕ) → contains pages q ≡ true → test q ≡ false) → has_none pages test ≡ true
has_none_from pages test h =
    ap (λ s. eqb (len s) 0) (same_members (retain pages test) set.empty (λ q. member_passing pages test q ∙ and_none (contains pages q) (test q) (h q) ∙ sym (contains-empty nat_cmp q))) ∙ ap (λ n. eqb n 0) (len-empty nat_cmp)

pub has_some : (pages : FinSet nat_cmp) (test : ℕ → Bool) (q : ℕ) → contains pages q ≡ true → test q ≡ true → has_none pages test ≡ false
has_some pages test q here passes =
    ⊎_elim (λ (none : has_none pages test ≡ true). absurd (false≢true (sym (has_none_tells pages test none q here) ∙ passes))) (λ (some : has_none pages test ≡ false). some) (cases_Bool (has_none pages test))

-- Counts of mapped pages

pub one_left_out : (test : ℕ → Bool) (n : ℕ) → count_below test n < n → (i : ℕ) × (i < n) × (test i ≡ false)
unfolding count_below
one_left_out test zero h = absurd (omega arith)
one_left_out test (suc n) h =
    ⊎_elim
    (λ (passes : test n ≡ true).
    let less : count_below test n < n = omega (arith, one_more (count_below test n) (test n) passes) in
    let found = one_left_out test n less in
    (found.0, omega (arith, found.1), found.2))
    (λ (fails : test n ≡ false). (n, omega arith, fails))
    (cases_Bool (test n))
  where
    one_more : (count : ℕ) (b : Bool) → b ≡ true → count + cond b 1 0 ≡ count + 1
    one_more count b h = ap (λ c. count + cond c 1 0) h

one_more_if : (count : ℕ) (b : Bool) → b ≡ false → count + cond b 1 0 ≡ count
one_more_if count b h = ap (λ c. count + cond c 1 0) h ∙ omega arith

pub all_counted : (test : ℕ → Bool) (n : ℕ) → n ≤ count_below test n → (i : ℕ) → i < n → test i ≡ true
unfolding count_below
all_counted test zero h i below = absurd (omega arith)
all_counted test (suc n) h i below =
    ⊎_elim
    (λ (passes : test n ≡ true).
    ⊎_elim (λ (lower : i < n). all_counted test n (omega (arith, one_more_at (count_below test n) (test n) passes)) i lower) (λ (last : i ≡ n). ap test last ∙ passes) (lower_or_last i n below))
    (λ (fails : test n ≡ false). absurd (omega (arith, one_more_if (count_below test n) (test n) fails, count_below-few test n)))
    (cases_Bool (test n))
  where
    one_more_at : (count : ℕ) (b : Bool) → b ≡ true → count + cond b 1 0 ≡ count + 1
    one_more_at count b h = ap (λ c. count + cond c 1 0) h

    lower_or_last : (i n : ℕ) → i < suc n → (i < n) ⊎ (i ≡ n)
    lower_or_last i n h = ⊎_elim (λ (l : i < n). inl l) (λ (l : n ≤ i). inr (omega arith)) (cases_lt i n)

-- Runs of pages of a set

module _ (pages : FinSet nat_cmp) (areas : FinMap nat_cmp Prot) (run : PageRun) (count : ℕ) (counted : count ≡ count_below (λ i. contains_key areas (run.first + i)) run.count) where
  -- what an unmapped page of a run tells
  pub unmapped_in : ((q : ℕ) → in_range run.first run.count q ≡ true → contains pages q ≡ true) → count < run.count → has_none pages (λ page. not (contains_key areas page)) ≡ false
  unmapped_in inside few =
      let found = one_left_out (λ i. contains_key areas (run.first + i)) run.count (omega arith) in
      has_some pages (λ page. not (contains_key areas page)) (run.first + found.0) (inside (run.first + found.0) (in_range-true run.first run.count (run.first + found.0) (omega arith) (omega (arith, found.1)))) (ap not found.2)

  -- the pages of a run are mapped, where none is missing from the count
  pub mapped_in : run.count ≤ count → (q : ℕ) → in_range run.first run.count q ≡ true → contains_key areas q ≡ true
  mapped_in all q within =
      let bounds = in_range_bounds run.first run.count q within in
      let same : run.first + (q - run.first) ≡ q = omega (arith, bounds.0) in
      ap (contains_key areas) (sym same) ∙ all_counted (λ i. contains_key areas (run.first + i)) run.count (omega (arith, all, counted)) (q - run.first) (omega (arith, bounds.0, bounds.1))

-- A torn Package

-- none passes either test where none passes the one and none the other
none_of_two : (pages : FinSet nat_cmp) (one other : ℕ → Bool) → has_none pages (λ page. one page || other page) ≡ (has_none pages one && has_none pages other)
none_of_two pages one other =
    same_bool_by _ _
    (λ none.
    and_from _ _ (has_none_from pages one (λ q here. or_first (one q) (other q) (has_none_tells pages (λ page. one page || other page) none q here)))
    (has_none_from pages other (λ q here. or_second (one q) (other q) (has_none_tells pages (λ page. one page || other page) none q here))))
    (λ both.
    let parts = and_parts (has_none pages one) (has_none pages other) both in
    has_none_from pages (λ page. one page || other page) (λ q here. or_from (one q) (other q) (has_none_tells pages one parts.0 q here) (has_none_tells pages other parts.1 q here)))

-- the pages of a map that pass a test
kept_by : (kept : FinMap nat_cmp (List ℕ)) (test : ℕ → Bool) (q : ℕ) → get (retain_keys kept test) q ≡ cond (test q) (get kept q) None
kept_by kept test q = get-retain_keys kept test q (λ x e. ap test (sym (nat_cmp-IsAntisymmetric q x e)))

failed_by : (b : Bool) (o : Option (List ℕ)) → cond b o None ≡ None → is_some o ≡ true → b ≡ false
failed_by false o h e = refl
failed_by true o h e = absurd (false≢true (ap is_some (sym h) ∙ e))

none_kept_tells : (kept : FinMap nat_cmp (List ℕ)) (test : ℕ → Bool) → eqb (finmap.len (retain_keys kept test)) 0 ≡ true → (q : ℕ) → contains_key kept q ≡ true → test q ≡ false
none_kept_tells kept test none q here =
    failed_by (test q) (get kept q) (sym (kept_by kept test q) ∙ ap (λ m. get m q) (finmap.empty_of_len (retain_keys kept test) (eqb-true (finmap.len (retain_keys kept test)) 0 none)) ∙ get-empty nat_cmp q) here

-- so by the set of its keys
none_kept : (kept : FinMap nat_cmp (List ℕ)) (pages : FinSet nat_cmp) (test : ℕ → Bool) → ((q : ℕ) → contains pages q ≡ contains_key kept q) → has_none pages test ≡ eqb (finmap.len (retain_keys kept test)) 0
none_kept kept pages test same =
    same_bool_by _ _
    (λ none.
    ap (λ m. eqb (finmap.len m) 0)
    (same_pages (retain_keys kept test) finmap.empty
    (λ q. kept_by kept test q ∙ nothing_by (test q) (get kept q) (λ here. has_none_tells pages test none q (same q ∙ here)) ∙ sym (get-empty nat_cmp q))) ∙ ap (λ n. eqb n 0) (finmap.len-empty nat_cmp (List ℕ)))
    (λ none. has_none_from pages test (λ q here. none_kept_tells kept test none q (sym (same q) ∙ here)))
  where
    nothing_by : (b : Bool) (o : Option (List ℕ)) → (is_some o ≡ true → b ≡ false) → cond b o None ≡ None
    nothing_by b None h = grind arith
    nothing_by b (Some bytes) h = ap (λ c. cond c (Some bytes) None) (h refl)

pub torn_by_sets : (kept : FinMap nat_cmp (List ℕ)) (pages owed : FinSet nat_cmp) (areas : FinMap nat_cmp Prot) → ((q : ℕ) → contains pages q ≡ contains_key kept q) →
    ((not (has_none owed (λ page. contains pages page)) || not (has_none owed (λ page. not (contains_key areas page)))) || not (has_none pages (λ page. not (contains_key areas page)))) ≡ is_torn kept areas owed
torn_by_sets kept pages owed areas same =
    let unmapped : ℕ → Bool = λ page. not (contains_key areas page) in
    let again : has_none owed (λ page. contains_key kept page || unmapped page) ≡ (has_none owed (λ page. contains pages page) && has_none owed unmapped) =
    ap (λ (test : ℕ → Bool). has_none owed (λ page. test page || unmapped page)) (λ i page. sym (same page) i) ∙ none_of_two owed (λ page. contains pages page) unmapped in
    torn_of (has_none owed (λ page. contains pages page)) (has_none owed unmapped) (has_none pages unmapped) ∙ ap (λ b. not b || not (has_none pages unmapped)) (sym again)
    ∙ ap (λ b. not (has_none owed (λ page. contains_key kept page || unmapped page)) || not b) (none_kept kept pages unmapped same)
  where
    torn_of : (a b c : Bool) → ((not a || not b) || not c) ≡ (not (a && b) || not c)
    torn_of true b c = refl
    torn_of false b c = refl

-- three tests, the first that holds

pub holds_first : (a b c t v : Bool) → ((a || b) || c) ≡ t → v ≡ a → v ≡ true → v ≡ t
holds_first a b c t v h e k = grind arith

pub holds_second : (a b c t v : Bool) → ((a || b) || c) ≡ t → v ≡ b → v ≡ true → v ≡ t
holds_second a b c t v h e k = grind arith

pub holds_third : (a b c t : Bool) → ((a || b) || c) ≡ t → a ≡ false → b ≡ false → c ≡ t
holds_third a b c t h e k = grind arith

-- What a Package that is not torn tells

both_false : (a b : Bool) → (not a || not b) ≡ false → (a ≡ true) × (b ≡ true)
both_false true true h = (refl, refl)
both_false true false h = absurd (false≢true (sym h))
both_false false b h = absurd (false≢true (sym h))

-- an owed page is not kept, and is mapped
pub owed_whole : (kept : FinMap nat_cmp (List ℕ)) (areas : FinMap nat_cmp Prot) (owed : FinSet nat_cmp) → is_torn kept areas owed ≡ false → (page : ℕ) → contains owed page ≡ true → (contains_key kept page ≡ false) × (contains_key areas page ≡ true)
owed_whole kept areas owed whole page here =
    let none = has_none_tells owed (λ q. contains_key kept q || not (contains_key areas q)) (both_false _ _ whole).0 page here in (
      or_first (contains_key kept page) (not (contains_key areas page)) none,
      not-false (contains_key areas page) (or_second (contains_key kept page) (not (contains_key areas page)) none),
    )

-- what is not mapped is not kept
pub kept_whole : (kept : FinMap nat_cmp (List ℕ)) (areas : FinMap nat_cmp Prot) (owed : FinSet nat_cmp) → is_torn kept areas owed ≡ false → (page : ℕ) → get areas page ≡ None → get kept page ≡ None
kept_whole kept areas owed whole page unmapped = unkept (get kept page) (λ here. none_kept_tells kept (λ q. not (contains_key areas q)) (both_false _ _ whole).1 page here) (ap (λ o. not (is_some o)) unmapped)
  where
    unkept : (o : Option (List ℕ)) → (is_some o ≡ true → not (contains_key areas page) ≡ false) → not (contains_key areas page) ≡ true → o ≡ None
    unkept None h passes = refl
    unkept (Some bytes) h passes = absurd (false≢true (sym (h refl) ∙ passes))
