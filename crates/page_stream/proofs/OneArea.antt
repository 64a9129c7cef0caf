-- Mapped pages that are one area.
use Rattle.std.proofs.Common.{◌≡◌, ◌≢◌, ℕ, zero, suc, ◌+◌, ◌-◌, ◌<◌, ◌≤◌, ⊎_elim, Bool, true, false, cond, if◌then◌else◌, ltb, Some, None, [], ◌∷◌, map, refl, sym, ap, ◌∙◌, subst, arith, unwrap_or}
use Rattle.std.specs.Ordering.{nat_cmp}
use Rattle.std.specs.FinMap.{FinMap, get}
use Rattle.std.proofs.lemmas.Bool.{le-ltb, lt-ltb, cases_lt}
use Rattle.mig_base.specs.declared.Area.{Area}
use Rattle.mig_base.specs.declared.Prot.{Prot}
use Rattle.mig_base.specs.declared.Prot.TheVariants.{NoAccess}
use Rattle.mig_base.specs.declared.TheConstants.{HIGH_PAGE}
use Rattle.foundation.specs.Ranges.{in_range}
use Rattle.mig_base.specs.Sets.{pages_where, run_length}
use Rattle.foundation.proofs.RangeLemmas.{in_range-true, in_range-false_below, in_range-false_above}
use Rattle.mig_base.proofs.SetLemmas.{member_below, member_run}
use Rattle.mig_model.specs.Ioctls.{same_protection}
use Rattle.mig_model.specs.Lengths.{begins_area}
use Rattle.page_stream.specs.Texts.{list_below, area_at, areas_of}
use Rattle.mig_model.proofs.memory.Facts.{and_false, and_second, below_or_at, none_absurd}
use Rattle.mig_model.proofs.memory.IoctlLemmas.{same_prot-self}
use Rattle.page_stream.proofs.RunsAndAreas.{run_length-covers}

pub none_listed : (test : ℕ → Bool) (bound : ℕ) → ((j : ℕ) → j < bound → test j ≡ false) → list_below test bound ≡ []
unfolding list_below
none_listed test zero h = refl
none_listed test (suc bound) h = rw (none_listed test bound (λ j l. h j (omega arith)), h bound (omega arith)) refl

one_listed : (test : ℕ → Bool) (bound k : ℕ) → k < bound → test k ≡ true → ((j : ℕ) → j ≢ k → test j ≡ false) → list_below test bound ≡ k ∷ []
unfolding list_below
one_listed test zero k l is others = absurd (omega arith)
one_listed test (suc bound) k l is others =
    ⊎_elim
    (λ (less : k < bound). let last : test bound ≡ false = others bound (λ e. omega arith) in rw (one_listed test bound k less is others, last) refl)
    (λ (at : k ≡ bound).
    let before = none_listed test bound (λ j below. others j (λ e. omega arith)) in
    let last : test bound ≡ true = subst (λ j. test j ≡ true) at is in
    rw (before, last) (ap (λ j. j ∷ []) (sym at)))
    (below_or_at k bound l)

-- the pages of a range are mapped with one protection, and no other page is
module _ (areas : FinMap nat_cmp Prot) (prot : Prot) (first count : ℕ) (some : 0 < count) (high : first + count ≤ HIGH_PAGE) (are : (q : ℕ) → get areas q ≡ (if in_range first count q then Some prot else None)) where
  inside : (q : ℕ) → first ≤ q → q < first + count → get areas q ≡ Some prot
  inside q low below = are q ∙ ap (λ b. cond b (Some prot) None) (in_range-true first count q low below)

  below_it : (q : ℕ) → q < first → get areas q ≡ None
  below_it q l = are q ∙ ap (λ b. cond b (Some prot) None) (in_range-false_below first count q l)

  above_it : (q : ℕ) → first + count ≤ q → get areas q ≡ None
  above_it q l = are q ∙ ap (λ b. cond b (Some prot) None) (in_range-false_above first count q l)

  begins_first : begins_area areas first ≡ true
  begins_first =
      let here = inside first (omega arith) (omega arith) in
      ⊎_elim
      (λ (more : 0 < first). let before = below_it (first - 1) (omega arith) in rw (here, before, and_false (ltb 0 first)) refl)
      (λ (least : first ≤ 0). let none : ltb 0 first ≡ false = le-ltb 0 first least in rw (here, none) refl)
      (cases_lt 0 first)

  begins_no_other : (j : ℕ) → j ≢ first → begins_area areas j ≡ false
  begins_no_other j other =
      ⊎_elim
      (λ (less : j < first). rw (below_it j less) refl)
      (λ (past : first ≤ j).
      ⊎_elim
      (λ (within : j < first + count).
      let before = inside (j - 1) (omega arith) (omega arith) in
      let positive : ltb 0 j ≡ true = lt-ltb 0 j (omega arith) in
      rw (inside j past within, before, positive, same_prot-self prot) refl)
      (λ (above : first + count ≤ j). rw (above_it j above) refl)
      (cases_lt j (first + count)))
      (cases_lt j first)

  count_is : run_length (pages_where (λ page. same_protection (get areas first) (get areas page))) first HIGH_PAGE ≡ count
  count_is =
      let alike : ℕ → Bool = λ page. same_protection (get areas first) (get areas page) in
      let here = inside first (omega arith) (omega arith) in
      let long : count - 1 < run_length (pages_where alike) first HIGH_PAGE =
      run_length-covers (pages_where alike) first HIGH_PAGE (count - 1) (omega arith)
      (λ j l. let below : ltb (first + j) HIGH_PAGE ≡ true = lt-ltb (first + j) HIGH_PAGE (omega arith) in
      let there = inside (first + j) (omega arith) (omega arith) in
      member_below alike HIGH_PAGE (first + j) ∙ rw (below, here, there) (same_prot-self prot)) in
      ⊎_elim
      (λ (more : count < run_length (pages_where alike) first HIGH_PAGE).
      let there = member_run (pages_where alike) first HIGH_PAGE (first + count) (in_range-true first (run_length (pages_where alike) first HIGH_PAGE) (first + count) (omega arith) (omega arith)) in
      let same = and_second (ltb (first + count) HIGH_PAGE) (alike (first + count)) (sym (member_below alike HIGH_PAGE (first + count)) ∙ there) in
      let out = above_it (first + count) (omega arith) in
      none_absurd (rw (here, out) at same))
      (λ (most : run_length (pages_where alike) first HIGH_PAGE ≤ count). omega arith)
      (cases_lt count (run_length (pages_where alike) first HIGH_PAGE))

  prot_is : unwrap_or (get areas first) NoAccess ≡ prot
  prot_is = let here = inside first (omega arith) (omega arith) in rw here refl

  pub one_area : areas_of areas ≡ record { first = first; count = count; prot = prot } ∷ []
  one_area =
      let listed = one_listed (begins_area areas) HIGH_PAGE first (omega arith) begins_first begins_no_other in
      let area : area_at areas first ≡ record { first = first; count = count; prot = prot } = λ i. record { first = first; count = count_is i; prot = prot_is i } in
      ap (map (area_at areas)) listed ∙ ap (λ (a : Area). a ∷ []) area
