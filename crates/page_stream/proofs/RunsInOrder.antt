-- The runs of a set are in order, and no other runs in order have its pages.
use Rattle.std.proofs.lemmas.Bool.Decides.{nat_tests}
use Rattle.std.proofs.Common.{◌≡◌, ℕ, zero, suc, ◌+◌, ◌-◌, ◌<◌, ◌≤◌, ◌&&◌, ◌||◌, ⊎_elim, Bool, true, false, cond, not, ltb, List, [], ◌∷◌, ◌++◌, map, refl, sym, ap, ◌∙◌, subst, arith}
use Rattle.std.specs.Ordering.{nat_cmp}
use Rattle.std.specs.FinSet.{FinSet, contains}
use Rattle.std.proofs.lemmas.Bool.{false≢true, lt-ltb, cases_lt}
use Rattle.std.proofs.lemmas.List.{append-nil, map-append}
use Rattle.mig_base.specs.declared.Run.{Run as PageRun}
use Rattle.mig_base.specs.declared.TheConstants.{HIGH_PAGE}
use Rattle.mig_base.specs.PageSets.{in_runs, AreRunsFrom}
use Rattle.foundation.specs.Ranges.{in_range}
use Rattle.mig_base.specs.Sets.{run_length}
use Rattle.foundation.proofs.RangeLemmas.{in_range-true, in_range-false_below, in_range-false_above}
use Rattle.mig_base.proofs.RunLemmas.{end_from, end_push, runs_push}
use Rattle.mig_base.proofs.SetLemmas.{member_run}
use Rattle.mig_model.specs.Lengths.{begins_run}
use Rattle.page_stream.specs.Texts.{AreBelow, list_below, run_at, runs_of}
use Rattle.mig_model.proofs.memory.Facts.{and_left, and_second}
use Rattle.page_stream.proofs.RunsAndAreas.{run_length-covers, member-runs_of}

-- The runs of a set

not_after : (before here : Bool) → before ≡ true → here ≡ true → not (before && here) ≡ true → false ≡ true
not_after before here b h n = rw (b, h) at n

-- between two runs is a page that the set does not have
runs_apart : (set : FinSet nat_cmp) (first next : ℕ) → first < next → begins_run set next ≡ true → first + run_length set first HIGH_PAGE + 1 ≤ next
runs_apart set first next below begins =
    ⊎_elim
    (λ (less : first + run_length set first HIGH_PAGE < next). omega arith)
    (λ (reaches : next ≤ first + run_length set first HIGH_PAGE).
    let there = member_run set first HIGH_PAGE (next - 1) (in_range-true first (run_length set first HIGH_PAGE) (next - 1) (omega arith) (omega arith)) in
    absurd (false≢true (not_after (ltb 0 next) (contains set (next - 1)) (lt-ltb 0 next (omega arith)) there (and_second (contains set next) (not (ltb 0 next && contains set (next - 1))) begins))))
    (cases_lt (first + run_length set first HIGH_PAGE) next)

run_not_empty : (set : FinSet nat_cmp) (first : ℕ) → contains set first ≡ true → 0 < run_length set first HIGH_PAGE
run_not_empty set first h = run_length-covers set first HIGH_PAGE 0 (omega arith) (λ j l. let at : first + j ≡ first = omega arith in rw at h)

-- the runs that begin below a bound, and where they end
record AreInOrder (set : FinSet nat_cmp) (bound : ℕ) (runs : List PageRun) : Type 0 where
  pub ordered : AreRunsFrom 0 runs
  pub apart : (next : ℕ) → bound ≤ next → begins_run set next ≡ true → end_from 0 runs ≤ next

in_order : (set : FinSet nat_cmp) (bound : ℕ) → AreInOrder set bound (map (run_at set) (list_below (begins_run set) bound))
unfolding list_below
in_order set zero = record { ordered = tt; apart = λ next l begins. omega arith }
in_order set (suc bound) =
    let before = in_order set bound in
    let runs = map (run_at set) (list_below (begins_run set) bound) in
    elim (begins_run set bound) as (λ b. begins_run set bound ≡ b → AreInOrder set (suc bound) (map (run_at set) (list_below (begins_run set) bound ++ cond b (bound ∷ []) []))) [
      | true ↦ λ e.
          let is : map (run_at set) (list_below (begins_run set) bound ++ bound ∷ []) ≡ runs ++ run_at set bound ∷ [] = map-append (run_at set) (list_below (begins_run set) bound) (bound ∷ []) in
          subst (AreInOrder set (suc bound)) (sym is) (record {
            ordered = runs_push 0 runs (run_at set bound) before.ordered (before.apart bound (omega arith) e) (run_not_empty set bound (and_left (contains set bound) _ e));
            apart = λ next l begins. let far = runs_apart set bound next (omega arith) begins in omega (arith, far, end_push 0 runs (run_at set bound));
          })
      | false ↦ λ e.
          let is : map (run_at set) (list_below (begins_run set) bound ++ []) ≡ runs = ap (map (run_at set)) (append-nil (list_below (begins_run set) bound)) in
          subst (AreInOrder set (suc bound)) (sym is) (record { ordered = before.ordered; apart = λ next l begins. before.apart next (omega arith) begins })
    ] refl

pub runs_of-ordered : (set : FinSet nat_cmp) → AreRunsFrom 0 (runs_of set)
runs_of-ordered set = (in_order set HIGH_PAGE).ordered

-- Runs in order

none_below_runs : (from : ℕ) (runs : List PageRun) (q : ℕ) → AreRunsFrom from runs → q < from → in_runs runs q ≡ false
none_below_runs from [] q h l = refl
none_below_runs from (run ∷ runs) q h l =
    let low = h.0 in
    rw (in_range-false_below run.first run.count q (omega (arith, low)), none_below_runs (run.first + run.count + 1) runs q h.2 (omega (arith, low))) refl

first_in_runs : (from : ℕ) (run : PageRun) (runs : List PageRun) → AreRunsFrom from (run ∷ runs) → in_runs (run ∷ runs) run.first ≡ true
first_in_runs from run runs h = let some = h.1 in rw (in_range-true run.first run.count run.first (omega arith) (omega (arith, some))) refl

-- a run begins no earlier than one that has the same pages
no_earlier : (from : ℕ) (x y : PageRun) (xs ys : List PageRun) → AreRunsFrom from (x ∷ xs) → AreRunsFrom from (y ∷ ys) → ((q : ℕ) → in_runs (x ∷ xs) q ≡ in_runs (y ∷ ys) q) → y.first ≤ x.first
no_earlier from x y xs ys hx hy same =
    ⊎_elim
    (λ (less : x.first < y.first). absurd (false≢true (sym (none_below_runs y.first (y ∷ ys) x.first (omega arith, hy.1, hy.2) less) ∙ sym (same x.first) ∙ first_in_runs from x xs hx)))
    (λ (past : y.first ≤ x.first). past)
    (cases_lt x.first y.first)

-- nor does it end earlier
no_shorter : (from : ℕ) (x y : PageRun) (xs ys : List PageRun) → x.first ≡ y.first → AreRunsFrom from (x ∷ xs) → AreRunsFrom from (y ∷ ys) → ((q : ℕ) → in_runs (x ∷ xs) q ≡ in_runs (y ∷ ys) q) → y.count ≤ x.count
no_shorter from x y xs ys at hx hy same =
    ⊎_elim
    (λ (less : x.count < y.count).
    let out : in_runs (x ∷ xs) (x.first + x.count) ≡ false =
    rw (in_range-false_above x.first x.count (x.first + x.count) (omega arith), none_below_runs (x.first + x.count + 1) xs (x.first + x.count) hx.2 (omega arith)) refl in
    let in_y : in_runs (y ∷ ys) (x.first + x.count) ≡ true = rw (in_range-true y.first y.count (x.first + x.count) (omega (arith, at)) (omega (arith, at, less))) refl in
    absurd (false≢true (sym out ∙ same (x.first + x.count) ∙ in_y)))
    (λ (past : y.count ≤ x.count). past)
    (cases_lt x.count y.count)

same_rest_by : (first count q : ℕ) (xs ys : List PageRun) → AreRunsFrom (first + count + 1) xs → AreRunsFrom (first + count + 1) ys → (in_range first count q || in_runs xs q) ≡ (in_range first count q || in_runs ys q) → in_runs xs q ≡ in_runs ys q
same_rest_by first count q xs ys hx hy same = grind (arith, nat_tests, none_below_runs, in_range-false_above, cases_lt)

-- runs in order that have the same pages are the same
same_runs : (from : ℕ) (xs ys : List PageRun) → AreRunsFrom from xs → AreRunsFrom from ys → ((q : ℕ) → in_runs xs q ≡ in_runs ys q) → xs ≡ ys
same_runs from [] [] hx hy same = refl
same_runs from [] (y ∷ ys) hx hy same = absurd (false≢true (same y.first ∙ first_in_runs from y ys hy))
same_runs from (x ∷ xs) [] hx hy same = absurd (false≢true (sym (same x.first) ∙ first_in_runs from x xs hx))
same_runs from (x ∷ xs) (y ∷ ys) hx hy same =
    let first : x.first ≡ y.first = let a = no_earlier from x y xs ys hx hy same in let b = no_earlier from y x ys xs hy hx (λ q. sym (same q)) in omega (arith, a, b) in
    let count : x.count ≡ y.count = let a = no_shorter from x y xs ys first hx hy same in let b = no_shorter from y x ys xs (sym first) hy hx (λ q. sym (same q)) in omega (arith, a, b) in
    let run : x ≡ y = λ i. record { first = first i; count = count i } in
    let later : AreRunsFrom (x.first + x.count + 1) ys = subst (λ (z : PageRun). AreRunsFrom (z.first + z.count + 1) ys) (sym run) hy.2 in
    let rest = same_runs (x.first + x.count + 1) xs ys hx.2 later
    (λ q. same_rest_by x.first x.count q xs ys hx.2 later (same q ∙ ap (λ (z : PageRun). in_range z.first z.count q || in_runs ys q) (sym run))) in
    ap (λ (z : PageRun). z ∷ xs) run ∙ ap (λ (zs : List PageRun). y ∷ zs) rest

pub runs_of-only : (set : FinSet nat_cmp) (runs : List PageRun) → AreBelow set → AreRunsFrom 0 runs → ((q : ℕ) → in_runs runs q ≡ contains set q) → runs ≡ runs_of set
runs_of-only set runs below ordered same = same_runs 0 runs (runs_of set) ordered (runs_of-ordered set) (λ q. same q ∙ sym (member-runs_of set below q))
