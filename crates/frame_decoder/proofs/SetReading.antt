-- Reading sets of pages, as their runs.
use Rattle.std.proofs.Common.{◌≡◌, ℕ, ◌+◌, ◌-◌, ◌^◌, ◌<◌, ◌≤◌, ◌&&◌, ◌||◌, true, ltb, leb, List, [], ◌∷◌, ◌++◌, length, Ok, Result, refl, sym, ap, subst, ◌∙◌, arith}
use Rattle.std.specs.Int.{w32}
use Rattle.std.specs.Ordering.{nat_cmp}
use Rattle.std.specs.FinSet.{FinSet, contains, len}
use Rattle.std.proofs.Math.Bool.{or-true}
use Rattle.std.proofs.lemmas.Bool.{and_from, false_from_ne_true, ltb-true, leb-true, le-leb, lt-ltb}
use Rattle.mig_base.specs.declared.Run.{Run as PageRun}
use Rattle.mig_base.specs.declared.TheConstants.{LOW_PAGE, HIGH_PAGE}
use Rattle.mig_base.specs.PageSets.{in_runs, AreRunsFrom}
use Rattle.foundation.specs.Ranges.{in_range}
use Rattle.foundation.proofs.RangeLemmas.{in_range-true, in_range_bounds, count_below-few}
use Rattle.mig_base.proofs.SetLemmas.{same_members, member_below}
use Rattle.foundation.proofs.TestLemmas.{and_first, and_second, all_below}
use Rattle.mig_model.specs.Bounds.{IsPage, ArePages}
use Rattle.mig_model.specs.Lengths.{begins_run, run_count}
use Rattle.mig_model.proofs.memory.Facts.{either}
use Rattle.page_stream.specs.Texts.{AreBelow, run_text, runs_of, runs_text}
use Rattle.page_stream.proofs.RunsAndAreas.{member-runs_of}
use Rattle.page_stream.proofs.RunsInOrder.{runs_of-ordered, runs_of-only}
use Rattle.page_stream.proofs.TextLemmas.{length-runs_of}
use Rattle.frame_decoder.specs.declared.fault.StreamFault.{StreamFault}
use Rattle.frame_decoder.specs.declared.version.Version.{Version}
use Rattle.frame_decoder.specs.Reading.{tested, number_in, many_from, is_run, run_in, run_next, set_of, set_from, pages_at, few_pages_at}
use Rattle.frame_decoder.specs.Versions.{max_pages}
use Rattle.frame_decoder.proofs.FieldLemmas.{IsBytes, AllFrom, bind_split, bind_then, checked_ok, ok_is, Takes, IsReader, one_takes, one_again, two_takes, two_again, reads_32, counted_takes, counted_again}

-- One run

pub record RunFits (low : ℕ) (run : PageRun) : Type 0 where
  pub from : low ≤ run.first
  pub some : 0 < run.count
  pub inside : run.first + run.count ≤ HIGH_PAGE

pub run_is : (low : ℕ) (run : PageRun) → is_run low run.first run.count ≡ true → RunFits low run
run_is low run h =
    let two = and_first (leb low run.first && ltb 0 run.count) (leb (run.first + run.count) HIGH_PAGE) h in
    record {
      from = leb-true _ _ (and_first (leb low run.first) (ltb 0 run.count) two);
      some = ltb-true _ _ (and_second (leb low run.first) (ltb 0 run.count) two);
      inside = leb-true _ _ (and_second (leb low run.first && ltb 0 run.count) (leb (run.first + run.count) HIGH_PAGE) h);
    }

pub run_passes : (low : ℕ) (run : PageRun) → RunFits low run → is_run low run.first run.count ≡ true
run_passes low run h =
    and_from (leb low run.first && ltb 0 run.count) (leb (run.first + run.count) HIGH_PAGE) (and_from (leb low run.first) (ltb 0 run.count) (le-leb low run.first h.from) (lt-ltb 0 run.count h.some)) (le-leb (run.first + run.count) HIGH_PAGE h.inside)

abbrev run_step : ℕ → ℕ → ℕ → List ℕ → Result (PageRun × List ℕ) StreamFault
run_step low first count rest = tested (is_run low first count) (record { first = first; count = count }, rest)

run_takes : (low : ℕ) (bytes : List ℕ) (x : PageRun × List ℕ) → IsBytes bytes → run_in low bytes ≡ Ok x → Takes bytes (run_text x.0) x.1 × RunFits low x.0
unfolding run_in
run_takes low bytes x fits e =
    let p = two_takes reads_32 reads_32 (run_step low) bytes x fits e in
    let run : PageRun = record { first = p.0; count = p.1 } in
    let g = checked_ok (is_run low p.0 p.1) (run, p.2) x p.6 in
    subst (λ (x : PageRun × List ℕ). Takes bytes (run_text x.0) x.1 × RunFits low x.0) g.1 (p.3, run_is low run g.0)

run_again : (low : ℕ) (run : PageRun) (rest : List ℕ) → RunFits low run → run_in low (run_text run ++ rest) ≡ Ok (run, rest)
unfolding run_in
run_again low run rest h =
    let inside = h.inside in
    two_again reads_32 reads_32 (run_step low) run.first run.count rest (omega (arith, inside)) (omega (arith, inside)) ∙ rw (run_passes low run h) refl

reads_run : (low : ℕ) → IsReader (run_in low) run_text (RunFits low)
reads_run low = record { takes = run_takes low; again = run_again low }

-- The pages of runs

abbrev pub RunsFit : ℕ → List PageRun → Type 0
RunsFit low runs = AllFrom RunFits run_next low runs

runs_ordered : (low : ℕ) (runs : List PageRun) → RunsFit low runs → AreRunsFrom low runs
runs_ordered low [] h = tt
runs_ordered low (run ∷ runs) h = (h.0.from, h.0.some, runs_ordered (run_next low run) runs h.1)

ordered_lower : (low : ℕ) (runs : List PageRun) → AreRunsFrom low runs → AreRunsFrom 0 runs
ordered_lower low [] h = tt
ordered_lower low (run ∷ runs) h = (omega arith, h.1, h.2)

runs_inside : (low : ℕ) (runs : List PageRun) (q : ℕ) → RunsFit low runs → in_runs runs q ≡ true → (low ≤ q) × (q < HIGH_PAGE)
runs_inside low [] q h there = absurd cc
runs_inside low (run ∷ runs) q h there =
    let from = h.0.from in
    let inside = h.0.inside in
    either (in_range run.first run.count q) (in_runs runs q) there
    (λ here. let b = in_range_bounds run.first run.count q here in let lower = b.0 in let upper = b.1 in (omega (arith, from, lower), omega (arith, inside, upper)))
    (λ later. let b = runs_inside (run_next low run) runs q h.1 later in let lower = b.0 in (omega (arith, from, lower), b.1))

members : (low : ℕ) (runs : List PageRun) (q : ℕ) → RunsFit low runs → contains (set_of runs) q ≡ in_runs runs q
members low runs q h =
    member_below (in_runs runs) HIGH_PAGE q
    ∙ all_below q HIGH_PAGE (in_runs runs q) (λ past. false_from_ne_true (in_runs runs q) (λ there. let below = (runs_inside low runs q h there).1 in absurd (omega (arith, past, below))))

pub set_pages : (runs : List PageRun) → RunsFit LOW_PAGE runs → ArePages (set_of runs)
set_pages runs h page there = runs_inside LOW_PAGE runs page h (sym (members LOW_PAGE runs page h) ∙ there)

pub pages_below : (set : FinSet nat_cmp) → ArePages set → AreBelow set
pages_below set h page there = (h page there).1

runs_back : (runs : List PageRun) → RunsFit LOW_PAGE runs → runs_of (set_of runs) ≡ runs
runs_back runs h =
    sym (runs_of-only (set_of runs) runs (pages_below (set_of runs) (set_pages runs h)) (ordered_lower LOW_PAGE runs (runs_ordered LOW_PAGE runs h)) (λ q. sym (members LOW_PAGE runs q h)))

-- The runs of a set

runs_fit : (low : ℕ) (runs : List PageRun) → AreRunsFrom low runs → ((q : ℕ) → in_runs runs q ≡ true → IsPage q) → RunsFit low runs
runs_fit low [] h pages = tt
runs_fit low (run ∷ runs) h pages =
    let some = h.1 in
    let last = run.first + run.count - 1 in
    let last_in : in_range run.first run.count last ≡ true = in_range-true run.first run.count last (omega (arith, some)) (omega (arith, some)) in
    let below = (pages last (ap (λ b. b || in_runs runs last) last_in)).1 in (
      record { from = h.0; some = some; inside = omega (arith, below, some) },
      runs_fit (run.first + run.count + 1) runs h.2 (λ q there. pages q (ap (λ b. in_range run.first run.count q || b) there ∙ or-true (in_range run.first run.count q))),
    )

runs_higher : (runs : List PageRun) → RunsFit 0 runs → ((q : ℕ) → in_runs runs q ≡ true → IsPage q) → RunsFit LOW_PAGE runs
runs_higher [] h pages = tt
runs_higher (run ∷ runs) h pages =
    let some = h.0.some in
    let first_in : in_range run.first run.count run.first ≡ true = in_range-true run.first run.count run.first (omega arith) (omega (arith, some)) in
    (record { from = (pages run.first (ap (λ b. b || in_runs runs run.first) first_in)).0; some = some; inside = h.0.inside }, h.1)

pub set_fits : (set : FinSet nat_cmp) → ArePages set → RunsFit LOW_PAGE (runs_of set)
set_fits set h =
    let pages : (q : ℕ) → in_runs (runs_of set) q ≡ true → IsPage q = λ q there. h q (sym (member-runs_of set (pages_below set h) q) ∙ there) in
    runs_higher (runs_of set) (runs_fit 0 (runs_of set) (runs_of-ordered set) pages) pages

set_back : (set : FinSet nat_cmp) → ArePages set → set_of (runs_of set) ≡ set
set_back set h = same_members (set_of (runs_of set)) set (λ q. members LOW_PAGE (runs_of set) q (set_fits set h) ∙ member-runs_of set (pages_below set h) q)

runs_few : (set : FinSet nat_cmp) → length (runs_of set) < 2 ^ 32
unfolding run_count
runs_few set = omega (arith, length-runs_of set, count_below-few (begins_run set) HIGH_PAGE)

-- A set

pages_takes : (bytes : List ℕ) (x : FinSet nat_cmp × List ℕ) → IsBytes bytes → pages_at bytes ≡ Ok x → Takes bytes (runs_text (runs_of x.0)) x.1 × ArePages x.0
unfolding pages_at set_from
pages_takes bytes x fits e =
    let b = bind_split (number_in w32 bytes) (λ n. many_from run_in run_next LOW_PAGE n.0 n.1) (λ runs. Ok (set_of runs.0, runs.1)) x e in
    let p = counted_takes reads_32 reads_run run_next LOW_PAGE bytes b.0 fits b.1 in
    subst (λ (x : FinSet nat_cmp × List ℕ). Takes bytes (runs_text (runs_of x.0)) x.1 × ArePages x.0) (ok_is (set_of b.0.0, b.0.1) x b.2)
    (subst (λ runs. Takes bytes (runs_text runs) b.0.1) (sym (runs_back b.0.0 p.2)) p.0, set_pages b.0.0 p.2)

pages_again : (set : FinSet nat_cmp) (rest : List ℕ) → ArePages set → pages_at (runs_text (runs_of set) ++ rest) ≡ Ok (set, rest)
unfolding pages_at set_from
pages_again set rest h =
    bind_then (number_in w32 (runs_text (runs_of set) ++ rest)) (λ n. many_from run_in run_next LOW_PAGE n.0 n.1) (λ runs. Ok (set_of runs.0, runs.1)) (runs_of set, rest)
    (counted_again reads_32 reads_run run_next LOW_PAGE (runs_of set) rest (runs_few set) (set_fits set h))
    ∙ ap (λ (s : FinSet nat_cmp). Ok (s, rest)) (set_back set h)

abbrev pub set_text : FinSet nat_cmp → List ℕ
set_text set = runs_text (runs_of set)

pub reads_pages : IsReader pages_at set_text ArePages
reads_pages = record { takes = pages_takes; again = pages_again }

-- A set of no more pages than a version has

abbrev pub AreFew : Version → FinSet nat_cmp → Type 0
AreFew version set = ArePages set × (len set ≤ max_pages version)

abbrev few_step : Version → FinSet nat_cmp → List ℕ → Result (FinSet nat_cmp × List ℕ) StreamFault
few_step version set rest = tested (leb (len set) (max_pages version)) (set, rest)

few_pages_takes : (version : Version) (bytes : List ℕ) (x : FinSet nat_cmp × List ℕ) → IsBytes bytes → few_pages_at version bytes ≡ Ok x → Takes bytes (set_text x.0) x.1 × AreFew version x.0
unfolding few_pages_at
few_pages_takes version bytes x fits e =
    let p = one_takes reads_pages (few_step version) bytes x fits e in
    let g = checked_ok (leb (len p.0) (max_pages version)) (p.0, p.1) x p.4 in
    subst (λ (x : FinSet nat_cmp × List ℕ). Takes bytes (set_text x.0) x.1 × AreFew version x.0) g.1 (p.2, (p.3, leb-true _ _ g.0))

few_pages_again : (version : Version) (set : FinSet nat_cmp) (rest : List ℕ) → AreFew version set → few_pages_at version (set_text set ++ rest) ≡ Ok (set, rest)
unfolding few_pages_at
few_pages_again version set rest h =
    one_again reads_pages (few_step version) set rest h.0 ∙ rw (le-leb (len set) (max_pages version) h.1) refl

pub reads_few_pages : (version : Version) → IsReader (few_pages_at version) set_text (AreFew version)
reads_few_pages version = record { takes = few_pages_takes version; again = few_pages_again version }
