-- The runs of a set one by one, and which of them are written.
use Rattle.std.proofs.Common.{◌≡◌, ℕ, zero, suc, ◌+◌, ◌-◌, ◌<◌, ◌≤◌, ◌&&◌, ◌||◌, Bool, true, false, not, eqb, ltb, List, [], ◌∷◌, ◌++◌, cond, length, map, refl, sym, ap, subst, ◌∙◌, append_assoc, arith, vec_len, vec_capacity}
use Rattle.std.specs.Global.{Vec}
use Rattle.std.specs.List.{flat_map}
use Rattle.std.specs.Int.{w32, to_be_bytes}
use Rattle.std.specs.Ordering.{nat_cmp}
use Rattle.std.specs.FinSet.{FinSet, contains, empty, contains-empty}
use Rattle.std.proofs.lemmas.List.{append-nil, length-append, map-append}
use Rattle.std.proofs.lemmas.List.Concat.{flat_map-cons}
use Rattle.mig_base.specs.declared.Run.{Run as PageRun}
use Rattle.mig_base.specs.declared.TheConstants.{HIGH_PAGE}
use Rattle.foundation.specs.Ranges.{in_range}
use Rattle.mig_base.specs.Sets.{run_length, without}
use Rattle.mig_base.specs.PageSets.{IsFirstRun}
use Rattle.foundation.proofs.RangeLemmas.{count_below-few, in_range-false_above, ranges}
use Rattle.mig_base.proofs.SetLemmas.{member_without}
use Rattle.mig_model.specs.Lengths.{begins_run, run_count}
use Rattle.page_stream.specs.Texts.{list_below, run_at, runs_of, run_text, runs_text}
use Rattle.page_stream.proofs.OneArea.{none_listed}
use Rattle.page_stream.proofs.TextLemmas.{length-runs, length-runs_of}
use Rattle.page_stream.specs.Writing.{Puts}
use Rattle.page_stream.proofs.FirstLemmas.{list_below-cons, run_length-is}
use Rattle.page_stream.proofs.Puts.{puts_then}

-- The runs of a set without its first

run_length-same : (a b : FinSet nat_cmp) (first bound : ℕ) → ((q : ℕ) → first ≤ q → contains a q ≡ contains b q) → run_length a first bound ≡ run_length b first bound
unfolding run_length
run_length-same a b first zero same = refl
run_length-same a b first (suc bound) same = rw (same first (omega arith), run_length-same a b (1 + first) bound (λ q l. same q (omega arith))) refl

mapped-same : (test : ℕ → Bool) (f g : ℕ → PageRun) (bound : ℕ) → ((i : ℕ) → test i ≡ true → f i ≡ g i) → map f (list_below test bound) ≡ map g (list_below test bound)
unfolding list_below
mapped-same test f g zero same = refl
mapped-same test f g (suc bound) same =
    map-append f (list_below test bound) _ ∙ ap (λ (rest : List PageRun). rest ++ map f (cond (test bound) (bound ∷ []) [])) (mapped-same test f g bound same)
    ∙ ap (λ (rest : List PageRun). map g (list_below test bound) ++ rest) (last (test bound) (same bound)) ∙ sym (map-append g (list_below test bound) _)
  where
    last : (b : Bool) → (b ≡ true → f bound ≡ g bound) → map f (cond b (bound ∷ []) []) ≡ map g (cond b (bound ∷ []) [])
    last true h = ap (λ (run : PageRun). run ∷ []) (h refl)
    last false h = refl

module _ (left rest : FinSet nat_cmp) (run : PageRun) (is : IsFirstRun left run) (at : rest ≡ without left run.first run.count) where
  member_rest : (q : ℕ) → contains rest q ≡ (contains left q && not (in_range run.first run.count q))
  member_rest q = ap (λ s. contains s q) at ∙ member_without left run.first run.count q

  begins_first : (i : ℕ) → begins_run left i ≡ (eqb i run.first || begins_run rest i)
  begins_first i =
      begins_by i (contains left i) (contains left (i - 1)) is.some (is.before i) (is.before (i - 1)) (is.inside i) (is.inside (i - 1)) (λ e. ap (contains left) e ∙ is.behind)
      ∙ ap (λ b. eqb i run.first || b) (sym (ap (λ b. b && not (ltb 0 i && contains rest (i - 1))) (member_rest i) ∙ ap (λ b. (contains left i && not (in_range run.first run.count i)) && not (ltb 0 i && b)) (member_rest (i - 1))))
    where
      begins_by : (i : ℕ) (here before : Bool) → 0 < run.count → (i < run.first → here ≡ false) → (i - 1 < run.first → before ≡ false) → (run.first ≤ i → i < run.first + run.count → here ≡ true) →
          (run.first ≤ i - 1 → i - 1 < run.first + run.count → before ≡ true) → (i ≡ run.first + run.count → here ≡ false) →
          (here && not (ltb 0 i && before)) ≡ (eqb i run.first || ((here && not (in_range run.first run.count i)) && not (ltb 0 i && (before && not (in_range run.first run.count (i - 1))))))
      begins_by i here before some a b c d e = grind (arith, ranges)

  begins_later : (i : ℕ) → begins_run rest i ≡ true → run.first + run.count < i
  begins_later i h = later_by (contains left i) (not (ltb 0 i && contains rest (i - 1))) is.some (is.before i) (λ e. ap (contains left) e ∙ is.behind) (ap (λ b. b && not (ltb 0 i && contains rest (i - 1))) (sym (member_rest i)) ∙ h)
    where
      later_by : (here begins : Bool) → 0 < run.count → (i < run.first → here ≡ false) → (i ≡ run.first + run.count → here ≡ false) → ((here && not (in_range run.first run.count i)) && begins) ≡ true → run.first + run.count < i
      later_by here begins some before end h = grind (arith, ranges)

  none_before : (i : ℕ) → i ≤ run.first → begins_run rest i ≡ false
  none_before i l = none_by (begins_run rest i) (begins_later i)
    where
      none_by : (b : Bool) → (b ≡ true → run.first + run.count < i) → b ≡ false
      none_by true h = absurd (omega (arith, h refl))
      none_by false h = refl

  same_later : (i : ℕ) → begins_run rest i ≡ true → run_at left i ≡ run_at rest i
  same_later i h =
      let later = begins_later i h in
      ap (λ count. record { first = i; count = count })
      (run_length-same left rest i HIGH_PAGE (λ q l. sym (member_rest q ∙ still (contains left q) (in_range run.first run.count q) (in_range-false_above run.first run.count q (omega (arith, later))))))
    where
      still : (b c : Bool) → c ≡ false → (b && not c) ≡ b
      still b c h = grind arith

  first_at : run_at left run.first ≡ run
  first_at = let high = is.high in ap (λ count. record { first = run.first; count = count }) (run_length-is left run.first HIGH_PAGE run.count (omega arith) is.inside is.behind)

  pub first_of_runs : runs_of left ≡ run ∷ runs_of rest
  first_of_runs =
      let some = is.some in
      let high = is.high in
      ap (map (run_at left)) (list_below-cons (begins_run left) (begins_run rest) run.first HIGH_PAGE begins_first none_before (omega arith))
      ∙ ap (λ (first : PageRun). first ∷ map (run_at left) (list_below (begins_run rest) HIGH_PAGE)) first_at ∙ ap (λ (runs : List PageRun). run ∷ runs) (mapped-same (begins_run rest) (run_at left) (run_at rest) HIGH_PAGE same_later)

  pub one_more_run : run_count left ≡ 1 + run_count rest
  one_more_run = omega (arith, length-runs_of left, ap length first_of_runs, length-runs_of rest)

pub no_runs : (left : FinSet nat_cmp) → left ≡ empty → runs_of left ≡ []
no_runs left none = ap (map (run_at left)) (none_listed (begins_run left) HIGH_PAGE (λ i l. begins_none i (contains left i) (ap (λ s. contains s i) none ∙ contains-empty nat_cmp i)))
  where
    begins_none : (i : ℕ) (b : Bool) → b ≡ false → (b && not (ltb 0 i && contains left (i - 1))) ≡ false
    begins_none i b h = rw h refl

pub none_counted : (left : FinSet nat_cmp) → left ≡ empty → run_count left ≡ 0
none_counted left none = sym (length-runs_of left) ∙ ap length (no_runs left none)

pub few_runs : (pages : FinSet nat_cmp) → run_count pages ≤ HIGH_PAGE
unfolding run_count
few_runs pages = count_below-few (begins_run pages) HIGH_PAGE

-- What is written

-- the count is written, and the runs that are not left
pub record AreWritten (old now : Vec ℕ) (pages left : FinSet nat_cmp) : Type 0 where
  pub bytes : List ℕ
  pub puts : Puts old now bytes
  pub all : bytes ++ flat_map run_text (runs_of left) ≡ runs_text (runs_of pages)

pub written_begin : (old now : Vec ℕ) (pages left : FinSet nat_cmp) (count : ℕ) → Puts old now (to_be_bytes w32 count) → count ≡ run_count pages → left ≡ pages → AreWritten old now pages left
written_begin old now pages left count puts counted same =
    record {
      bytes = to_be_bytes w32 count;
      puts = puts;
      all = ap (λ (s : FinSet nat_cmp). to_be_bytes w32 count ++ flat_map run_text (runs_of s)) same ∙ ap (λ n. to_be_bytes w32 n ++ flat_map run_text (runs_of pages)) (counted ∙ sym (length-runs_of pages));
    }

module _ (old now : Vec ℕ) (pages left rest : FinSet nat_cmp) (run : PageRun) (written : AreWritten old now pages left) (is : IsFirstRun left run) (at : rest ≡ without left run.first run.count) where
  next_text : flat_map run_text (runs_of left) ≡ run_text run ++ flat_map run_text (runs_of rest)
  next_text = ap (flat_map run_text) (first_of_runs left rest run is at) ∙ flat_map-cons run_text run (runs_of rest)

  pub written_room : vec_len old + length (runs_text (runs_of pages)) ≤ vec_capacity old → vec_len now + 8 ≤ vec_capacity now
  written_room room =
      omega (
        arith,
        room,
        written.puts.len,
        written.puts.capacity,
        ap length written.all,
        length-append written.bytes (flat_map run_text (runs_of left)),
        length-runs (runs_of left),
        ap length (first_of_runs left rest run is at),
      )

  -- the run is written too
  pub written_more : (new : Vec ℕ) → Puts now new (run_text run) → AreWritten old new pages rest
  written_more new put =
      record {
        bytes = written.bytes ++ run_text run;
        puts = puts_then old now new written.bytes (run_text run) written.puts put;
        all = append_assoc written.bytes (run_text run) (flat_map run_text (runs_of rest)) ∙ ap (λ (text : List ℕ). written.bytes ++ text) (sym next_text) ∙ written.all;
      }

pub written_all : (old now : Vec ℕ) (pages left : FinSet nat_cmp) → AreWritten old now pages left → left ≡ empty → Puts old now (runs_text (runs_of pages))
written_all old now pages left written none =
    let text : flat_map run_text (runs_of left) ≡ [] = ap (flat_map run_text) (no_runs left none) in
    subst (Puts old now) (sym (append-nil written.bytes) ∙ ap (λ (rest : List ℕ). written.bytes ++ rest) (sym text) ∙ written.all) written.puts
