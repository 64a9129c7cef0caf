-- Sets and maps that are filled while their runs and areas are read.
use Rattle.std.proofs.Common.{◌≡◌, ℕ, ◌+◌, ◌-◌, ◌<◌, ◌≤◌, ◌||◌, Bool, true, false, cond, Option, Some, None, List, [], ◌∷◌, ◌++◌, Result, Ok, refl, sym, ap, ◌∙◌, arith}
use Rattle.std.specs.Ordering.{nat_cmp}
use Rattle.std.specs.FinMap.{FinMap, get, get-empty}
use Rattle.std.specs.FinMap as finmap
use Rattle.std.specs.FinSet.{FinSet, contains, contains-empty}
use Rattle.std.specs.FinSet as finset
use Rattle.area_map.specs.Areas.{pages_in, prot_in}
use Rattle.area_map.proofs.ViewLemmas.{get-pages_in}
use Rattle.mig_base.specs.declared.Area.{Area}
use Rattle.mig_base.specs.declared.Prot.{Prot}
use Rattle.mig_base.specs.declared.Run.{Run as PageRun}
use Rattle.mig_base.specs.declared.TheConstants.{LOW_PAGE, HIGH_PAGE}
use Rattle.mig_base.specs.PageSets.{in_runs}
use Rattle.mig_base.specs.Pages.{set_range}
use Rattle.foundation.specs.Ranges.{in_range}
use Rattle.mig_base.proofs.PageLemmas.{get-set_range, same_pages}
use Rattle.foundation.proofs.RangeLemmas.{in_range_bounds}
use Rattle.mig_base.proofs.RunLemmas.{in_runs-push}
use Rattle.mig_base.proofs.SetLemmas.{same_members, member_below}
use Rattle.foundation.proofs.TestLemmas.{all_below}
use Rattle.mig_model.proofs.memory.Facts.{by_test}
use Rattle.frame_decoder.specs.declared.fault.StreamFault.{StreamFault}
use Rattle.frame_decoder.specs.declared.fault.StreamFault.TheVariants as faults
use Rattle.frame_decoder.specs.Reading.{◌>>=◌, FailsToRead, many_from, run_in, run_next, set_of, set_from, area_in, area_next, map_in}
use Rattle.frame_decoder.proofs.Loop.{Reads, begins, goes_on, ends, is_done}

-- a fault stays one, however the items are used at the end
then_fails : {A B : Type 0} (e : StreamFault) (read : Result A StreamFault) (f : A → Result B StreamFault) → FailsToRead e read → FailsToRead e (read >>= f)
then_fails faults.NoMemory read f h = tt
then_fails faults.BadTag read f h = rw h refl
then_fails faults.BadLength read f h = rw h refl
then_fails faults.BadField read f h = rw h refl

-- Sets

-- the set has the pages of the runs that were read, and the rest is left
pub record SetFills (set : FinSet nat_cmp) (low count : ℕ) (rest : List ℕ) (total : ℕ) (bytes : List ℕ) : Type 0 where
  pub front : List PageRun
  pub reads : Reads run_in run_next front low count rest (many_from run_in run_next LOW_PAGE total bytes)
  pub pages : (q : ℕ) → contains set q ≡ in_runs front q

pub set_begins : (total : ℕ) (bytes : List ℕ) → SetFills finset.empty LOW_PAGE (total - 0) bytes total bytes
set_begins total bytes = record { front = []; reads = begins run_in run_next LOW_PAGE total bytes; pages = λ q. contains-empty nat_cmp q }

or_swap : (a b : Bool) → (a || b) ≡ (b || a)
or_swap true true = refl
or_swap true false = refl
or_swap false true = refl
or_swap false false = refl

pub set_goes_on : (set new : FinSet nat_cmp) (low i : ℕ) (rest after : List ℕ) (total : ℕ) (bytes : List ℕ) (run : PageRun) → i < total → run_in low rest ≡ Ok (run, after) → ((q : ℕ) → contains new q ≡ (in_range run.first run.count q || contains set q))
    → SetFills set low (total - i) rest total bytes → SetFills new (run.first + run.count + 1) (total - (i + 1)) after total bytes
set_goes_on set new low i rest after total bytes run lt one put so = record {
  front = so.front ++ run ∷ [];
  reads = goes_on run_in run_next so.front low total i rest run after (many_from run_in run_next LOW_PAGE total bytes) lt one so.reads;
  pages = λ q. put q ∙ ap (λ b. in_range run.first run.count q || b) (so.pages q) ∙ or_swap (in_range run.first run.count q) (in_runs so.front q) ∙ sym (in_runs-push so.front run q);
}

pub set_ends : (set : FinSet nat_cmp) (low i : ℕ) (rest : List ℕ) (total : ℕ) (bytes : List ℕ) (e : StreamFault) → i < total → FailsToRead e (run_in low rest) → SetFills set low (total - i) rest total bytes → FailsToRead e (set_from total bytes)
unfolding set_from
set_ends set low i rest total bytes e lt h so =
    then_fails e (many_from run_in run_next LOW_PAGE total bytes) (λ runs. Ok (set_of runs.0, runs.1)) (ends run_in run_next e so.front low total i rest (many_from run_in run_next LOW_PAGE total bytes) lt h so.reads)

pub set_done : (set : FinSet nat_cmp) (low i : ℕ) (rest : List ℕ) (total : ℕ) (bytes : List ℕ) → total ≤ i → ((q : ℕ) → HIGH_PAGE ≤ q → contains set q ≡ false) → SetFills set low (total - i) rest total bytes → set_from total bytes ≡ Ok (set, rest)
unfolding set_from
set_done set low i rest total bytes le high so =
    let all = is_done run_in run_next so.front low total i rest (many_from run_in run_next LOW_PAGE total bytes) le so.reads in
    let same : set_of so.front ≡ set = same_members (set_of so.front) set (λ q. member_below (in_runs so.front) HIGH_PAGE q ∙ all_below q HIGH_PAGE (in_runs so.front q) (λ past. sym (so.pages q) ∙ high q past) ∙ sym (so.pages q)) in
    rw all (ap (λ (s : FinSet nat_cmp). Ok (s, rest)) same)

-- Maps

-- the map has the pages of the areas that were read, none from `low` on, and the rest is left
pub record MapFills (map : FinMap nat_cmp Prot) (low : ℕ) (last : Option Prot) (count : ℕ) (rest : List ℕ) (total : ℕ) (bytes : List ℕ) : Type 0 where
  pub front : List Area
  pub reads : Reads area_in area_next front (low, last) count rest (many_from area_in area_next (LOW_PAGE, None) total bytes)
  pub pages : (q : ℕ) → get map q ≡ prot_in front q
  pub above : (q : ℕ) → low ≤ q → prot_in front q ≡ None

pub map_begins : (total : ℕ) (bytes : List ℕ) → MapFills finmap.empty LOW_PAGE None (total - 0) bytes total bytes
unfolding prot_in
map_begins total bytes = record { front = []; reads = begins area_in area_next (LOW_PAGE, None) total bytes; pages = λ q. get-empty nat_cmp q; above = λ q l. refl }

prot_in-push : (areas : List Area) (a : Area) (q : ℕ) → (in_range a.first a.count q ≡ true → prot_in areas q ≡ None) → prot_in (areas ++ a ∷ []) q ≡ cond (in_range a.first a.count q) (Some a.prot) (prot_in areas q)
unfolding prot_in
prot_in-push [] a q apart = refl
prot_in-push (b ∷ areas) a q apart =
    by_test (in_range b.first b.count q)
    (λ here. by_test (in_range a.first a.count q)
    (λ in_a. absurd (let no : Some b.prot ≡ None = rw here at (apart in_a) in cc))
    (λ out. rw (here, out) refl))
    (λ out. rw out (prot_in-push areas a q (λ in_a. rw out at (apart in_a))))

pub map_goes_on : (map : FinMap nat_cmp Prot) (low : ℕ) (last : Option Prot) (i : ℕ) (rest after : List ℕ) (total : ℕ) (bytes : List ℕ) (a : Area) → i < total → area_in (low, last) rest ≡ Ok (a, after) → low ≤ a.first
    → MapFills map low last (total - i) rest total bytes → MapFills (set_range map a.first a.count a.prot) (a.first + a.count) (Some a.prot) (total - (i + 1)) after total bytes
map_goes_on map low last i rest after total bytes a lt one past so =
    let apart : (q : ℕ) → in_range a.first a.count q ≡ true → prot_in so.front q ≡ None = λ q there. let b = in_range_bounds a.first a.count q there in let lower = b.0 in so.above q (omega (arith, past, lower)) in
    record {
      front = so.front ++ a ∷ [];
      reads = goes_on area_in area_next so.front (low, last) total i rest a after (many_from area_in area_next (LOW_PAGE, None) total bytes) lt one so.reads;
      pages = λ q. get-set_range map a.first a.count a.prot q ∙ ap (λ o. cond (in_range a.first a.count q) (Some a.prot) o) (so.pages q) ∙ sym (prot_in-push so.front a q (apart q));
      above = λ q l.
          prot_in-push so.front a q (apart q)
          ∙ by_test (in_range a.first a.count q) (λ there. absurd (let b = in_range_bounds a.first a.count q there in let upper = b.1 in omega (arith, l, upper))) (λ out. rw out (so.above q (omega (arith, past, l))));
    }

pub map_ends : (map : FinMap nat_cmp Prot) (low : ℕ) (last : Option Prot) (i : ℕ) (rest : List ℕ) (total : ℕ) (bytes : List ℕ) (e : StreamFault) → i < total → FailsToRead e (area_in (low, last) rest) → MapFills map low last (total - i) rest total bytes → FailsToRead e (map_in total bytes)
unfolding map_in
map_ends map low last i rest total bytes e lt h so =
    then_fails e (many_from area_in area_next (LOW_PAGE, None) total bytes) (λ areas. Ok (pages_in areas.0, areas.1)) (ends area_in area_next e so.front (low, last) total i rest (many_from area_in area_next (LOW_PAGE, None) total bytes) lt h so.reads)

pub map_done : (map : FinMap nat_cmp Prot) (low : ℕ) (last : Option Prot) (i : ℕ) (rest : List ℕ) (total : ℕ) (bytes : List ℕ) → total ≤ i → MapFills map low last (total - i) rest total bytes → map_in total bytes ≡ Ok (map, rest)
unfolding map_in
map_done map low last i rest total bytes le so =
    let all = is_done area_in area_next so.front (low, last) total i rest (many_from area_in area_next (LOW_PAGE, None) total bytes) le so.reads in
    let same : pages_in so.front ≡ map = same_pages (pages_in so.front) map (λ q. get-pages_in so.front q ∙ sym (so.pages q)) in
    rw all (ap (λ (m : FinMap nat_cmp Prot). Ok (m, rest)) same)
