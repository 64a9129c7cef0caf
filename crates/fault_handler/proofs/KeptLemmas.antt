-- The copies that are kept, and the set of their pages.
use Rattle.std.proofs.Common.{◌≡◌, ℕ, suc, ◌+◌, ◌-◌, ◌≤◌, ◌&&◌, ◌||◌, Bool, true, false, not, cond, eqb, refl, sym, ap, ◌∙◌, arith, List, ◌∷◌, [], length, get_or, Option, Some, None, is_some}
use Rattle.std.specs.Ordering.{nat_cmp}
use Rattle.std.specs.Option.{option_copied}
use denote.Bor.{Bor}
use Rattle.std.specs.FinMap as finmap
use Rattle.std.specs.FinMap.{FinMap, get, contains_key, insert, get-empty, get-retain_keys, nat_cmp-IsAntisymmetric}
use Rattle.std.specs.FinSet as set
use Rattle.std.specs.FinSet.{FinSet, contains, contains-empty}
use Rattle.std.proofs.lemmas.Bool.Decides.{nat_tests}
use Rattle.mig_base.specs.Pages.{remove_range}
use Rattle.foundation.specs.Ranges.{in_range}
use Rattle.mig_base.specs.Sets.{without}
use Rattle.foundation.proofs.TestLemmas.{cond_not}
use Rattle.mig_base.proofs.PageLemmas.{same_pages, get-put, get-remove_range}
use Rattle.foundation.proofs.RangeLemmas.{ranges}
use Rattle.mig_base.proofs.SetLemmas.{same_members, member_inserted, member_removed, member_without}
use Rattle.mig_model.specs.Wire.{kept_with, run_copies}
use Rattle.page_table.specs.Views.{Pages}
use Rattle.fault_handler.specs.Kept.{IsKept}

-- No page is protected

none_removed : (pages : FinSet nat_cmp) (page : ℕ) → pages ≡ set.empty → set.remove pages page ≡ set.empty
none_removed pages page none =
    same_members _ _ (λ q. member_removed pages page q ∙ ap (λ s. not (eqb q page) && contains s q) none ∙ ap (λ b. not (eqb q page) && b) (contains-empty nat_cmp q) ∙ and_none (not (eqb q page)) ∙ sym (contains-empty nat_cmp q))
  where
    and_none : (b : Bool) → (b && false) ≡ false
    and_none true = refl
    and_none false = refl

none_without : (pages : FinSet nat_cmp) (first count : ℕ) → pages ≡ set.empty → without pages first count ≡ set.empty
none_without pages first count none =
    same_members _ _ (λ q. member_without pages first count q ∙ ap (λ s. contains s q && not (in_range first count q)) none ∙ ap (λ b. b && not (in_range first count q)) (contains-empty nat_cmp q) ∙ sym (contains-empty nat_cmp q))

-- The set has the pages that are present

pub kept_nothing : (pages : Pages) (kept : FinSet nat_cmp) → pages.bytes ≡ finmap.empty → pages.protected ≡ set.empty → kept ≡ set.empty → IsKept pages kept
kept_nothing pages kept bytes flags none =
    record { unprotected = flags; same = λ q. ap (λ s. contains s q) none ∙ contains-empty nat_cmp q ∙ sym (ap (λ m. contains_key m q) bytes ∙ ap is_some (get-empty nat_cmp q)) }

key_inserted : (bytes : FinMap nat_cmp (List ℕ)) (page : ℕ) (copy : List ℕ) (q : ℕ) → contains_key (insert bytes page copy) q ≡ (eqb q page || contains_key bytes q)
key_inserted bytes page copy q = ap is_some (get-put bytes page q (Some copy)) ∙ some_by (eqb q page) (get bytes q)
  where
    some_by : (b : Bool) (o : Option (List ℕ)) → is_some (cond b (Some copy) o) ≡ (b || is_some o)
    some_by true o = refl
    some_by false o = refl

there_already : (q page : ℕ) (here : ℕ → Bool) → here page ≡ true → here q ≡ (eqb q page || here q)
there_already q page here h = grind (arith, nat_tests)

pub kept_replaced : (old new : Pages) (kept : FinSet nat_cmp) (page : ℕ) (copy : List ℕ) → IsKept old kept → contains kept page ≡ true → new.bytes ≡ insert old.bytes page copy → new.protected ≡ set.remove old.protected page → IsKept new kept
kept_replaced old new kept page copy is there bytes flags = record {
  unprotected = flags ∙ none_removed old.protected page is.unprotected;
  same = λ q.
      there_already q page (contains kept) there ∙ ap (λ b. eqb q page || b) (is.same q) ∙ sym (ap (λ m. contains_key m q) bytes ∙ key_inserted old.bytes page copy q);
}

pub kept_put : (old new : Pages) (kept more : FinSet nat_cmp) (page : ℕ) (copy : List ℕ) → IsKept old kept → more ≡ set.insert kept page → new.bytes ≡ insert old.bytes page copy → new.protected ≡ old.protected → IsKept new more
kept_put old new kept more page copy is added bytes flags = record {
  unprotected = flags ∙ is.unprotected;
  same = λ q.
      ap (λ s. contains s q) added ∙ member_inserted kept page q ∙ ap (λ b. eqb q page || b) (is.same q) ∙ sym (ap (λ m. contains_key m q) bytes ∙ key_inserted old.bytes page copy q);
}

taken_again : (q page : ℕ) (here : ℕ → Bool) → here page ≡ false → (not (eqb q page) && (eqb q page || here q)) ≡ here q
taken_again q page here h = grind (arith, nat_tests)

pub kept_undone : (old new : Pages) (kept more less : FinSet nat_cmp) (page : ℕ) → IsKept old kept → contains kept page ≡ false → more ≡ set.insert kept page → less ≡ set.remove more page → new.bytes ≡ old.bytes → new.protected ≡ old.protected → IsKept new less
kept_undone old new kept more less page is missing added taken bytes flags = record {
  unprotected = flags ∙ is.unprotected;
  same = λ q.
      ap (λ s. contains s q) taken ∙ member_removed more page q ∙ ap (λ s. not (eqb q page) && contains s q) added ∙ ap (λ b. not (eqb q page) && b) (member_inserted kept page q) ∙ taken_again q page (contains kept) missing ∙ is.same q
      ∙ ap (λ m. contains_key m q) (sym bytes);
}

key_less : (bytes : FinMap nat_cmp (List ℕ)) (first count q : ℕ) → contains_key (remove_range bytes first count) q ≡ (contains_key bytes q && not (in_range first count q))
key_less bytes first count q = ap is_some (get-remove_range bytes first count q) ∙ none_by (in_range first count q) (get bytes q)
  where
    none_by : (b : Bool) (o : Option (List ℕ)) → is_some (cond b None o) ≡ (is_some o && not b)
    none_by true None = refl
    none_by true (Some x) = refl
    none_by false None = refl
    none_by false (Some x) = refl

pub kept_dropped : (old new : Pages) (kept less : FinSet nat_cmp) (first count : ℕ) → IsKept old kept → less ≡ without kept first count → new.bytes ≡ remove_range old.bytes first count → new.protected ≡ without old.protected first count → IsKept new less
kept_dropped old new kept less first count is taken bytes flags = record {
  unprotected = flags ∙ none_without old.protected first count is.unprotected;
  same = λ q.
      ap (λ s. contains s q) taken ∙ member_without kept first count q ∙ ap (λ b. b && not (in_range first count q)) (is.same q) ∙ sym (ap (λ m. contains_key m q) bytes ∙ key_less old.bytes first count q);
}

-- Runs

some_in : (b : Bool) (copy : List ℕ) (o : Option (List ℕ)) → is_some (cond b (Some copy) o) ≡ (b || is_some o)
some_in true copy o = refl
some_in false copy o = refl

abbrev pub HasRun : FinMap nat_cmp (List ℕ) → FinMap nat_cmp (List ℕ) → ℕ → ℕ → List (List ℕ) → Type 0
HasRun old new first count run = (q : ℕ) → get new q ≡ cond (in_range first count q) (Some (get_or run (q - first) [])) (get old q)

pub kept_run : (old new : Pages) (kept more : FinSet nat_cmp) (first count : ℕ) (run : List (List ℕ)) → IsKept old kept → ((q : ℕ) → contains more q ≡ (in_range first count q || contains kept q)) → HasRun old.bytes new.bytes first count run → new.protected ≡ without old.protected first count → IsKept new more
kept_run old new kept more first count run is added bytes flags = record {
  unprotected = flags ∙ none_without old.protected first count is.unprotected;
  same = λ q.
      added q ∙ ap (λ b. in_range first count q || b) (is.same q) ∙ sym (ap is_some (bytes q) ∙ some_in (in_range first count q) (get_or run (q - first) []) (get old.bytes q));
}

one_first : (q first : ℕ) (copy : List ℕ) (run : List (List ℕ)) (o : Option (List ℕ)) →
    cond (in_range (1 + first) (length run) q) (Some (get_or run (q - (1 + first)) [])) (cond (eqb q first) (Some copy) o) ≡ cond (in_range first (suc (length run)) q) (Some (get_or (copy ∷ run) (q - first) [])) o
one_first q first copy run o = grind (arith, nat_tests, front copy run (q - first), behind copy run (q - first) (q - (1 + first)))
  where
    front : (copy : List ℕ) (run : List (List ℕ)) (n : ℕ) → n ≡ 0 → get_or (copy ∷ run) n [] ≡ copy
    front copy run n e = ap (λ k. get_or (copy ∷ run) k []) e

    behind : (copy : List ℕ) (run : List (List ℕ)) (n m : ℕ) → n ≡ suc m → get_or (copy ∷ run) n [] ≡ get_or run m []
    behind copy run n m e = ap (λ k. get_or (copy ∷ run) k []) e

pub get-run_copies : (kept : FinMap nat_cmp (List ℕ)) (first : ℕ) (run : List (List ℕ)) (q : ℕ) → get (kept_with kept (run_copies first run)) q ≡ cond (in_range first (length run) q) (Some (get_or run (q - first) [])) (get kept q)
get-run_copies kept first [] q = grind (arith, ranges)
get-run_copies kept first (copy ∷ run) q =
    get-run_copies (insert kept first copy) (1 + first) run q ∙ ap (λ o. cond (in_range (1 + first) (length run) q) (Some (get_or run (q - (1 + first)) [])) o) (get-put kept first q (Some copy))
    ∙ one_first q first copy run (get kept q)

pub run_kept : (old new : FinMap nat_cmp (List ℕ)) (first : ℕ) (run : List (List ℕ)) → HasRun old new first (length run) run → new ≡ kept_with old (run_copies first run)
run_kept old new first run bytes = same_pages _ _ (λ q. bytes q ∙ sym (get-run_copies old first run q))

-- Pages that are discarded run by run

pub none_gone : (none : Bool) (o : Option (List ℕ)) → none ≡ false → o ≡ cond none None o
none_gone none o h = rw h refl

pub more_gone : (before run after : Bool) (o : Option (List ℕ)) → after ≡ (before || run) → cond run None (cond before None o) ≡ cond after None o
more_gone before run after o h = rw h (by_case before run)
  where
    by_case : (before run : Bool) → cond run None (cond before None o) ≡ cond (before || run) None o
    by_case true true = refl
    by_case true false = refl
    by_case false run = refl

pub all_gone : (kept new : FinMap nat_cmp (List ℕ)) (pages : FinSet nat_cmp) (gone : ℕ → Bool) → ((q : ℕ) → gone q ≡ contains pages q) → ((q : ℕ) → get new q ≡ cond (gone q) None (get kept q)) → new ≡ finmap.retain_keys kept (λ page. not (contains pages page))
all_gone kept new pages gone all out =
    same_pages _ _
    (λ q. out q ∙ ap (λ b. cond b None (get kept q)) (all q) ∙ sym (cond_not (contains pages q) (get kept q) None)
    ∙ sym (get-retain_keys kept (λ page. not (contains pages page)) q (λ x e. ap (λ k. not (contains pages k)) (sym (nat_cmp-IsAntisymmetric q x e)))))

-- Pages that are taken out of the set again

pub one_out : (q first page : ℕ) (was : Bool) (key : ℕ → Bool) → first ≤ page → key page ≡ false → (not (eqb q page) && (was && (not (in_range first (page - first) q) || key q))) ≡ (was && (not (in_range first (page + 1 - first) q) || key q))
one_out q first page was key l h = grind (arith, ranges)

pub one_stays : (q first page : ℕ) (was : Bool) (key : ℕ → Bool) → first ≤ page → key page ≡ true → (was && (not (in_range first (page - first) q) || key q)) ≡ (was && (not (in_range first (page + 1 - first) q) || key q))
one_stays q first page was key l h = grind (arith, ranges)

-- a page that a table gives is present
pub copied_there : (o : Option (Bor (List ℕ))) (bytes : Option (List ℕ)) → option_copied o ≡ bytes → is_some bytes ≡ is_some o
copied_there None bytes h = ap is_some (sym h)
copied_there (Some x) bytes h = ap is_some (sym h)
