-- Areas as the finite map that callers see. `items` is what a call saw, `inside` what the map keeps, `value` what callers see.
use Rattle.std.proofs.Common.{◌≡◌, ℕ, ◌≤◌, cond, refl, arith, Option, Some, None, List, [], ◌∷◌, sym, ap, subst, ◌∙◌, Result, Ok, Err, OnOk}
use Rattle.std.specs.FinMap.{FinMap, get, get-empty}
use Rattle.std.specs.Ordering.{nat_cmp}
use Rattle.mig_base.specs.declared.Prot.{Prot}
use Rattle.mig_base.specs.declared.Area.{Area}
use Rattle.foundation.specs.Ranges.{in_range}
use Rattle.mig_base.specs.Pages.{set_range, remove_range}
use Rattle.mig_base.proofs.PageLemmas.{get-set_range, get-remove_range, same_pages}
use Rattle.mig_base.specs.declared.TheConstants.{HIGH_PAGE}
use Rattle.area_map.specs.Areas.{pages_in, prot_in, AreRuns}
use Rattle.area_map.proofs.AreaLemmas.{prot_in-rest_above}
use Rattle.area_map.specs.declared.edit.Edit.{Edit}
use Rattle.area_map.specs.Edits.{IsEdit, edited}

pub get-pages_in : (areas : List Area) (q : ℕ) → get (pages_in areas) q ≡ prot_in areas q
unfolding pages_in prot_in
get-pages_in [] q = get-empty nat_cmp q
get-pages_in (a ∷ areas) q =
    get-set_range (pages_in areas) a.first a.count a.prot q
    ∙ ap (λ o. cond (in_range a.first a.count q) (Some a.prot) o) (get-pages_in areas q)

pub prot_at_answer : (inside items : List Area) (value : FinMap nat_cmp Prot) (page : ℕ) → items ≡ inside → pages_in inside ≡ value → prot_in items page ≡ get value page
prot_at_answer inside items value page seen view =
    sym (get-pages_in items page) ∙ ap (λ xs. get (pages_in xs) page) seen ∙ ap (λ m. get m page) view

-- the areas and the map say the same of every page
pub same_prots : (inside items : List Area) (value : FinMap nat_cmp Prot) → items ≡ inside → pages_in inside ≡ value → prot_in items ≡ (λ page. get value page)
same_prots inside items value seen view = λ i page. prot_at_answer inside items value page seen view i

-- what a change leaves, page by page
pub put_answer : (inside items new : List Area) (value : FinMap nat_cmp Prot) (edit : Edit) (first count : ℕ) (prot : Option Prot) → IsEdit items edit first count prot → items ≡ inside → pages_in inside ≡ value → new ≡ edited inside edit → (page : ℕ) → get (pages_in new) page ≡ cond (in_range first count page) prot (get value page)
put_answer inside items new value edit first count prot h seen view made page =
    let change = subst (λ xs. IsEdit xs edit first count prot) seen h in
    ap (λ xs. get (pages_in xs) page) made
    ∙ get-pages_in (edited inside edit) page
    ∙ change.pages page
    ∙ ap (λ o. cond (in_range first count page) prot o) (sym (get-pages_in inside page) ∙ ap (λ m. get m page) view)

-- the change that gives the pages a protection
pub set_answer : {E : Type 0} (r : Result (Unit {0}) E) (old new : FinMap nat_cmp Prot) (first count : ℕ) (prot : Prot) → OnOk r ((page : ℕ) → get new page ≡ cond (in_range first count page) (Some prot) (get old page)) → OnOk r (new ≡ set_range old first count prot)
set_answer (Ok u) old new first count prot h = same_pages new (set_range old first count prot) (λ q. h q ∙ sym (get-set_range old first count prot q))
set_answer (Err e) old new first count prot h = h

-- and the one that takes them out
pub remove_answer : {E : Type 0} (r : Result (Unit {0}) E) (old new : FinMap nat_cmp Prot) (first count : ℕ) → OnOk r ((page : ℕ) → get new page ≡ cond (in_range first count page) None (get old page)) → OnOk r (new ≡ remove_range old first count)
remove_answer (Ok u) old new first count h = same_pages new (remove_range old first count) (λ q. h q ∙ sym (get-remove_range old first count q))
remove_answer (Err e) old new first count h = h

none_past : (areas : List Area) (q : ℕ) → AreRuns areas → HIGH_PAGE ≤ q → prot_in areas q ≡ None
unfolding prot_in
none_past [] q runs past = refl
none_past (a ∷ rest) q runs past = let bound = runs.0.bound in prot_in-rest_above a rest q (omega arith) ∙ none_past rest q runs.2 past

-- no page at or past the end is mapped
pub get-past : (inside : List Area) (value : FinMap nat_cmp Prot) (q : ℕ) → AreRuns inside → pages_in inside ≡ value → HIGH_PAGE ≤ q → get value q ≡ None
get-past inside value q runs view past = sym (prot_at_answer inside inside value q refl view) ∙ none_past inside q runs past

-- the areas once a range is taken out, and another has a protection
pub relocated_answer : (inside first new : List Area) (value : FinMap nat_cmp Prot) (from count to new_count : ℕ) (prot : Prot) → pages_in inside ≡ value
    → ((page : ℕ) → prot_in first page ≡ cond (in_range from count page) None (prot_in inside page)) → ((page : ℕ) → prot_in new page ≡ cond (in_range to new_count page) (Some prot) (prot_in first page))
    → pages_in new ≡ set_range (remove_range value from count) to new_count prot
relocated_answer inside first new value from count to new_count prot view one two =
    same_pages (pages_in new) (set_range (remove_range value from count) to new_count prot) (λ q.
    get-pages_in new q
    ∙ two q
    ∙ ap (λ o. cond (in_range to new_count q) (Some prot) o) (one q ∙ ap (λ o. cond (in_range from count q) None o) (prot_at_answer inside inside value q refl view) ∙ sym (get-remove_range value from count q))
    ∙ sym (get-set_range (remove_range value from count) to new_count prot q))
