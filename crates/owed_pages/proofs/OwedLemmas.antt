-- What an owed table shows, in the machine's words.
use Rattle.std.proofs.Common.{◌≡◌, ◌≢◌, ℕ, zero, suc, ◌+◌, ◌-◌, ◌<◌, ◌≤◌, ◌&&◌, ◌||◌, ◌⊎◌, Bool, true, false, cond, eqb, ltb, refl, sym, ap, ◌∙◌, ⊎_elim, inl, inr, arith, List, length, Option, Some, None, is_some, IfSome}
use mathlib.Core.Logic.{dite}
use native.Mathlib.Decide.{ℕ_discrete}
use Rattle.std.specs.Ordering.{nat_cmp}
use Rattle.std.specs.FinMap.{FinMap, get, empty, remove, get-empty, get-remove}
use Rattle.std.specs.FinSet.{FinSet, contains}
use Rattle.std.specs.Cmp.{nat_cmp_total, unsigned_tied}
use Rattle.std.proofs.lemmas.Bool.Decides.{nat_tests}
use Rattle.std.proofs.lemmas.Bool.{eq-eqb, ne_eqb, lt-ltb}
use Rattle.std.proofs.lemmas.Option.{same_Some}
use Rattle.mig_base.specs.declared.TheConstants.{HIGH_PAGE}
use Rattle.foundation.specs.Ranges.{in_range}
use Rattle.mig_base.specs.Pages.{map_below, put, remove_range, moved_range}
use Rattle.mig_base.proofs.PageLemmas.{get-map_below, get-remove_range, get-moved_range}
use Rattle.foundation.proofs.RangeLemmas.{least_below-is, least_below-none, in_range_bounds, in_range-out}
use Rattle.mig_base.proofs.SetLemmas.{same_members, member_below}
use Rattle.foundation.proofs.TestLemmas.{all_below}
use Rattle.owed_pages.specs.Tables.{Place, page_number, moved_number}
use Rattle.owed_pages.specs.Owed.{pairs_of, AreLinks, owes_to, home, origins, own_places}
use Rattle.owed_pages.proofs.LinkLemmas.{get-pairs_of, pairs_of-is, none_past, number_below, none_some}

pub seen : (forth : List Place) (owed : FinMap nat_cmp ℕ) (q : ℕ) → length forth ≤ 1024 → pairs_of forth ≡ owed → page_number forth q ≡ get owed q
seen forth owed q few view = sym (get-pairs_of forth q few) ∙ ap (λ m. get m q) view

pub same_shown : (forth after : List Place) (owed : FinMap nat_cmp ℕ) → length forth ≤ 1024 → length after ≤ 1024 → pairs_of forth ≡ owed → ((q : ℕ) → page_number after q ≡ page_number forth q) → pairs_of after ≡ owed
same_shown forth after owed few still view h = pairs_of-is after owed still (λ q. h q ∙ seen forth owed q few view)

pub none_shown : (forth : List Place) → length forth ≤ 1024 → ((q : ℕ) → page_number forth q ≡ None) → pairs_of forth ≡ empty
none_shown forth few h = pairs_of-is forth empty few (λ q. h q ∙ sym (get-empty nat_cmp q))

pub if_some : (o : Option ℕ) (P : ℕ → Type 0) → ((x : ℕ) → o ≡ Some x → P x) → IfSome o P
if_some None P h = tt
if_some (Some x) P h = h x refl

-- The home of an origin

owes_to-true : (owed : FinMap nat_cmp ℕ) (origin page : ℕ) → get owed page ≡ Some origin → owes_to owed origin page ≡ true
owes_to-true owed origin page h = ap (λ o. elim o [ None ↦ false | Some s ↦ eqb s origin ]) h ∙ eq-eqb origin origin refl

owes_to-false : (owed : FinMap nat_cmp ℕ) (origin page : ℕ) → get owed page ≢ Some origin → owes_to owed origin page ≡ false
owes_to-false owed origin page h = by_case (get owed page) refl
  where
    by_case : (o : Option ℕ) → get owed page ≡ o → elim o [ None ↦ false | Some s ↦ eqb s origin ] ≡ false
    by_case None e = refl
    by_case (Some s) e = ne_eqb s origin (λ same. h (e ∙ ap (λ k. Some k) same))

-- the one page of an origin is its home
pub home-is : (owed : FinMap nat_cmp ℕ) (origin : ℕ) (o : Option ℕ) → ((q : ℕ) → o ≡ Some q → (get owed q ≡ Some origin) × (q < HIGH_PAGE)) → ((q : ℕ) → get owed q ≡ Some origin → o ≡ Some q) → o ≡ home owed origin
home-is owed origin None there only =
    sym (least_below-none (owes_to owed origin) HIGH_PAGE (λ j l. owes_to-false owed origin j (λ h. none_some j (only j h))))
home-is owed origin (Some page) there only =
    sym (least_below-is (owes_to owed origin) HIGH_PAGE page (there page refl).1 (owes_to-true owed origin page (there page refl).0)
    (λ j l. owes_to-false owed origin j (λ h. let same : page ≡ j = same_Some page j (only j h) in absurd (omega arith))))

pub home_of : (forth back : List Place) (count : ℕ) (owed : FinMap nat_cmp ℕ) (origin : ℕ) → AreLinks forth back count → pairs_of forth ≡ owed → page_number back origin ≡ home owed origin
home_of forth back count owed origin links view =
    home-is owed origin (page_number back origin)
    (λ q h. let there : page_number forth q ≡ Some origin = (links.agree q origin).1 h in
    (sym (seen forth owed q links.few view) ∙ there, number_below forth q origin links.few there))
    (λ q h. (links.agree q origin).0 (seen forth owed q links.few view ∙ h))

-- The origins

pub origins_of : (forth back : List Place) (count : ℕ) (owed : FinMap nat_cmp ℕ) (pages : FinSet nat_cmp) → AreLinks forth back count → pairs_of forth ≡ owed → ((s : ℕ) → contains pages s ≡ is_some (page_number back s)) → pages ≡ origins owed
origins_of forth back count owed pages links view is =
    same_members pages (origins owed)
    (λ s. is s
    ∙ sym (all_below s HIGH_PAGE (is_some (page_number back s)) (λ h. ap is_some (none_past back s links.few_back h)))
    ∙ ap (λ o. ltb s HIGH_PAGE && is_some o) (home_of forth back count owed s links view)
    ∙ sym (member_below (λ t. is_some (home owed t)) HIGH_PAGE s))

-- Each page at its own place

abbrev pub own : FinSet nat_cmp → ℕ → Option ℕ
own pages page = cond (contains pages page) (Some page) None

own_places-is : (pages : FinSet nat_cmp) (bound : ℕ) → own_places pages bound ≡ map_below (own pages) bound
unfolding own_places map_below
own_places-is pages zero = refl
own_places-is pages (suc bound) = ap (λ m. put m bound (own pages bound)) (own_places-is pages bound)

-- the pages that pass a test at their own places
abbrev pub AreOwn : List Place → (ℕ → Bool) → Type 0
AreOwn forth test = (q : ℕ) → page_number forth q ≡ cond (test q) (Some q) None

pub own_all : (forth : List Place) (pages : FinSet nat_cmp) (test : ℕ → Bool) → length forth ≤ 1024 → ((q : ℕ) → test q ≡ contains pages q) → AreOwn forth test → pairs_of forth ≡ own_places pages HIGH_PAGE
own_all forth pages test few all is =
    pairs_of-is forth (own_places pages HIGH_PAGE) few
    (λ q. ends q ∙ sym (get-map_below (own pages) HIGH_PAGE q) ∙ ap (λ m. get m q) (sym (own_places-is pages HIGH_PAGE)))
  where
    below_end : (q : ℕ) (o b : Option ℕ) → (HIGH_PAGE ≤ q → o ≡ None) → o ≡ b → o ≡ cond (ltb q HIGH_PAGE) b None
    below_end q o b h e = grind (arith, nat_tests)

    ends : (q : ℕ) → page_number forth q ≡ cond (ltb q HIGH_PAGE) (own pages q) None
    ends q = below_end q (page_number forth q) (own pages q) (none_past forth q few) (is q ∙ ap (λ b. cond b (Some q) None) (all q))

pub own_none : (forth : List Place) (test : ℕ → Bool) → ((q : ℕ) → page_number forth q ≡ None) → ((q : ℕ) → test q ≡ false) → AreOwn forth test
own_none forth test none out q = none q ∙ sym (ap (λ b. cond b (Some q) None) (out q))

pub own_more : (forth after : List Place) (test more : ℕ → Bool) (page : ℕ) → ((q : ℕ) → more q ≡ (eqb q page || test q)) → AreOwn forth test → ((q : ℕ) → page_number after q ≡ cond (eqb q page) (Some page) (page_number forth q)) → AreOwn after more
own_more forth after test more page one is put q =
    put q ∙ own_number ∙ ap (λ o. cond (eqb q page) (Some q) o) (is q) ∙ joined (eqb q page) (test q) ∙ sym (ap (λ b. cond b (Some q) None) (one q))
  where
    own_number : cond (eqb q page) (Some page) (page_number forth q) ≡ cond (eqb q page) (Some q) (page_number forth q)
    own_number = dite (ℕ_discrete q page) (λ e. ap (λ k. cond (eqb q page) (Some k) (page_number forth q)) (sym e)) (λ n. rw (ne_eqb q page n) refl)

    joined : (a b : Bool) → cond a (Some q) (cond b (Some q) None) ≡ cond (a || b) (Some q) None
    joined true b = refl
    joined false b = refl

-- a page that is not reached yet is neither owed nor owes
pub own_only : (forth : List Place) (test : ℕ → Bool) (page : ℕ) → AreOwn forth test → (q : ℕ) → page_number forth q ≡ Some page → q ≡ page
own_only forth test page is q h = own_by (test q) (sym (is q) ∙ h)
  where
    own_by : (b : Bool) → cond b (Some q) None ≡ Some page → q ≡ page
    own_by b h = grind arith

pub own_here : (forth : List Place) (test : ℕ → Bool) (page : ℕ) → test page ≡ false → AreOwn forth test → page_number forth page ≡ None
own_here forth test page out is = is page ∙ ap (λ b. cond b (Some page) None) out

-- Changes

pub removed_shown : (forth after : List Place) (owed : FinMap nat_cmp ℕ) (page : ℕ) → length forth ≤ 1024 → length after ≤ 1024 → pairs_of forth ≡ owed → ((q : ℕ) → page_number after q ≡ cond (eqb q page) None (page_number forth q)) → pairs_of after ≡ remove owed page
removed_shown forth after owed page few still view h =
    pairs_of-is after (remove owed page) still
    (λ q. h q ∙ ap (λ o. cond (eqb q page) None o) (seen forth owed q few view) ∙ ap (λ b. cond b None (get owed q)) (sym (unsigned_tied q page)) ∙ sym (get-remove nat_cmp_total owed page q))

pub range_removed : (forth after : List Place) (owed : FinMap nat_cmp ℕ) (first count : ℕ) → length forth ≤ 1024 → length after ≤ 1024 → pairs_of forth ≡ owed → ((q : ℕ) → page_number after q ≡ cond (in_range first count q) None (page_number forth q)) → pairs_of after ≡ remove_range owed first count
range_removed forth after owed first count few still view h =
    pairs_of-is after (remove_range owed first count) still
    (λ q. h q ∙ ap (λ o. cond (in_range first count q) None o) (seen forth owed q few view) ∙ sym (get-remove_range owed first count q))

moved-by : (f g : ℕ → Option ℕ) (from to count q : ℕ) → (from + count ≤ to) ⊎ (to + count ≤ from) → ((p : ℕ) → f p ≡ cond (in_range to count p) None (g p)) → moved_number f from to count q ≡ cond (in_range to count q) (cond (ltb (q - to) count) (g (from + (q - to))) None) (cond (in_range from count q) None (g q))
moved-by f g from to count q apart is = by_case (in_range to count q) refl
  where
    by_case : (b : Bool) → in_range to count q ≡ b → cond b (f (from + (q - to))) (cond (in_range from count q) None (f q)) ≡ cond b (cond (ltb (q - to) count) (g (from + (q - to))) None) (cond (in_range from count q) None (g q))
    by_case true e =
        let bounds = in_range_bounds to count q e in
        let away : in_range to count (from + (q - to)) ≡ false = in_range-out to count (from + (q - to)) (⊎_elim (λ (x : from + count ≤ to). inl (omega (arith, bounds))) (λ (x : to + count ≤ from). inr (omega (arith, bounds))) apart) in
        is (from + (q - to)) ∙ ap (λ b. cond b None (g (from + (q - to)))) away ∙ sym (ap (λ b. cond b (g (from + (q - to))) None) (lt-ltb (q - to) count (omega (arith, bounds))))
    by_case false e = ap (λ o. cond (in_range from count q) None o) (is q ∙ ap (λ b. cond b None (g q)) e)

pub moved_shown : (forth cleared after : List Place) (owed : FinMap nat_cmp ℕ) (from to count : ℕ) → length forth ≤ 1024 → length after ≤ 1024 → pairs_of forth ≡ owed → (from + count ≤ to) ⊎ (to + count ≤ from)
    → ((q : ℕ) → page_number cleared q ≡ cond (in_range to count q) None (page_number forth q)) → ((q : ℕ) → page_number after q ≡ moved_number (page_number cleared) from to count q) → pairs_of after ≡ moved_range owed from count to count None
moved_shown forth cleared after owed from to count few still view apart is_cleared is_moved =
    pairs_of-is after (moved_range owed from count to count None) still
    (λ q. is_moved q
    ∙ moved-by (page_number cleared) (get owed) from to count q apart (λ p. is_cleared p ∙ ap (λ o. cond (in_range to count p) None o) (seen forth owed p few view))
    ∙ sym (get-moved_range owed from count to count q None))
