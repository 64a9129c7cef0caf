-- Pairs of pages and origins: the map that they show, one pair taken out or put in, and ranges of them.
use Rattle.std.proofs.Common.{◌≡◌, ℕ, ◌+◌, ◌-◌, ◌/◌, ◌<◌, ◌≤◌, ◌⊎◌, Bool, true, false, cond, eqb, ltb, refl, sym, ap, ◌∙◌, ⊎_elim, inl, inr, arith, List, length, Option, Some, None, is_some}
use mathlib.Core.Logic.{dite}
use native.Mathlib.Decide.{ℕ_discrete}
use Rattle.std.specs.Ordering.{nat_cmp}
use Rattle.std.specs.Cmp.{nat_cmp_total, unsigned_tied}
use Rattle.std.specs.FinMap.{FinMap, get, empty, insert, remove, contains_key, len, get-empty, get-insert, get-remove, len-insert, len-remove, len-empty, empty_of_len}
use Rattle.std.proofs.lemmas.Bool.Decides.{nat_tests}
use Rattle.std.proofs.lemmas.Bool.{eq-eqb, cases_lt, ne_eqb}
use Rattle.std.proofs.lemmas.Option.{same_Some}
use Rattle.foundation.proofs.RangeLemmas.{in_range-true, count_below-few, in_range-none, in_range_bounds, in_range-out, in_range-one}
use Rattle.mig_base.specs.declared.TheConstants.{HIGH_PAGE}
use Rattle.foundation.specs.Ranges.{in_range, count_below}
use Rattle.mig_base.proofs.PageLemmas.{same_pages, get-map_below, count_below-contains_key}
use Rattle.mig_base.proofs.PlaceLemmas.{place_inside}
use Rattle.owed_pages.specs.Tables.{Place, page_number, moved_number}
use Rattle.owed_pages.specs.Owed.{pairs_of, AreLinks}
use Rattle.owed_pages.proofs.TableLemmas.{past_places, place_of_number}

-- The map that the pairs show

within : (q : ℕ) (o : Option ℕ) → (HIGH_PAGE ≤ q → o ≡ None) → cond (ltb q HIGH_PAGE) o None ≡ o
within q o h = grind (arith, nat_tests)

pub get-pairs_of : (forth : List Place) (q : ℕ) → length forth ≤ 1024 → get (pairs_of forth) q ≡ page_number forth q
unfolding pairs_of
get-pairs_of forth q few = get-map_below (page_number forth) HIGH_PAGE q ∙ within q (page_number forth q) (λ h. past_places forth q (omega arith))

pub pairs_of-is : (forth : List Place) (target : FinMap nat_cmp ℕ) → length forth ≤ 1024 → ((q : ℕ) → page_number forth q ≡ get target q) → pairs_of forth ≡ target
pairs_of-is forth target few h = same_pages (pairs_of forth) target (λ q. get-pairs_of forth q few ∙ h q)

pub none_past : (forth : List Place) (q : ℕ) → length forth ≤ 1024 → HIGH_PAGE ≤ q → page_number forth q ≡ None
none_past forth q few h = past_places forth q (omega arith)

-- a page with a number lies below the end
pub number_below : (places : List Place) (q number : ℕ) → length places ≤ 1024 → page_number places q ≡ Some number → q < HIGH_PAGE
number_below places q number few h =
    let inside : q / 1024 < length places = place_inside places q (place_of_number places q number h) in
    omega arith

-- How many pairs there are

pub few_pairs : (forth : List Place) → length forth ≤ 1024 → len (pairs_of forth) ≤ HIGH_PAGE
few_pairs forth few =
    let counted : count_below (λ q. contains_key (pairs_of forth) q) HIGH_PAGE ≡ len (pairs_of forth) =
    count_below-contains_key HIGH_PAGE (pairs_of forth) (λ q h. get-pairs_of forth q few ∙ none_past forth q few h) in
    let most : count_below (λ q. contains_key (pairs_of forth) q) HIGH_PAGE ≤ HIGH_PAGE = count_below-few (λ q. contains_key (pairs_of forth) q) HIGH_PAGE in
    omega (arith, counted, most)

pub unlinked_map : (old new : List Place) (page : ℕ) → length old ≤ 1024 → length new ≤ 1024 → ((q : ℕ) → page_number new q ≡ cond (eqb q page) None (page_number old q)) → pairs_of new ≡ remove (pairs_of old) page
unlinked_map old new page few still h = pairs_of-is new (remove (pairs_of old) page) still
    (λ q. h q ∙ ap (λ o. cond (eqb q page) None o) (sym (get-pairs_of old q few)) ∙ ap (λ b. cond b None (get (pairs_of old) q)) (sym (unsigned_tied q page)) ∙ sym (get-remove nat_cmp_total (pairs_of old) page q))

pub linked_map : (old new : List Place) (page origin : ℕ) → length old ≤ 1024 → length new ≤ 1024 → ((q : ℕ) → page_number new q ≡ cond (eqb q page) (Some origin) (page_number old q)) → pairs_of new ≡ insert (pairs_of old) page origin
linked_map old new page origin few still h = pairs_of-is new (insert (pairs_of old) page origin) still
    (λ q. h q ∙ ap (λ o. cond (eqb q page) (Some origin) o) (sym (get-pairs_of old q few)) ∙ ap (λ b. cond b (Some origin) (get (pairs_of old) q)) (sym (unsigned_tied q page)) ∙ sym (get-insert nat_cmp_total (pairs_of old) page origin q))

-- Both directions agree

pub none_some : {A : Type 0} (a : ℕ) → None ≡ Some a → A
none_some a h = absurd (impossible a h)
  where
    impossible : (a : ℕ) → None ≡ Some a → ⊥
    impossible a h = cc

-- what each number of one table says of the other
abbrev pub Answers : (ℕ → Option ℕ) → (ℕ → Option ℕ) → Type 0
Answers f g = (p s : ℕ) → f p ≡ Some s → g s ≡ Some p

pub cut_answers : (f g after back : ℕ → Option ℕ) (page origin : ℕ) → ((p : ℕ) → after p ≡ cond (eqb p page) None (f p)) → ((s : ℕ) → back s ≡ cond (eqb s origin) None (g s)) → g origin ≡ Some page → Answers f g → Answers after back
cut_answers f g after back page origin is_after is_back here answers p s h =
    dite (ℕ_discrete p page)
    (λ e. none_some s (sym (is_after p ∙ ap (λ b. cond b None (f p)) (eq-eqb p page e)) ∙ h))
    (λ n. let there : g s ≡ Some p = answers p s (sym (is_after p ∙ ap (λ b. cond b None (f p)) (ne_eqb p page n)) ∙ h) in
    dite (ℕ_discrete s origin)
    (λ e. absurd (n (same_Some p page (sym there ∙ ap g e ∙ here))))
    (λ m. is_back s ∙ ap (λ b. cond b None (g s)) (ne_eqb s origin m) ∙ there))

pub joined_answers : (f g after back : ℕ → Option ℕ) (page origin : ℕ) → ((p : ℕ) → after p ≡ cond (eqb p page) (Some origin) (f p)) → ((s : ℕ) → back s ≡ cond (eqb s origin) (Some page) (g s)) → g origin ≡ None → Answers f g → Answers after back
joined_answers f g after back page origin is_after is_back free answers p s h =
    dite (ℕ_discrete p page)
    (λ e. let same : s ≡ origin = sym (same_Some origin s (sym (is_after p ∙ ap (λ b. cond b (Some origin) (f p)) (eq-eqb p page e)) ∙ h)) in
    is_back s ∙ ap (λ b. cond b (Some page) (g s)) (eq-eqb s origin same) ∙ ap (λ k. Some k) (sym e))
    (λ n. let there : g s ≡ Some p = answers p s (sym (is_after p ∙ ap (λ b. cond b (Some origin) (f p)) (ne_eqb p page n)) ∙ h) in
    dite (ℕ_discrete s origin)
    (λ e. none_some p (sym (ap g e ∙ free) ∙ there))
    (λ m. is_back s ∙ ap (λ b. cond b (Some page) (g s)) (ne_eqb s origin m) ∙ there))

-- no pair
pub no_pairs : (forth back : List Place) → length forth ≤ 0 → length back ≤ 0 → AreLinks forth back 0
no_pairs forth back none none_back = record {
  few = omega arith;
  few_back = omega arith;
  agree = λ p s. (λ h. none_some s (sym (past_places forth p (omega arith)) ∙ h), λ h. none_some p (sym (past_places back s (omega arith)) ∙ h));
  counted = ap len (pairs_of-is forth empty (omega arith) (λ q. past_places forth q (omega arith) ∙ sym (get-empty nat_cmp q))) ∙ len-empty nat_cmp ℕ;
}

has_one : (forth : List Place) (page origin : ℕ) → length forth ≤ 1024 → page_number forth page ≡ Some origin → contains_key (pairs_of forth) page ≡ true
has_one forth page origin few h = ap is_some (get-pairs_of forth page few ∙ h)

has_none : (forth : List Place) (page : ℕ) → length forth ≤ 1024 → page_number forth page ≡ None → contains_key (pairs_of forth) page ≡ false
has_none forth page few h = ap is_some (get-pairs_of forth page few ∙ h)

-- one pair taken out
pub unlinked : (forth back after after_back : List Place) (count page origin : ℕ) → AreLinks forth back count → page_number forth page ≡ Some origin → length after ≡ length forth → length after_back ≡ length back
    → ((q : ℕ) → page_number after q ≡ cond (eqb q page) None (page_number forth q)) → ((s : ℕ) → page_number after_back s ≡ cond (eqb s origin) None (page_number back s))
    → (len (pairs_of after) ≡ len (pairs_of forth) - 1) × AreLinks after after_back (count - 1)
unlinked forth back after after_back count page origin links here size size_back is_after is_back =
    let few = links.few in
    let few_back = links.few_back in
    let still : length after ≤ 1024 = omega arith in
    let still_back : length after_back ≤ 1024 = omega arith in
    let less : len (pairs_of after) ≡ len (pairs_of forth) - 1 = ap len (unlinked_map forth after page few still is_after) ∙ len-remove nat_cmp_total (pairs_of forth) page ∙ ap (λ b. cond b (len (pairs_of forth) - 1) (len (pairs_of forth))) (has_one forth page origin few here) in (
      less,
      record {
        few = still;
        few_back = still_back;
        agree = λ p s. (
          cut_answers (page_number forth) (page_number back) (page_number after) (page_number after_back) page origin is_after is_back ((links.agree page origin).0 here) (λ p s. (links.agree p s).0) p s,
          cut_answers (page_number back) (page_number forth) (page_number after_back) (page_number after) origin page is_back is_after here (λ s p. (links.agree p s).1) s p,
        );
        counted = less ∙ ap (λ n. n - 1) links.counted;
      },
    )

-- one pair put in
pub linked : (forth back after after_back : List Place) (count page origin : ℕ) → AreLinks forth back count → page_number forth page ≡ None → page_number back origin ≡ None → length after ≡ length forth → length after_back ≡ length back
    → ((q : ℕ) → page_number after q ≡ cond (eqb q page) (Some origin) (page_number forth q)) → ((s : ℕ) → page_number after_back s ≡ cond (eqb s origin) (Some page) (page_number back s))
    → AreLinks after after_back (count + 1)
linked forth back after after_back count page origin links free free_back size size_back is_after is_back =
    let few = links.few in
    let few_back = links.few_back in
    let still : length after ≤ 1024 = omega arith in
    let still_back : length after_back ≤ 1024 = omega arith in
    record {
      few = still;
      few_back = still_back;
      agree = λ p s. (
        joined_answers (page_number forth) (page_number back) (page_number after) (page_number after_back) page origin is_after is_back free_back (λ p s. (links.agree p s).0) p s,
        joined_answers (page_number back) (page_number forth) (page_number after_back) (page_number after) origin page is_back is_after free (λ s p. (links.agree p s).1) s p,
      );
      counted = ap len (linked_map forth after page origin few still is_after) ∙ len-insert nat_cmp_total (pairs_of forth) page origin
          ∙ ap (λ b. cond b (len (pairs_of forth)) (len (pairs_of forth) + 1)) (has_none forth page few free) ∙ ap (λ n. n + 1) links.counted;
    }

-- a page that has a pair is counted
pub some_pair : (forth back : List Place) (count page origin : ℕ) → AreLinks forth back count → page_number forth page ≡ Some origin → 1 ≤ count
some_pair forth back count page origin links here =
    ⊎_elim
    (λ (none : count < 1). none_some origin (sym (ap (λ m. get m page) (empty_of_len (pairs_of forth) (links.counted ∙ omega arith)) ∙ get-empty nat_cmp page) ∙ get-pairs_of forth page links.few ∙ here))
    (λ (some : 1 ≤ count). some)
    (cases_lt count 1)

-- the same pairs in other tables
pub same_links : (forth back after after_back : List Place) (count : ℕ) → AreLinks forth back count → length after ≤ 1024 → length after_back ≤ 1024 → ((q : ℕ) → page_number after q ≡ page_number forth q) → ((s : ℕ) → page_number after_back s ≡ page_number back s) → AreLinks after after_back count
same_links forth back after after_back count links few few_back is_after is_back = record {
  few = few;
  few_back = few_back;
  agree = λ p s. (λ h. is_back s ∙ (links.agree p s).0 (sym (is_after p) ∙ h), λ h. is_after p ∙ (links.agree p s).1 (sym (is_back s) ∙ h));
  counted = ap len (pairs_of-is after (pairs_of forth) few (λ q. is_after q ∙ sym (get-pairs_of forth q links.few))) ∙ links.counted;
}

-- a page whose origin is in hand is the only one of that origin
pub own_free : (forth back : List Place) (count page : ℕ) → AreLinks forth back count → ((q : ℕ) → page_number forth q ≡ Some page → q ≡ page) → page_number forth page ≡ None → page_number back page ≡ None
own_free forth back count page links own free =
    by_case (page_number back page) refl
  where
    by_case : (o : Option ℕ) → page_number back page ≡ o → page_number back page ≡ None
    by_case None e = e
    by_case (Some q) e =
        let there : page_number forth q ≡ Some page = (links.agree q page).1 e in
        none_some page (sym (ap (page_number forth) (own q there) ∙ free) ∙ there)

-- Ranges taken out

pub range_none : (first q : ℕ) (x : Option ℕ) → x ≡ cond (in_range first 0 q) None x
range_none first q x = sym (rw (in_range-none first q) refl)

pub range_on : (first page next q : ℕ) (x : Option ℕ) → first ≤ page → page ≤ next → cond (in_range page (next - page) q) None (cond (in_range first (page - first) q) None x) ≡ cond (in_range first (next - first) q) None x
range_on first page next q x a b = grind (arith, nat_tests)

-- pages with no number stay as they are
pub range_skipped : (first count q : ℕ) (f : ℕ → Option ℕ) → ((p : ℕ) → first ≤ p → p < first + count → f p ≡ None) → f q ≡ cond (in_range first count q) None (f q)
range_skipped first count q f none = by_case (in_range first count q) refl
  where
    by_case : (b : Bool) → in_range first count q ≡ b → f q ≡ cond b None (f q)
    by_case true e = let inside = in_range_bounds first count q e in none q inside.0 inside.1
    by_case false e = refl

-- Ranges moved

-- what a move leaves at the pages that it has yet to read and to fill
pub not_read_yet : (f : ℕ → Option ℕ) (from to done count r : ℕ) → (from + count ≤ to) ⊎ (to + count ≤ from) → done ≤ count → from + done ≤ r → r < from + count → moved_number f from to done r ≡ f r
not_read_yet f from to done count r apart few a b =
    let other : in_range to done r ≡ false = in_range-out to done r (⊎_elim (λ (x : from + count ≤ to). inl (omega arith)) (λ (x : to + count ≤ from). inr (omega arith)) apart) in
    let past : in_range from done r ≡ false = in_range-out from done r (inr (omega arith)) in
    rw (other, past) refl

pub not_filled_yet : (f : ℕ → Option ℕ) (from to done count r : ℕ) → (from + count ≤ to) ⊎ (to + count ≤ from) → done ≤ count → to + done ≤ r → r < to + count → moved_number f from to done r ≡ f r
not_filled_yet f from to done count r apart few a b =
    let past : in_range to done r ≡ false = in_range-out to done r (inr (omega arith)) in
    let other : in_range from done r ≡ false = in_range-out from done r (⊎_elim (λ (x : from + count ≤ to). inr (omega arith)) (λ (x : to + count ≤ from). inl (omega arith)) apart) in
    rw (past, other) refl

pub moved_none : (f : ℕ → Option ℕ) (from to q : ℕ) → f q ≡ moved_number f from to 0 q
moved_none f from to q = sym (rw (in_range-none to q, in_range-none from q) refl)

-- one page moved
pub moved_one : (f : ℕ → Option ℕ) (from to q : ℕ) (x : Option ℕ) → x ≡ f from → cond (eqb q to) x (cond (eqb q from) None (f q)) ≡ moved_number f from to 1 q
moved_one f from to q x taken =
    rw (in_range-one to q, in_range-one from q)
    (dite (ℕ_discrete q to)
    (λ e. let at : from ≡ from + (q - to) = omega arith in rw (eq-eqb q to e) (taken ∙ ap f at))
    (λ n. rw (ne_eqb q to n) refl))

-- pages with no number are moved by doing nothing
pub moved_nothing : (f : ℕ → Option ℕ) (from to count q : ℕ) → ((p : ℕ) → from ≤ p → p < from + count → f p ≡ None) → ((p : ℕ) → to ≤ p → p < to + count → f p ≡ None) → f q ≡ moved_number f from to count q
moved_nothing f from to count q none free = by_case (in_range to count q) refl
  where
    by_case : (b : Bool) → in_range to count q ≡ b → f q ≡ cond b (f (from + (q - to))) (cond (in_range from count q) None (f q))
    by_case true e = let bounds = in_range_bounds to count q e in free q bounds.0 bounds.1 ∙ sym (none (from + (q - to)) (omega arith) (omega (arith, bounds)))
    by_case false e = range_skipped from count q f none

-- a move that continues
pub moved_on : (f now : ℕ → Option ℕ) (from to done more count : ℕ) → (from + count ≤ to) ⊎ (to + count ≤ from) → done + more ≤ count → ((q : ℕ) → now q ≡ moved_number f from to done q) → (q : ℕ) → moved_number now (from + done) (to + done) more q ≡ moved_number f from to (done + more) q
moved_on f now from to done more count apart few is q = by_target (in_range (to + done) more q) refl
  where
    by_source : (b : Bool) → in_range (to + done) more q ≡ false → in_range (from + done) more q ≡ b → cond b None (now q) ≡ moved_number f from to (done + more) q
    by_source true out e =
        let bounds = in_range_bounds (from + done) more q e in
        let other : in_range to (done + more) q ≡ false = in_range-out to (done + more) q (⊎_elim (λ (x : from + count ≤ to). inl (omega (arith, bounds))) (λ (x : to + count ≤ from). inr (omega (arith, bounds))) apart) in
        let here : in_range from (done + more) q ≡ true = in_range-true from (done + more) q (omega (arith, bounds)) (omega (arith, bounds)) in
        rw (other, here) refl
    by_source false out e =
        let same_target : in_range to (done + more) q ≡ in_range to done q = grown to out in
        let same_source : in_range from (done + more) q ≡ in_range from done q = grown from e in
        rw (same_target, same_source) (is q)
      where
        grown : (first : ℕ) → in_range (first + done) more q ≡ false → in_range first (done + more) q ≡ in_range first done q
        grown first h = grind (arith, nat_tests)

    by_target : (b : Bool) → in_range (to + done) more q ≡ b → cond b (now (from + done + (q - (to + done)))) (cond (in_range (from + done) more q) None (now q)) ≡ moved_number f from to (done + more) q
    by_target true e =
        let bounds = in_range_bounds (to + done) more q e in
        let at : from + done + (q - (to + done)) ≡ from + (q - to) = omega (arith, bounds) in
        let here : in_range to (done + more) q ≡ true = in_range-true to (done + more) q (omega (arith, bounds)) (omega (arith, bounds)) in
        rw (at, here) (is (from + (q - to)) ∙ not_read_yet f from to done count (from + (q - to)) apart (omega arith) (omega (arith, bounds)) (omega (arith, bounds)))
    by_target false e = by_source (in_range (from + done) more q) e refl

pub none_otherwise : (q page : ℕ) (x : Option ℕ) → x ≡ None → cond (eqb q page) None x ≡ None
none_otherwise q page x h = ap (λ o. cond (eqb q page) None o) h ∙ both (eqb q page)
  where
    both : (b : Bool) → cond {A = Option ℕ} b None None ≡ None
    both true = refl
    both false = refl
