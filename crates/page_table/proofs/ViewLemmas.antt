-- What a table shows of its places.
use Rattle.std.proofs.Common.{◌≡◌, ℕ, ◌+◌, ◌-◌, ◌/◌, ◌≤◌, ◌&&◌, ◌||◌, Bool, true, false, cond, not, eqb, ltb, refl, sym, ap, ◌∙◌, ⊎_elim, arith, List, length, Option, Some, None, Result, Ok, Err, OnOk, OnErr, is_some, unwrap_or}
use Rattle.std.specs.Ordering.{nat_cmp}
use Rattle.std.specs.Cmp.{nat_cmp_total, unsigned_tied}
use Rattle.std.specs.FinMap as map
use Rattle.std.specs.FinSet as set
use Rattle.std.proofs.lemmas.Bool.Decides.{nat_tests}
use Rattle.std.proofs.lemmas.Bool.{false≢true, eq-eqb, cases_Bool, ne_eqb}
use Rattle.mig_base.specs.declared.TheConstants.{HIGH_PAGE}
use Rattle.foundation.specs.Ranges.{in_range}
use Rattle.mig_base.specs.Pages.{remove_range, map_below}
use Rattle.mig_base.specs.Sets.{without, set_below}
use Rattle.mig_base.proofs.PageLemmas.{same_pages, get-remove_range, get-map_below}
use Rattle.mig_base.proofs.SetLemmas.{same_members, member_inserted, member_removed, member_without, member_below}
use mathlib.Core.Logic.{dite}
use native.Mathlib.Decide.{ℕ_discrete}
use Rattle.std.proofs.Common.{get_or, ◌%◌, ◌*◌}
use Rattle.page_table.specs.Leaves.{Cell, Place, cell_at, cell_in, is_place, has_place, no_cell, moved_cell, stored_cell}
use Rattle.mig_base.specs.Bytes.{overwrite, contents, zero_page}
use Rattle.foundation.proofs.TestLemmas.{none_below_zero, all_below, cond_false, cond_true, and_not}
use Rattle.page_table.specs.Views.{Pages, shown_pages, IsTable}
use Rattle.page_table.proofs.TableLemmas.{past_places, at_place}

all_bytes : (q : ℕ) (o : Option (List ℕ)) → (HIGH_PAGE ≤ q → o ≡ None) → cond (ltb q HIGH_PAGE) o None ≡ o
all_bytes q o h = grind (arith, nat_tests)

-- a page's bytes and flag, from what is shown
pub bytes_shown : (places : List Place) (q : ℕ) → length places ≤ 1024 → map.get (shown_pages places).bytes q ≡ (cell_at places q).0
unfolding shown_pages
bytes_shown places q few = get-map_below (λ p. (cell_at places p).0) HIGH_PAGE q ∙ all_bytes q (cell_at places q).0 (λ h. ap (λ x. x.0) (past_places places q (omega arith)))

pub flag_shown : (places : List Place) (q : ℕ) → length places ≤ 1024 → set.contains (shown_pages places).protected q ≡ (cell_at places q).1
unfolding shown_pages
flag_shown places q few = member_below (λ p. (cell_at places p).1) HIGH_PAGE q ∙ all_below q HIGH_PAGE (cell_at places q).1 (λ h. ap (λ x. x.1) (past_places places q (omega arith)))

pub bytes_seen : (places : List Place) (value : Pages) (q : ℕ) → length places ≤ 1024 → shown_pages places ≡ value → (cell_at places q).0 ≡ map.get value.bytes q
bytes_seen places value q few view = sym (bytes_shown places q few) ∙ ap (λ v. map.get v.bytes q) view

pub flag_seen : (places : List Place) (value : Pages) (q : ℕ) → length places ≤ 1024 → shown_pages places ≡ value → (cell_at places q).1 ≡ set.contains value.protected q
flag_seen places value q few view = sym (flag_shown places q few) ∙ ap (λ v. set.contains v.protected q) view

-- equal cells show equal pages
pub same_cells_shown : (old new : List Place) (value : Pages) → length old ≤ 1024 → length new ≤ 1024 → shown_pages old ≡ value → ((q : ℕ) → cell_at new q ≡ cell_at old q) → shown_pages new ≡ value
unfolding shown_pages
same_cells_shown old new value few still view h =
    (λ k. record { bytes = map_below (λ q. (h q k).0) HIGH_PAGE; protected = set_below (λ q. (h q k).1) HIGH_PAGE }) ∙ view

-- and equal pages are those of equal cells
pub same_cells_seen : (places others : List Place) (value other : Pages) → length places ≤ 1024 → length others ≤ 1024 → shown_pages places ≡ value → shown_pages others ≡ other → value ≡ other → (q : ℕ) → cell_at places q ≡ cell_at others q
same_cells_seen places others value other few also view shows e q = λ k. (bytes k, flag k)
  where
    bytes : (cell_at places q).0 ≡ (cell_at others q).0
    bytes = bytes_seen places value q few view ∙ ap (λ v. map.get v.bytes q) e ∙ sym (bytes_seen others other q also shows)

    flag : (cell_at places q).1 ≡ (cell_at others q).1
    flag = flag_seen places value q few view ∙ ap (λ v. set.contains v.protected q) e ∙ sym (flag_seen others other q also shows)

pub bytes_by : (places : List Place) (target : map.FinMap nat_cmp (List ℕ)) → length places ≤ 1024 → ((q : ℕ) → (cell_at places q).0 ≡ map.get target q) → (shown_pages places).bytes ≡ target
bytes_by places target few h = same_pages (shown_pages places).bytes target (λ q. bytes_shown places q few ∙ h q)

pub flags_by : (places : List Place) (target : set.FinSet nat_cmp) → length places ≤ 1024 → ((q : ℕ) → (cell_at places q).1 ≡ set.contains target q) → (shown_pages places).protected ≡ target
flags_by places target few h = same_members (shown_pages places).protected target (λ q. flag_shown places q few ∙ h q)

cond_bytes : (b : Bool) (x y : Cell) → (cond b x y).0 ≡ cond b x.0 y.0
cond_bytes true x y = refl
cond_bytes false x y = refl

cond_flag : (b : Bool) (x y : Cell) → (cond b x y).1 ≡ cond b x.1 y.1
cond_flag true x y = refl
cond_flag false x y = refl

-- a range made missing
pub dropped_bytes : (old new : List Place) (value : Pages) (first count : ℕ) → length old ≤ 1024 → length new ≤ 1024 → shown_pages old ≡ value → ((q : ℕ) → cell_at new q ≡ cond (in_range first count q) no_cell (cell_at old q)) → (shown_pages new).bytes ≡ remove_range value.bytes first count
dropped_bytes old new value first count few still view h =
    bytes_by new (remove_range value.bytes first count) still
    (λ q. ap (λ x. x.0) (h q) ∙ cond_bytes (in_range first count q) no_cell (cell_at old q) ∙ ap (λ o. cond (in_range first count q) None o) (bytes_seen old value q few view) ∙ sym (get-remove_range value.bytes first count q))

pub dropped_flags : (old new : List Place) (value : Pages) (first count : ℕ) → length old ≤ 1024 → length new ≤ 1024 → shown_pages old ≡ value → ((q : ℕ) → cell_at new q ≡ cond (in_range first count q) no_cell (cell_at old q)) → (shown_pages new).protected ≡ without value.protected first count
dropped_flags old new value first count few still view h =
    flags_by new (without value.protected first count) still
    (λ q. ap (λ x. x.1) (h q) ∙ cond_flag (in_range first count q) no_cell (cell_at old q) ∙ sym (and_not (cell_at old q).1 (in_range first count q)) ∙ ap (λ b. b && not (in_range first count q)) (flag_seen old value q few view) ∙ sym (member_without value.protected first count q))

-- a page put in
pub put_bytes : (old new : List Place) (value : Pages) (page : ℕ) (bytes : List ℕ) (flag : Bool) → length old ≤ 1024 → length new ≤ 1024 → shown_pages old ≡ value → ((q : ℕ) → cell_at new q ≡ cond (eqb q page) (Some bytes, flag) (cell_at old q)) → (shown_pages new).bytes ≡ map.insert value.bytes page bytes
put_bytes old new value page bytes flag few still view h =
    bytes_by new (map.insert value.bytes page bytes) still
    (λ q. ap (λ x. x.0) (h q) ∙ cond_bytes (eqb q page) (Some bytes, flag) (cell_at old q) ∙ ap (λ o. cond (eqb q page) (Some bytes) o) (bytes_seen old value q few view)
    ∙ ap (λ b. cond b (Some bytes) (map.get value.bytes q)) (sym (unsigned_tied q page)) ∙ sym (map.get-insert nat_cmp_total value.bytes page bytes q))

same_flag : (q page : ℕ) (f : ℕ → Bool) (flag : Bool) → f page ≡ flag → cond (eqb q page) flag (f q) ≡ f q
same_flag q page f flag h = dite (ℕ_discrete q page) (λ e. rw (eq-eqb q page e) (sym h ∙ ap f (sym e))) (λ n. rw (ne_eqb q page n) refl)

same_bytes : (q page : ℕ) (f : ℕ → Option (List ℕ)) (o : Option (List ℕ)) → f page ≡ o → cond (eqb q page) o (f q) ≡ f q
same_bytes q page f o h = dite (ℕ_discrete q page) (λ e. rw (eq-eqb q page e) (sym h ∙ ap f (sym e))) (λ n. rw (ne_eqb q page n) refl)

pub put_flags : (old new : List Place) (value : Pages) (page : ℕ) (o : Option (List ℕ)) → length old ≤ 1024 → length new ≤ 1024 → shown_pages old ≡ value → (cell_at old page).1 ≡ false → ((q : ℕ) → cell_at new q ≡ cond (eqb q page) (o, false) (cell_at old q)) → (shown_pages new).protected ≡ value.protected
put_flags old new value page o few still view off h =
    flags_by new value.protected still
    (λ q. ap (λ x. x.1) (h q) ∙ cond_flag (eqb q page) (o, false) (cell_at old q) ∙ same_flag q page (λ p. (cell_at old p).1) false off ∙ flag_seen old value q few view)

-- bytes that were to be written
abbrev pub IsStored : {A E : Type 0} → Result A E → List Place → List Place → ℕ → ℕ → List ℕ → Type 0
IsStored result old new page offset bytes = (q : ℕ) → cell_at new q ≡ cond (eqb q page) (stored_cell result (cell_at old page) offset bytes) (cell_at old q)

-- the same from places with equal cells
pub stored_over : {A E : Type 0} (result : Result A E) (old equal new : List Place) (page offset : ℕ) (bytes : List ℕ) → ((q : ℕ) → cell_at equal q ≡ cell_at old q) → IsStored result equal new page offset bytes → IsStored result old new page offset bytes
stored_over result old equal new page offset bytes same h q =
    h q ∙ ap (λ (cells : ℕ → Cell). cond (eqb q page) (stored_cell result (cells page) offset bytes) (cells q)) (λ k p. same p k)

pub stored_bytes : {A E : Type 0} (result : Result A E) (old new : List Place) (value : Pages) (page offset : ℕ) (bytes : List ℕ) → length old ≤ 1024 → length new ≤ 1024 → shown_pages old ≡ value → IsStored result old new page offset bytes → OnOk result ((shown_pages new).bytes ≡ map.insert value.bytes page (overwrite (contents value.bytes page) offset bytes))
stored_bytes (Ok done) old new value page offset bytes few still view h =
    put_bytes old new value page (overwrite (contents value.bytes page) offset bytes) (cell_at old page).1 few still view
    (λ q. h q ∙ ap (λ o. cond (eqb q page) (Some (overwrite (unwrap_or o zero_page) offset bytes), (cell_at old page).1) (cell_at old q)) (bytes_seen old value page few view))
stored_bytes (Err fault) old new value page offset bytes few still view h = tt

pub stored_flags : {A E : Type 0} (result : Result A E) (old new : List Place) (value : Pages) (page offset : ℕ) (bytes : List ℕ) → length old ≤ 1024 → length new ≤ 1024 → shown_pages old ≡ value → IsStored result old new page offset bytes → (shown_pages new).protected ≡ value.protected
stored_flags result old new value page offset bytes few still view h =
    flags_by new value.protected still
    (λ q. ap (λ x. x.1) (h q) ∙ cond_flag (eqb q page) (stored_cell result (cell_at old page) offset bytes) (cell_at old q) ∙ same_flag q page (λ p. (cell_at old p).1) (cell_at old page).1 refl ∙ flag_seen old value q few view)

same_cell : (q page : ℕ) (f : ℕ → Cell) → cond (eqb q page) (f page) (f q) ≡ f q
same_cell q page f = dite (ℕ_discrete q page) (λ e. rw (eq-eqb q page e) (ap f (sym e))) (λ n. rw (ne_eqb q page n) refl)

pub stored_err : {A E : Type 0} (result : Result A E) (old new : List Place) (value : Pages) (page offset : ℕ) (bytes : List ℕ) → length old ≤ 1024 → length new ≤ 1024 → shown_pages old ≡ value → IsStored result old new page offset bytes → OnErr result (shown_pages new ≡ value)
stored_err (Ok done) old new value page offset bytes few still view h = tt
stored_err (Err fault) old new value page offset bytes few still view h = same_cells_shown old new value few still view (λ q. h q ∙ same_cell q page (cell_at old))

stored_inside : {A E : Type 0} (result : Result A E) (b : Bool) (here cell : Cell) (offset : ℕ) (bytes : List ℕ) → (here.1 ≡ true → is_some here.0 ≡ true) → (cell.1 ≡ true → is_some cell.0 ≡ true) → (cond b (stored_cell result here offset bytes) cell).1 ≡ true → is_some (cond b (stored_cell result here offset bytes) cell).0 ≡ true
stored_inside (Ok done) true here cell offset bytes one other on = refl
stored_inside (Err fault) true here cell offset bytes one other on = one on
stored_inside result false here cell offset bytes one other on = other on

pub stored_table : {A E : Type 0} (result : Result A E) (old new : List Place) (page offset : ℕ) (bytes : List ℕ) → IsTable old → length new ≤ 1024 → IsStored result old new page offset bytes → IsTable new
stored_table result old new page offset bytes table still h = record {
  few = still;
  inside = λ q on.
      ap (λ x. is_some x.0) (h q)
      ∙ stored_inside result (eqb q page) (cell_at old page) (cell_at old q) offset bytes (table.inside page) (table.inside q) (sym (ap (λ x. x.1) (h q)) ∙ on);
}

-- a missing page is not protected
pub not_protected : (places : List Place) (page : ℕ) → IsTable places → is_some (cell_at places page).0 ≡ false → (cell_at places page).1 ≡ false
not_protected places page inv none = ⊎_elim (λ (on : (cell_at places page).1 ≡ true). absurd (false≢true (sym none ∙ inv.inside page on))) (λ (off : (cell_at places page).1 ≡ false). off) (cases_Bool (cell_at places page).1)

-- protection put on or ended
pub flagged_bytes : (old new : List Place) (value : Pages) (page : ℕ) (flag : Bool) → length old ≤ 1024 → length new ≤ 1024 → shown_pages old ≡ value → ((q : ℕ) → cell_at new q ≡ cond (eqb q page) ((cell_at old page).0, flag) (cell_at old q)) → (shown_pages new).bytes ≡ value.bytes
flagged_bytes old new value page flag few still view h =
    bytes_by new value.bytes still
    (λ q. ap (λ x. x.0) (h q) ∙ cond_bytes (eqb q page) ((cell_at old page).0, flag) (cell_at old q) ∙ same_bytes q page (λ p. (cell_at old p).0) (cell_at old page).0 refl ∙ bytes_seen old value q few view)

pub protected_flags : (old new : List Place) (value : Pages) (page : ℕ) → length old ≤ 1024 → length new ≤ 1024 → shown_pages old ≡ value → ((q : ℕ) → cell_at new q ≡ cond (eqb q page) ((cell_at old page).0, true) (cell_at old q)) → (shown_pages new).protected ≡ set.insert value.protected page
protected_flags old new value page few still view h =
    flags_by new (set.insert value.protected page) still
    (λ q. ap (λ x. x.1) (h q) ∙ cond_flag (eqb q page) ((cell_at old page).0, true) (cell_at old q) ∙ cond_true (eqb q page) (cell_at old q).1 ∙ ap (λ b. eqb q page || b) (flag_seen old value q few view) ∙ sym (member_inserted value.protected page q))

pub removed_flags : (old new : List Place) (value : Pages) (page : ℕ) (o : Option (List ℕ)) → length old ≤ 1024 → length new ≤ 1024 → shown_pages old ≡ value → ((q : ℕ) → cell_at new q ≡ cond (eqb q page) (o, false) (cell_at old q)) → (shown_pages new).protected ≡ set.remove value.protected page
removed_flags old new value page o few still view h =
    flags_by new (set.remove value.protected page) still
    (λ q. ap (λ x. x.1) (h q) ∙ cond_flag (eqb q page) (o, false) (cell_at old q) ∙ cond_false (eqb q page) (cell_at old q).1 ∙ ap (λ b. not (eqb q page) && b) (flag_seen old value q few view) ∙ sym (member_removed value.protected page q))

pub unprotected_flags : (old new : List Place) (value : Pages) (page : ℕ) → length old ≤ 1024 → length new ≤ 1024 → shown_pages old ≡ value → ((q : ℕ) → cell_at new q ≡ cond (eqb q page) ((cell_at old page).0, false) (cell_at old q)) → (shown_pages new).protected ≡ set.remove value.protected page
unprotected_flags old new value page few still view h = removed_flags old new value page (cell_at old page).0 few still view h

still_inside : (b flag : Bool) (o : Option (List ℕ)) (x : Cell) → is_some o ≡ true → (x.1 ≡ true → is_some x.0 ≡ true) → (cond b (o, flag) x).1 ≡ true → is_some (cond b (o, flag) x).0 ≡ true
still_inside true flag o x some inside h = some
still_inside false flag o x some inside h = inside h

pub changed_table : (old new : List Place) (page : ℕ) (flag : Bool) (o : Option (List ℕ)) → IsTable old → length new ≡ length old → is_some o ≡ true → ((q : ℕ) → cell_at new q ≡ cond (eqb q page) (o, flag) (cell_at old q)) → IsTable new
changed_table old new page flag o inv size some h = record {
  few = let few = inv.few in omega arith;
  inside = λ q on. ap (λ x. is_some x.0) (h q) ∙ still_inside (eqb q page) flag o (cell_at old q) some (inv.inside q) (sym (ap (λ x. x.1) (h q)) ∙ on);
}

pub flagged_table : (old new : List Place) (page : ℕ) (flag : Bool) → IsTable old → length new ≡ length old → is_some (cell_at old page).0 ≡ true → ((q : ℕ) → cell_at new q ≡ cond (eqb q page) ((cell_at old page).0, flag) (cell_at old q)) → IsTable new
flagged_table old new page flag inv size some h = changed_table old new page flag (cell_at old page).0 inv size some h

place_of : (p : Place) (i : ℕ) → is_some (cell_in p i).0 ≡ true → is_place p ≡ true
place_of None i h = h
place_of (Some leaf) i h = refl

pub place_of_cell : (places : List Place) (q : ℕ) → is_some (cell_at places q).0 ≡ true → has_place places q ≡ true
unfolding cell_at has_place
place_of_cell places q h = place_of (get_or places (q / 1024) None) (q % 1024) h

-- whether a page is present, as callers see it
pub present_seen : (places : List Place) (value : Pages) (q : ℕ) → length places ≤ 1024 → shown_pages places ≡ value → is_some (cell_at places q).0 ≡ map.contains_key value.bytes q
present_seen places value q few view = ap is_some (bytes_seen places value q few view)

-- a range moved
nest_bytes : (a b : Bool) (x y : Cell) → (cond a x (cond b no_cell y)).0 ≡ cond a x.0 (cond b None y.0)
nest_bytes true b x y = refl
nest_bytes false true x y = refl
nest_bytes false false x y = refl

nest_flag : (a b : Bool) (x y : Cell) → (cond a x (cond b no_cell y)).1 ≡ cond a x.1 (cond b false y.1)
nest_flag true b x y = refl
nest_flag false true x y = refl
nest_flag false false x y = refl

pub moved_bytes : (old new : List Place) (value : Pages) (from to count : ℕ) → length old ≤ 1024 → length new ≤ 1024 → shown_pages old ≡ value → ((q : ℕ) → cell_at new q ≡ moved_cell (cell_at old) from to count q) → (q : ℕ) → map.get (shown_pages new).bytes q ≡ cond (in_range to count q) (map.get value.bytes (from + (q - to))) (cond (in_range from count q) None (map.get value.bytes q))
moved_bytes old new value from to count few still view h q =
    bytes_shown new q still ∙ ap (λ x. x.0) (h q) ∙ nest_bytes (in_range to count q) (in_range from count q) (cell_at old (from + (q - to))) (cell_at old q)
    ∙ (λ k. cond (in_range to count q) (bytes_seen old value (from + (q - to)) few view k) (cond (in_range from count q) None (bytes_seen old value q few view k)))

pub moved_flags : (old new : List Place) (value : Pages) (from to count : ℕ) → length old ≤ 1024 → length new ≤ 1024 → shown_pages old ≡ value → ((q : ℕ) → cell_at new q ≡ moved_cell (cell_at old) from to count q) → (q : ℕ) → set.contains (shown_pages new).protected q ≡ cond (in_range to count q) (set.contains value.protected (from + (q - to))) (cond (in_range from count q) false (set.contains value.protected q))
moved_flags old new value from to count few still view h q =
    flag_shown new q still ∙ ap (λ x. x.1) (h q) ∙ nest_flag (in_range to count q) (in_range from count q) (cell_at old (from + (q - to))) (cell_at old q)
    ∙ (λ k. cond (in_range to count q) (flag_seen old value (from + (q - to)) few view k) (cond (in_range from count q) false (flag_seen old value q few view k)))

-- a table with no place
pub none_shown : (places : List Place) → ((q : ℕ) → cell_at places q ≡ no_cell) → length places ≤ 1024 → ((shown_pages places).bytes ≡ map.empty) × ((shown_pages places).protected ≡ set.empty)
none_shown places h few = (
  bytes_by places map.empty few (λ q. ap (λ x. x.0) (h q) ∙ sym (map.get-empty nat_cmp q)),
  flags_by places set.empty few (λ q. ap (λ x. x.1) (h q) ∙ sym (set.contains-empty nat_cmp q)),
)

pub none_table : (places : List Place) → ((q : ℕ) → cell_at places q ≡ no_cell) → length places ≤ 1024 → IsTable places
none_table places h few = record { few = few; inside = λ q on. absurd (false≢true (sym (ap (λ x. x.1) (h q)) ∙ on)) }

-- the present pages, gathered page by page
abbrev pub IsGathered : List Place → set.FinSet nat_cmp → ℕ → Type 0
IsGathered places pages bound = (q : ℕ) → set.contains pages q ≡ (ltb q bound && is_some (cell_at places q).0)

pub gathered_none : (places : List Place) → IsGathered places set.empty 0
gathered_none places q = set.contains-empty nat_cmp q ∙ none_below_zero q (is_some (cell_at places q).0)

gathered_leaf : (q at : ℕ) (b : Bool) → ((ltb q (1024 * at) && b) || (in_range (1024 * at) 1024 q && b)) ≡ (ltb q (1024 * (at + 1)) && b)
gathered_leaf q at b = grind (arith, nat_tests)

in_leaf : (places : List Place) (place : Place) (at q : ℕ) → place ≡ get_or places at None → (in_range (1024 * at) 1024 q && is_some (cell_in place (q % 1024)).0) ≡ (in_range (1024 * at) 1024 q && is_some (cell_at places q).0)
in_leaf places place at q is =
    ⊎_elim
    (λ (here : in_range (1024 * at) 1024 q ≡ true). let own : q / 1024 ≡ at = this_leaf q at here in ap (λ x. in_range (1024 * at) 1024 q && is_some x.0) (ap (λ o. cell_in o (q % 1024)) is ∙ at_place places q at own))
    (λ (other : in_range (1024 * at) 1024 q ≡ false). rw other refl)
    (cases_Bool (in_range (1024 * at) 1024 q))
  where
    this_leaf : (q at : ℕ) → in_range (1024 * at) 1024 q ≡ true → q / 1024 ≡ at
    this_leaf q at h = grind (arith, nat_tests)

pub gathered_more : (places : List Place) (place : Place) (pages new : set.FinSet nat_cmp) (at : ℕ) → place ≡ get_or places at None → IsGathered places pages (1024 * at) → ((q : ℕ) → set.contains new q ≡ (set.contains pages q || (in_range (1024 * at) 1024 q && is_some (cell_in place (q % 1024)).0))) → IsGathered places new (1024 * (at + 1))
gathered_more places place pages new at is old h q =
    h q ∙ ap (λ b. b || (in_range (1024 * at) 1024 q && is_some (cell_in place (q % 1024)).0)) (old q)
    ∙ ap (λ b. (ltb q (1024 * at) && is_some (cell_at places q).0) || b) (in_leaf places place at q is)
    ∙ gathered_leaf q at (is_some (cell_at places q).0)

pub gathered_all : (places : List Place) (pages : set.FinSet nat_cmp) (bound : ℕ) → 1024 * length places ≤ bound → IsGathered places pages bound → (q : ℕ) → set.contains pages q ≡ is_some (cell_at places q).0
gathered_all places pages bound past is q = is q ∙ all_below q bound (is_some (cell_at places q).0) (λ h. ap (λ x. is_some x.0) (past_places places q (omega arith)))

-- equal cells are a table too
pub same_table : (old new : List Place) → IsTable old → length new ≡ length old → ((q : ℕ) → cell_at new q ≡ cell_at old q) → IsTable new
same_table old new inv size h = record {
  few = let few = inv.few in omega arith;
  inside = λ q on. ap (λ x. is_some x.0) (h q) ∙ inv.inside q (sym (ap (λ x. x.1) (h q)) ∙ on);
}
