-- Sets of pages once a range was registered or moved, and searches for a registered page.
use Rattle.std.proofs.Common.{◌≡◌, ℕ, ◌+◌, ◌-◌, ◌<◌, ◌≤◌, ◌&&◌, ◌||◌, Bool, true, false, cond, not, ltb, refl, sym, ap, ◌∙◌, ◌⊎◌, ⊎_elim, arith, nat_lt}
use Rattle.std.specs.Ordering.{nat_cmp}
use Rattle.std.specs.FinSet.{FinSet, contains}
use Rattle.std.proofs.lemmas.Bool.Decides.{nat_tests}
use Rattle.std.proofs.lemmas.Bool.{false≢true, or_from}
use Rattle.mig_base.specs.declared.TheConstants.{HIGH_PAGE}
use Rattle.foundation.specs.Ranges.{in_range, none_below}
use Rattle.mig_base.specs.Sets.{pages_where, moved_set, without}
use Rattle.mig_base.proofs.SetLemmas.{same_members, member_below, member_without}
use Rattle.foundation.proofs.RangeLemmas.{none_below-from, none_below-not}
use Rattle.foundation.specs.Modes.{Mode}
use Rattle.mig_base.specs.Userfault.{Object, registered_where}
use Rattle.userfault.specs.Modes.{registered_set, has_asked}

-- A set is the pages that pass a test where it has those, and they lie below the end.

below_end : (q : ℕ) (b : Bool) → (HIGH_PAGE ≤ q → b ≡ false) → b ≡ (ltb q HIGH_PAGE && b)
below_end q b h = grind (arith, nat_tests)

pub is_pages_where : (s : FinSet nat_cmp) (test : ℕ → Bool) → ((q : ℕ) → contains s q ≡ test q) → ((q : ℕ) → HIGH_PAGE ≤ q → test q ≡ false) → s ≡ pages_where test
is_pages_where s test h past = same_members s (pages_where test) (λ q. h q ∙ below_end q (test q) (past q) ∙ sym (member_below test HIGH_PAGE q))

-- A range taken out run by run

pub removed_none : (q first : ℕ) (b missing : Bool) → b ≡ (b && not (in_range first (first - first) q && missing))
removed_none q first b missing = grind (arith, nat_tests)

pub removed_more : (q first at start stop : ℕ) (before has : Bool) → first ≤ at → at ≤ start → start ≤ stop → (at ≤ q → q < start → has ≡ true) → (start ≤ q → q < stop → has ≡ false) → ((before && not (in_range first (at - first) q && not has)) && not (in_range start (stop - start) q)) ≡ (before && not (in_range first (stop - first) q && not has))
removed_more q first at start stop before has a b c between inside = grind (arith, nat_tests)

pub removed_all : (q first count at : ℕ) (before missing : Bool) → first ≤ at → at ≤ first + count → first + count ≤ at → (before && not (in_range first (at - first) q && missing)) ≡ (before && not (in_range first count q && missing))
removed_all q first count at before missing a b c = grind (arith, nat_tests)

-- A range registered

-- this mode is asked for
here_asked : (in_it own other other_asked : Bool) → (in_it || own) ≡ cond (in_it && not (own && (not other_asked || other))) true own
here_asked true true other other_asked = both (not (not other_asked || other))
  where
    both : (b : Bool) → true ≡ cond b true true
    both true = refl
    both false = refl
here_asked true false other other_asked = refl
here_asked false own other other_asked = refl

pub asked_put : (in_it own other asked other_asked : Bool) → asked ≡ true → (in_it || own) ≡ cond (in_it && not ((not asked || own) && (not other_asked || other))) asked own
asked_put in_it own other asked other_asked e = rw e (here_asked in_it own other other_asked)

-- the other mode alone
there_asked : (in_it own other : Bool) → (own && not (in_it && not other)) ≡ cond (in_it && not other) false own
there_asked true true true = refl
there_asked true true false = refl
there_asked true false true = refl
there_asked true false false = refl
there_asked false true other = refl
there_asked false false other = refl

pub other_kept : (in_it own other asked other_asked : Bool) → asked ≡ false → other_asked ≡ true → (own && not (in_it && not other)) ≡ cond (in_it && not ((not asked || own) && (not other_asked || other))) asked own
other_kept in_it own other asked other_asked e f = rw (e, f) (there_asked in_it own other)

-- neither
none_asked : (in_it own : Bool) → own ≡ cond (in_it && false) false own
none_asked true own = refl
none_asked false own = refl

pub all_kept : (in_it own other asked other_asked : Bool) → asked ≡ false → other_asked ≡ false → own ≡ cond (in_it && not ((not asked || own) && (not other_asked || other))) asked own
all_kept in_it own other asked other_asked e f = rw (e, f) (none_asked in_it own)

outside : (q first count : ℕ) (t a own : Bool) → first + count ≤ HIGH_PAGE → HIGH_PAGE ≤ q → own ≡ false → cond (in_range first count q && t) a own ≡ false
outside q first count t a own inside past none = grind (arith, nat_tests)

pub is_registered_set : (own other set : FinSet nat_cmp) (first count : ℕ) (asked other_asked : Bool) → first + count ≤ HIGH_PAGE → ((q : ℕ) → HIGH_PAGE ≤ q → contains own q ≡ false) → ((q : ℕ) → contains set q ≡ cond (in_range first count q && not (has_asked own other asked other_asked q)) asked (contains own q)) → set ≡ registered_set own other first count asked other_asked
is_registered_set own other set first count asked other_asked inside law h =
    is_pages_where set (λ q. cond (in_range first count q && not (has_asked own other asked other_asked q)) asked (contains own q)) h
    (λ q past. outside q first count (not (has_asked own other asked other_asked q)) asked (contains own q) inside past (law q past))

and_swapped : (a b : Bool) → (a && b) ≡ (b && a)
and_swapped true true = refl
and_swapped true false = refl
and_swapped false true = refl
and_swapped false false = refl

-- both sets of an object
pub is_registered_where : (object : Object) (missing protect : FinSet nat_cmp) (first count : ℕ) (mode : Mode) → missing ≡ registered_set object.missing object.protect first count mode.missing mode.protect → protect ≡ registered_set object.protect object.missing first count mode.protect mode.missing → record object { missing = missing; protect = protect } ≡ registered_where object (in_range first count) mode
is_registered_where object missing protect first count mode h k =
    let swapped : registered_set object.protect object.missing first count mode.protect mode.missing ≡ (registered_where object (in_range first count) mode).protect =
    ap pages_where (λ i page. cond (in_range first count page && not (and_swapped (not mode.protect || contains object.protect page) (not mode.missing || contains object.missing page) i)) mode.protect (contains object.protect page)) in
    ap (λ s. record object { missing = s; protect = protect }) h
    ∙ ap (λ s. record object { missing = registered_set object.missing object.protect first count mode.missing mode.protect; protect = s }) (k ∙ swapped)

-- A range moved into one of which all pages are in

-- the pages once those are taken out of the target that the first `done` pages of the range have not
abbrev pub moved_so_far : (ℕ → Bool) → ℕ → ℕ → ℕ → ℕ → ℕ → Bool
moved_so_far test from to count done q = cond (in_range to count q) (not (ltb (q - to) done) || test (from + (q - to))) (test q)

all_in : (here full test : Bool) → (here ≡ true → test ≡ true) → full ≡ true → test ≡ cond here full test
all_in true full test is e = is refl ∙ sym e
all_in false full test is e = refl

none_done : (from n : ℕ) (b : Bool) → (not (ltb n (from - from)) || b) ≡ true
none_done from n b = grind (arith, nat_tests)

pub moved_none : (test : ℕ → Bool) (from to count q : ℕ) → (in_range to count q ≡ true → test q ≡ true) → test q ≡ moved_so_far test from to count (from - from) q
moved_none test from to count q full = all_in (in_range to count q) (not (ltb (q - to) (from - from)) || test (from + (q - to))) (test q) full (none_done from (q - to) (test (from + (q - to))))

-- the range itself is as it was
pub source_stays : (test : ℕ → Bool) (from to count done q : ℕ) → ((from + count ≤ to) ⊎ (to + count ≤ from)) → from ≤ q → q < from + count → moved_so_far test from to count done q ≡ test q
source_stays test from to count done q apart low high =
    let out : in_range to count q ≡ false = grind (arith, nat_tests) in
    ap (λ b. cond b (not (ltb (q - to) done) || test (from + (q - to))) (test q)) out

moved_step : (from to count at start stop q : ℕ) (here there : Bool) → from ≤ at → at ≤ start → start ≤ stop → stop ≤ from + count → (at ≤ from + (q - to) → from + (q - to) < start → here ≡ true) → (start ≤ from + (q - to) → from + (q - to) < stop → here ≡ false)
    → (cond (in_range to count q) (not (ltb (q - to) (at - from)) || here) there && not (in_range (to + (start - from)) (stop - start) q)) ≡ cond (in_range to count q) (not (ltb (q - to) (stop - from)) || here) there
moved_step from to count at start stop q here there a b c d between inside = grind (arith, nat_tests)

pub moved_more : (test : ℕ → Bool) (from to count at start stop q : ℕ) → from ≤ at → at ≤ start → start ≤ stop → stop ≤ from + count → ((p : ℕ) → at ≤ p → p < start → test p ≡ true) → ((p : ℕ) → start ≤ p → p < stop → test p ≡ false)
    → (moved_so_far test from to count (at - from) q && not (in_range (to + (start - from)) (stop - start) q)) ≡ moved_so_far test from to count (stop - from) q
moved_more test from to count at start stop q a b c d between inside =
    moved_step from to count at start stop q (test (from + (q - to))) (test q) a b c d (between (from + (q - to))) (inside (from + (q - to)))

moved_end : (from to count at q : ℕ) (here there : Bool) → at ≡ from + count → ((from + count ≤ to) ⊎ (to + count ≤ from)) → (cond (in_range to count q) (not (ltb (q - to) (at - from)) || here) there && not (in_range from count q)) ≡ cond (in_range to count q) (cond (ltb (q - to) count) here false) (not (in_range from count q) && there)
moved_end from to count at q here there e apart = grind (arith, nat_tests)

not_moved : (from to count q : ℕ) (here there : Bool) → to + count ≤ HIGH_PAGE → HIGH_PAGE ≤ q → there ≡ false → cond (in_range to count q) here (not (in_range from count q) && there) ≡ false
not_moved from to count q here there inside past none = grind (arith, nat_tests)

pub is_moved_set : (old last set : FinSet nat_cmp) (from to count at : ℕ) → to + count ≤ HIGH_PAGE → at ≡ from + count → ((from + count ≤ to) ⊎ (to + count ≤ from)) → ((q : ℕ) → HIGH_PAGE ≤ q → contains old q ≡ false) → ((q : ℕ) → contains last q ≡ moved_so_far (contains old) from to count (at - from) q) → set ≡ without last from count → set ≡ moved_set old from count to count false
is_moved_set old last set from to count at inside e apart law h is =
    is_pages_where set (λ q. cond (in_range to count q) (cond (ltb (q - to) count) (contains old (from + (q - to))) false) (not (in_range from count q) && contains old q))
    (λ q.
    ap (λ s. contains s q) is
    ∙ member_without last from count q
    ∙ ap (λ b. b && not (in_range from count q)) (h q)
    ∙ moved_end from to count at q (contains old (from + (q - to))) (contains old q) e apart)
    (λ q past. not_moved from to count q (cond (ltb (q - to) count) (contains old (from + (q - to))) false) (contains old q) inside past (law q past))

-- The part of a set that lies in a range, run by run

pub part_none : (first q : ℕ) (has : Bool) → false ≡ (in_range first (first - first) q && has)
part_none first q has = grind (arith, nat_tests)

pub part_more : (first at start stop q : ℕ) (has : Bool) → first ≤ at → at ≤ start → start ≤ stop → (at ≤ q → q < start → has ≡ false) → (start ≤ q → q < stop → has ≡ true) → (in_range start (stop - start) q || (in_range first (at - first) q && has)) ≡ (in_range first (stop - first) q && has)
part_more first at start stop q has a b c between inside = grind (arith, nat_tests)

pub part_same : (first at start stop q : ℕ) (has : Bool) → first ≤ at → at ≤ start → stop ≤ start → start ≤ stop → (at ≤ q → q < start → has ≡ false) → (in_range first (at - first) q && has) ≡ (in_range first (stop - first) q && has)
part_same first at start stop q has a b c d between = grind (arith, nat_tests)

pub part_all : (first count at q : ℕ) (has : Bool) → at ≤ first + count → first + count ≤ at → (in_range first (at - first) q && has) ≡ (in_range first count q && has)
part_all first count at q has a b = grind (arith, nat_tests)

-- A search for a registered page

pub is_below : (a b : ℕ) → a < b → nat_lt a b ≡ true
is_below a b h = grind (arith, nat_tests)

pub is_past : (a b : ℕ) → b ≤ a → nat_lt a b ≡ false
is_past a b h = grind (arith, nat_tests)

either : (a b : Bool) → (a ≡ true) ⊎ (b ≡ true) → (a || b) ≡ true
either true b h = refl
either false b h = ⊎_elim (λ (e : false ≡ true). absurd (false≢true e)) (λ (e : b ≡ true). e) h

pub found : (missing protect : ℕ → Bool) (first count page : ℕ) → first ≤ page → page < first + count → (missing page ≡ true) ⊎ (protect page ≡ true) → true ≡ not (none_below (λ i. missing (first + i) || protect (first + i)) count)
found missing protect first count page a b h =
    let at : page ≡ first + (page - first) = omega arith in
    ap not (sym (none_below-not (λ i. missing (first + i) || protect (first + i)) count (page - first) (omega arith)
    (ap (λ k. missing k || protect k) (sym at) ∙ either (missing page) (protect page) h)))

pub not_found : (missing protect : ℕ → Bool) (first count : ℕ) → ((q : ℕ) → first ≤ q → q < first + count → missing q ≡ false) → ((q : ℕ) → first ≤ q → q < first + count → protect q ≡ false) → false ≡ not (none_below (λ i. missing (first + i) || protect (first + i)) count)
not_found missing protect first count h k =
    ap not (sym (none_below-from (λ i. missing (first + i) || protect (first + i)) count (λ i l. or_from (missing (first + i)) (protect (first + i)) (h (first + i) (omega arith) (omega arith)) (k (first + i) (omega arith) (omega arith)))))
