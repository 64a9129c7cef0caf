-- Flags, and the registration and the protection of the pages of a range.
use Rattle.std.proofs.Common.{◌≡◌, ◌≢◌, ℕ, ◌+◌, ◌-◌, ◌<◌, ◌≤◌, ◌&&◌, ◌||◌, Bool, true, false, cond, not, eqb, ltb, refl, sym, ap, ◌∙◌, subst, arith, Option, Some, None, is_some, List, [], length, take, get_or, min, max, Bor}
use Rattle.std.proofs.lemmas.Bool.Decides.{nat_tests}
use Rattle.std.proofs.lemmas.Bool.{false≢true, false_from_ne_true, or_from, or_right, and_left, and_right}
use Rattle.std.specs.Option.{option_copied}
use Rattle.std.specs.Ordering.{nat_cmp}
use Rattle.std.specs.FinMap.{FinMap, get, contains_key}
use Rattle.std.specs.FinSet.{FinSet, empty, contains, contains-empty}
use Rattle.mig_base.specs.declared.TheConstants.{HIGH_PAGE}
use Rattle.mig_base.specs.declared.Area.{Area}
use Rattle.mig_base.specs.declared.Prot.{Prot}
use Rattle.mig_base.specs.declared.command.Errno.{Errno}
use Rattle.foundation.specs.Ranges.{in_range}
use Rattle.mig_base.specs.Sets.{without}
use Rattle.mig_base.proofs.SetLemmas.{same_members, member_below}
use Rattle.foundation.proofs.TestLemmas.{or_first, or_second}
use Rattle.area_map.specs.Areas.{AreRuns, pages_in, prot_in}
use Rattle.area_map.proofs.AreaLemmas.{no_area, runs_at}
use Rattle.area_map.proofs.MoveLemmas.{one_more}
use Rattle.area_map.proofs.ViewLemmas.{get-pages_in}
use Rattle.page_table.specs.Views.{Pages}
use Rattle.userfault.proofs.ModeLemmas.{is_pages_where}
use Rattle.mig_model.specs.Host.{IsSound}
use Rattle.foundation.specs.Modes.{Mode}
use Rattle.mig_base.specs.Userfault.{Object, fresh_object, enabled_with, is_registered, has_modes, registered_where, unregistered}
use Rattle.mig_model.specs.Space.{Space, IsSoundSpace}
use Rattle.mig_model.specs.Ioctls.{event_features, mode_of, left_by, is_mapped_in, registered_in, unregistered_in, protected_in}
use Rattle.mig_model.proofs.memory.Registering.{past_none}
use Rattle.uffd_ioctl.specs.Remaps.{AreLow}
use Rattle.uffd_ioctl.specs.Spaces.{machine_space, assembled_object}
use Rattle.uffd_ioctl.proofs.CallLemmas.{protected_below}

-- Flags

pub is_unknown : (set known : Bool) → set ≡ true → known ≡ false → (set && not known) ≡ true
is_unknown set known h k = rw (h, k) refl

pub is_known : (set known : Bool) → known ≡ true → (set && not known) ≡ false
is_known true known h = ap not h
is_known false known h = refl

-- Protected pages, one after the other

-- a page that is present, and one that is missing
pub one_there : (first page q : ℕ) (there old now : Bool) → first ≤ page → now ≡ (in_range first (page - first) q && there || old) → (q ≡ page → there ≡ true) → (eqb q page || now) ≡ (in_range first (page + 1 - first) q && there || old)
one_there first page q there old now low h at = grind (arith, nat_tests)

pub one_gone : (first page q : ℕ) (there old now : Bool) → first ≤ page → now ≡ (in_range first (page - first) q && there || old) → (q ≡ page → there ≡ false) → now ≡ (in_range first (page + 1 - first) q && there || old)
one_gone first page q there old now low h at = grind (arith, nat_tests)

-- a page that is no longer protected unless it is watched
pub unless_watched : (here watched : Bool) → not (here && not watched) ≡ (not here || watched)
unless_watched true true = refl
unless_watched true false = refl
unless_watched false watched = refl

-- a range of which the present pages are protected, or none is
pub present_set : (here protect there old : Bool) → protect ≡ true → (old ≡ true → there ≡ true) → (here && there || old) ≡ cond here (protect && there) old
present_set true protect true old h k = sym (ap (λ b. b && true) h)
present_set true protect false true h k = absurd (false≢true (k refl))
present_set true protect false false h k = sym (ap (λ b. b && false) h)
present_set false protect there old h k = refl

pub all_cleared : (here protect there old : Bool) → protect ≡ false → (old && not here) ≡ cond here (protect && there) old
all_cleared true protect there true h = sym (ap (λ b. b && there) h)
all_cleared true protect there false h = sym (ap (λ b. b && there) h)
all_cleared false protect there true h = refl
all_cleared false protect there false h = refl

copied_some : {T : Type 0} (o : Option (Bor T)) → is_some (option_copied o) ≡ is_some o
copied_some (Some x) = refl
copied_some None = refl

-- whether a page is present, as the table answered
pub is_there : (now old : FinMap nat_cmp (List ℕ)) (page q : ℕ) (held : Option (Bor (List ℕ))) (answer value : Bool) → option_copied held ≡ get now page → now ≡ old → answer ≡ is_some held → answer ≡ value → q ≡ page → contains_key old q ≡ value
is_there now old page q held answer value is same told v at =
    ap (contains_key old) at ∙ ap (λ m. contains_key m page) (sym same) ∙ sym (ap is_some is) ∙ copied_some held ∙ sym told ∙ v

-- Registered pages

not_past : (q bound : ℕ) (b : Bool) → bound ≤ q → (ltb q bound && b) ≡ false
not_past q bound b h = grind (arith, nat_tests)

pub registered_low : (object : Object) (test : ℕ → Bool) (mode : Mode) → AreLow (registered_where object test mode)
registered_low object test mode page past =
    or_from (contains (registered_where object test mode).missing page) (contains (registered_where object test mode).protect page)
    (member_below _ HIGH_PAGE page ∙ not_past page HIGH_PAGE _ past)
    (member_below _ HIGH_PAGE page ∙ not_past page HIGH_PAGE _ past)

pub same_where : (object : Object) (test other : ℕ → Bool) (mode : Mode) → ((q : ℕ) → test q ≡ other q) → registered_where object test mode ≡ registered_where object other mode
same_where object test other mode h = ap (λ t. registered_where object t mode) (λ i q. h q i)

none_asked : (test has value own : Bool) → test ≡ false → cond (test && not has) value own ≡ own
none_asked test has value own h = rw h refl

-- no page passes
pub nothing_where : (object : Object) (test : ℕ → Bool) (mode : Mode) → AreLow object → ((q : ℕ) → test q ≡ false) → object ≡ registered_where object test mode
nothing_where object test mode low none =
    let new = registered_where object test mode in
    let left : (value : Bool) (own : FinSet nat_cmp) (q : ℕ) → cond (test q && not (has_modes object q mode)) value (contains own q) ≡ contains own q = λ value own q. none_asked (test q) (has_modes object q mode) value (contains own q) (none q) in
    let missing : object.missing ≡ new.missing = is_pages_where object.missing _ (λ q. sym (left mode.missing object.missing q)) (λ q past. left mode.missing object.missing q ∙ or_first _ _ (low q past)) in
    let protect : object.protect ≡ new.protect = is_pages_where object.protect _ (λ q. sym (left mode.protect object.protect q)) (λ q past. left mode.protect object.protect q ∙ or_second _ _ (low q past)) in
    λ i. record object { missing = missing i; protect = protect i }

-- whether a page has all modes asked for
abbrev all_asked : Bool → Bool → Bool → Bool → Bool
all_asked m p missing protect = (not m || missing) && (not p || protect)

itself : (b : Bool) → (not b || b) ≡ true
itself true = refl
itself false = refl

has_them : (m p : Bool) → all_asked m p m p ≡ true
has_them m p = rw (itself m, itself p) refl

twice_asked : (m p missing protect u value : Bool) → cond (u && not (all_asked m p m p)) value value ≡ value
twice_asked m p missing protect true value = rw (has_them m p) refl
twice_asked m p missing protect false value = refl

-- a page that is asked for twice
twice_at : (t u m p missing protect value own has : Bool) → has ≡ all_asked m p missing protect → cond (u && not (all_asked m p (cond (t && not has) m missing) (cond (t && not has) p protect))) value (cond (t && not has) value own) ≡ cond ((t || u) && not has) value own
twice_at true u m p missing protect value own false h = twice_asked m p missing protect u value
twice_at true true m p missing protect value own true h = rw (← h) refl
twice_at true false m p missing protect value own true h = refl
twice_at false true m p missing protect value own true h = rw (← h) refl
twice_at false true m p missing protect value own false h = rw (← h) refl
twice_at false false m p missing protect value own has h = refl

twice_below : (low t u m p missing protect value own has : Bool) → has ≡ all_asked m p missing protect
    → (low && cond (u && not (all_asked m p (low && cond (t && not has) m missing) (low && cond (t && not has) p protect))) value (low && cond (t && not has) value own)) ≡ (low && cond ((t || u) && not has) value own)
twice_below true t u m p missing protect value own has h = twice_at t u m p missing protect value own has h
twice_below false t u m p missing protect value own has h = refl

-- registered where one test passes, and then where another does
where_either : (object : Object) (test other : ℕ → Bool) (mode : Mode) → registered_where (registered_where object test mode) other mode ≡ registered_where object (λ page. test page || other page) mode
where_either object test other mode =
    let first = registered_where object test mode in
    let last = registered_where first other mode in
    let both = registered_where object (λ page. test page || other page) mode in
    let missing_at : (q : ℕ) → contains first.missing q ≡ (ltb q HIGH_PAGE && cond (test q && not (has_modes object q mode)) mode.missing (contains object.missing q)) = λ q. member_below _ HIGH_PAGE q in
    let protect_at : (q : ℕ) → contains first.protect q ≡ (ltb q HIGH_PAGE && cond (test q && not (has_modes object q mode)) mode.protect (contains object.protect q)) = λ q. member_below _ HIGH_PAGE q in
    let missing : last.missing ≡ both.missing = same_members last.missing both.missing (λ q.
    member_below _ HIGH_PAGE q
    ∙ (λ i. ltb q HIGH_PAGE && cond (other q && not (all_asked mode.missing mode.protect (missing_at q i) (protect_at q i))) mode.missing (missing_at q i))
    ∙ twice_below (ltb q HIGH_PAGE) (test q) (other q) mode.missing mode.protect (contains object.missing q) (contains object.protect q) mode.missing (contains object.missing q) (has_modes object q mode) refl
    ∙ sym (member_below _ HIGH_PAGE q)) in
    let protect : last.protect ≡ both.protect = same_members last.protect both.protect (λ q.
    member_below _ HIGH_PAGE q
    ∙ (λ i. ltb q HIGH_PAGE && cond (other q && not (all_asked mode.missing mode.protect (missing_at q i) (protect_at q i))) mode.protect (protect_at q i))
    ∙ twice_below (ltb q HIGH_PAGE) (test q) (other q) mode.missing mode.protect (contains object.missing q) (contains object.protect q) mode.protect (contains object.protect q) (has_modes object q mode) refl
    ∙ sym (member_below _ HIGH_PAGE q)) in
    λ i. record object { missing = missing i; protect = protect i }

-- One area after the other

pub in_both : (first count other size start end q : ℕ) → start ≡ max first other → end ≡ min (first + count) (other + size) → in_range start (end - start) q ≡ (in_range first count q && in_range other size q)
in_both first count other size start end q is_start is_end = grind (arith, nat_tests)

pub apart : (first count other size start end q : ℕ) → start ≡ max first other → end ≡ min (first + count) (other + size) → end ≤ start → (in_range first count q && in_range other size q) ≡ false
apart first count other size start end q is_start is_end none = grind (arith, nat_tests)

pub area_bound : (areas : List Area) (i : ℕ) → AreRuns areas → i < length areas → (get_or areas i no_area).first + (get_or areas i no_area).count ≤ HIGH_PAGE
area_bound areas i runs below = (runs_at areas i runs below).0.bound

-- the mapped pages of a range
abbrev pub is_mapped_by : ℕ → ℕ → List Area → ℕ → Bool
is_mapped_by first count areas page = in_range first count page && contains_key (pages_in areas) page

is_some-cond : (b : Bool) (prot : Prot) (o : Option Prot) → is_some (cond b (Some prot) o) ≡ (b || is_some o)
is_some-cond true prot o = refl
is_some-cond false prot o = refl

distributed : (inside here before : Bool) → ((inside && before) || (inside && here)) ≡ (inside && (here || before))
distributed false here before = refl
distributed true true true = refl
distributed true true false = refl
distributed true false true = refl
distributed true false false = refl

mapped_more : (first count : ℕ) (areas : List Area) (i q : ℕ) → AreRuns areas → i < length areas → (is_mapped_by first count (take i areas) q || (in_range first count q && in_range (get_or areas i no_area).first (get_or areas i no_area).count q)) ≡ is_mapped_by first count (take (i + 1) areas) q
mapped_more first count areas i q runs below =
    let area = get_or areas i no_area in
    ap (λ o. (in_range first count q && is_some o) || (in_range first count q && in_range area.first area.count q)) (get-pages_in (take i areas) q)
    ∙ distributed (in_range first count q) (in_range area.first area.count q) (is_some (prot_in (take i areas) q))
    ∙ ap (λ b. in_range first count q && b) (sym (is_some-cond (in_range area.first area.count q) area.prot (prot_in (take i areas) q)))
    ∙ ap (λ o. in_range first count q && is_some o) (one_more areas i q runs below)
    ∙ ap (λ o. in_range first count q && is_some o) (sym (get-pages_in (take (i + 1) areas) q))

when_here : (here one other : Bool) → (here ≡ true → one ≡ other) → (here && one) ≡ (here && other)
when_here true one other h = h refl
when_here false one other h = refl

-- the areas that the range meets have its mapped pages
pub mapped_same : (first count : ℕ) (found : List Area) (areas : FinMap nat_cmp Prot) → ((page : ℕ) → in_range first count page ≡ true → get (pages_in found) page ≡ get areas page) → (q : ℕ) → is_mapped_by first count found q ≡ (in_range first count q && contains_key areas q)
mapped_same first count found areas h q = when_here (in_range first count q) (contains_key (pages_in found) q) (contains_key areas q) (λ e. ap is_some (h q e))

pub mapped_none : (first count : ℕ) (q : ℕ) → is_mapped_by first count [] q ≡ false
unfolding prot_in
mapped_none first count q = ap (λ o. in_range first count q && is_some o) (get-pages_in [] q) ∙ and_right (in_range first count q) false refl

-- one area more
pub registered_more : (object before after : Object) (first count : ℕ) (areas : List Area) (i : ℕ) (mode : Mode) → AreRuns areas → i < length areas → before ≡ registered_where object (is_mapped_by first count (take i areas)) mode
    → after ≡ registered_where before (λ page. in_range first count page && in_range (get_or areas i no_area).first (get_or areas i no_area).count page) mode → after ≡ registered_where object (is_mapped_by first count (take (i + 1) areas)) mode
registered_more object before after first count areas i mode runs below was is =
    let area = get_or areas i no_area in
    is
    ∙ ap (λ o. registered_where o (λ page. in_range first count page && in_range area.first area.count page) mode) was
    ∙ where_either object (is_mapped_by first count (take i areas)) (λ page. in_range first count page && in_range area.first area.count page) mode
    ∙ same_where object (λ page. is_mapped_by first count (take i areas) page || (in_range first count page && in_range area.first area.count page)) (is_mapped_by first count (take (i + 1) areas)) mode (λ q. mapped_more first count areas i q runs below)

-- Spaces changed

-- a call that nothing refuses
pub made_by : (error : Option Errno) (old new made : Space) → error ≡ None → made ≡ new → made ≡ left_by error old new
made_by error old new made none is = is ∙ ap (λ e. left_by e old new) (sym none)

-- a range that is registered no longer
pub opened : (areas : FinMap nat_cmp Prot) (pages new : Pages) (object after : Object) (first count : ℕ) → new.bytes ≡ pages.bytes → new.protected ≡ without pages.protected first count → after ≡ unregistered object first count
    → machine_space areas new after ≡ unregistered_in (machine_space areas pages object) first count
opened areas pages new object after first count bytes is same =
    λ i. record { host = record { areas = areas; bytes = bytes i }; protected = is i; object = same i }

kept_false : (here protect present old : Bool) → present ≡ false → old ≡ false → cond here (protect && present) old ≡ false
kept_false true true present old h k = h
kept_false true false present old h k = refl
kept_false false protect present old h k = k

-- pages protected, or no longer
pub set_in : (areas : FinMap nat_cmp Prot) (pages new : Pages) (object : Object) (first count : ℕ) (protect : Bool) → IsSoundSpace (machine_space areas pages object) → new.bytes ≡ pages.bytes
    → ((q : ℕ) → contains new.protected q ≡ cond (in_range first count q) (protect && contains_key pages.bytes q) (contains pages.protected q)) → machine_space areas new object ≡ protected_in (machine_space areas pages object) first count protect
set_in areas pages new object first count protect sound bytes is =
    let protected : new.protected ≡ (protected_in (machine_space areas pages object) first count protect).protected = is_pages_where new.protected _ is
    (λ q past. kept_false (in_range first count q) protect (contains_key pages.bytes q) (contains pages.protected q) (ap is_some (sound.host.mapped q (sound.host.bound q past))) (protected_below (machine_space areas pages object) sound q past)) in
    λ i. record { host = record { areas = areas; bytes = bytes i }; protected = protected i; object = object }

-- Pages registered in a space

pub sound_low : (space : Space) → IsSoundSpace space → AreLow space.object
sound_low space sound page past = false_from_ne_true (is_registered space.object page) (λ h. false≢true (sym (ap is_some (sound.host.bound page past)) ∙ sound.mapped page h))

is_below : (q bound : ℕ) → (bound ≤ q → ⊥) → ltb q bound ≡ true
is_below q bound h = grind (arith, nat_tests, h)

-- a page that was protected, and so lies in the address space, is mapped and is registered for that
watched_at : (here has asked : Bool) → (not here || (true && cond ((here && true) && not has) asked true)) ≡ (asked || has || not (here && true))
watched_at true true true = refl
watched_at true true false = refl
watched_at true false true = refl
watched_at true false false = refl
watched_at false has asked = sym (or_right (asked || has) true refl)

still_protected : (old here low mapped has asked own : Bool) → (old ≡ true → low ≡ true) → (old ≡ true → mapped ≡ true) → (old ≡ true → own ≡ true) → (old && (not here || (low && cond ((here && mapped) && not has) asked own))) ≡ (old && (asked || has || not (here && mapped)))
still_protected false here low mapped has asked own h k m = refl
still_protected true here low mapped has asked own h k m = rw (h refl, k refl, m refl) (watched_at here has asked)

pub watched_in : (areas : FinMap nat_cmp Prot) (pages new : Pages) (object after : Object) (first count : ℕ) (mode : Mode) → IsSoundSpace (machine_space areas pages object) → new.bytes ≡ pages.bytes
    → after ≡ registered_where object (is_mapped_in (machine_space areas pages object) first count) mode
    → ((q : ℕ) → contains new.protected q ≡ (contains pages.protected q && (not (in_range first count q) || contains after.protect q))) → machine_space areas new after ≡ registered_in (machine_space areas pages object) first count mode
watched_in areas pages new object after first count mode sound bytes is kept =
    let space = machine_space areas pages object in
    let watching = registered_where object (is_mapped_in space first count) mode in
    let same : after ≡ watching = is in
    let mapped : (q : ℕ) → contains pages.protected q ≡ true → contains_key areas q ≡ true = λ q h. sound.mapped q (or_right (contains object.missing q) (contains object.protect q) (sound.watched q h)) in
    let protected : new.protected ≡ (registered_in space first count mode).protected = is_pages_where new.protected _
    (λ q.
    kept q
    ∙ ap (λ o. contains pages.protected q && (not (in_range first count q) || contains o.protect q)) same
    ∙ ap (λ b. contains pages.protected q && (not (in_range first count q) || b)) (member_below _ HIGH_PAGE q)
    ∙ still_protected (contains pages.protected q) (in_range first count q) (ltb q HIGH_PAGE) (contains_key areas q) (has_modes object q mode) mode.protect (contains object.protect q)
    (λ h. is_below q HIGH_PAGE (λ past. false≢true (sym (protected_below space sound q past) ∙ h)))
    (mapped q)
    (sound.watched q))
    (λ q past. and_left (contains pages.protected q) _ (protected_below space sound q past)) in
    λ i. record { host = record { areas = areas; bytes = bytes i }; protected = protected i; object = same i }

-- A space put together

empty_has : (page : ℕ) → contains (empty {R = nat_cmp}) page ≡ false
empty_has page = contains-empty nat_cmp page

fresh_has : (features page : ℕ) → is_registered (enabled_with fresh_object features) page ≡ false
fresh_has features page = or_from (contains (enabled_with fresh_object features).missing page) (contains (enabled_with fresh_object features).protect page) (empty_has page) (empty_has page)

pub enabled_low : (fresh object : Object) (features : ℕ) → fresh ≡ fresh_object → object ≡ enabled_with fresh features → AreLow object
enabled_low fresh object features new is = subst AreLow (sym (is ∙ ap (λ o. enabled_with o features) new)) (λ page past. fresh_has features page)

in_all : (q bound : ℕ) → (bound ≤ q → ⊥) → in_range 0 bound q ≡ true
in_all q bound h = grind (arith, nat_tests, h)

not_zero : (n : ℕ) → n ≢ 0 → eqb n 0 ≡ false
not_zero n h = grind (arith, nat_tests)

-- with a mode all mapped pages are registered
pub assembled_watching : (areas : FinMap nat_cmp Prot) (bytes : FinMap nat_cmp (List ℕ)) (fresh start after : Object) (mode : Mode) (bits : ℕ) → IsSound (record { areas = areas; bytes = bytes }) → bits ≢ 0 → fresh ≡ fresh_object → start ≡ enabled_with fresh event_features → mode ≡ mode_of bits
    → after ≡ registered_where start (λ page. in_range 0 HIGH_PAGE page && contains_key areas page) mode → after ≡ assembled_object areas bits
assembled_watching areas bytes fresh start after mode bits sound some new on asked is =
    let watching = enabled_with fresh_object event_features in
    is
    ∙ (λ i. registered_where (on i) (λ page. in_range 0 HIGH_PAGE page && contains_key areas page) (asked i))
    ∙ (λ i. registered_where (enabled_with (new i) event_features) (λ page. in_range 0 HIGH_PAGE page && contains_key areas page) (mode_of bits))
    ∙ same_where watching (λ page. in_range 0 HIGH_PAGE page && contains_key areas page) (λ page. contains_key areas page) (mode_of bits)
    (λ q. past_none (in_range 0 HIGH_PAGE q) (contains_key areas q) (λ h. in_all q HIGH_PAGE (λ past. false≢true (sym (ap is_some (sound.bound q past)) ∙ h))))
    ∙ sym (ap (λ b. cond b fresh_object (registered_where watching (λ page. contains_key areas page) (mode_of bits))) (not_zero bits some))

pub assembled_fresh : (areas : FinMap nat_cmp Prot) (fresh : Object) (bits : ℕ) → fresh ≡ fresh_object → bits ≡ 0 → fresh ≡ assembled_object areas bits
assembled_fresh areas fresh bits new none = new ∙ ap (assembled_object areas) (sym none)

asked_alone : (low test has value own : Bool) → own ≡ false → (low && cond (test && not has) value own) ≡ true → test ≡ true
asked_alone false test has value own none h = absurd (false≢true h)
asked_alone true true has value own none h = refl
asked_alone true false has value own none h = absurd (false≢true (sym none ∙ h))

one_of : (a b test : Bool) → (a ≡ true → test ≡ true) → (b ≡ true → test ≡ true) → (a || b) ≡ true → test ≡ true
one_of true b test left right h = left refl
one_of false b test left right h = right h

registered_mapped : (areas : FinMap nat_cmp Prot) (none : Bool) (mode : Mode) (page : ℕ) → is_registered (cond none fresh_object (registered_where (enabled_with fresh_object event_features) (λ q. contains_key areas q) mode)) page ≡ true → contains_key areas page ≡ true
registered_mapped areas true mode page h = absurd (false≢true (sym (fresh_has 0 page) ∙ h))
registered_mapped areas false mode page h =
    let start = enabled_with fresh_object event_features in
    let after = registered_where start (λ q. contains_key areas q) mode in
    one_of (contains after.missing page) (contains after.protect page) (contains_key areas page)
    (λ e. asked_alone (ltb page HIGH_PAGE) (contains_key areas page) (has_modes start page mode) mode.missing (contains start.missing page) (empty_has page) (sym (member_below _ HIGH_PAGE page) ∙ e))
    (λ e. asked_alone (ltb page HIGH_PAGE) (contains_key areas page) (has_modes start page mode) mode.protect (contains start.protect page) (empty_has page) (sym (member_below _ HIGH_PAGE page) ∙ e))
    h

pub assembled_sound : (areas : FinMap nat_cmp Prot) (bytes : FinMap nat_cmp (List ℕ)) (bits : ℕ) → IsSound (record { areas = areas; bytes = bytes }) → IsSoundSpace (record { host = record { areas = areas; bytes = bytes }; protected = empty; object = assembled_object areas bits })
assembled_sound areas bytes bits sound = record {
  host = sound;
  mapped = λ page h. registered_mapped areas (eqb bits 0) (mode_of bits) page h;
  present = λ page h. absurd (false≢true (sym (empty_has page) ∙ h));
  watched = λ page h. absurd (false≢true (sym (empty_has page) ∙ h));
}
