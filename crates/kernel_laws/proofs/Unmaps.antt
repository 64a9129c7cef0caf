-- A map call that unmaps pages: both objects forget them, and both have the same UNMAP to tell if any of them was registered.
use Rattle.std.proofs.lemmas.Bool.Decides.{nat_tests}
use Rattle.std.proofs.lemmas.Bool.{eqb-true, false≢true, not-true, or_from}
use Rattle.std.proofs.lemmas.Grind.{flat_map-append}
use Rattle.std.proofs.lemmas.List.Concat.{flat_map-cons}
use Rattle.std.proofs.lemmas.List.Elements.{filter-append}
use Rattle.std.proofs.lemmas.List.Folds.{list_any-append}
use Rattle.std.proofs.lemmas.List.{append-nil, map-append}
use Rattle.std.proofs.Common.{◌≡◌, ℕ, zero, suc, ◌<◌, ◌≤◌, ◌+◌, ◌-◌, ◌*◌, ◌^◌, ◌&&◌, ◌||◌, Bool, true, false, not, cond, eqb, leb, Option, Some, None, List, [], ◌∷◌, ◌++◌, filter, length, map, arith, refl, sym, ap, subst, ◌∙◌}
use Rattle.std.specs.Prelude.{is_some, max, min}
use Rattle.std.specs.Ordering.{nat_cmp}
use Rattle.std.specs.List.{list_any}
use Rattle.std.specs.FinMap.{FinMap, contains_key, get}
use Rattle.std.specs.FinSet.{contains}
use Rattle.mig_base.specs.declared.Prot.{Prot}
use Rattle.mig_base.specs.declared.message.Message.{Message}
use Rattle.mig_base.specs.declared.message.Message.TheVariants.{Unmap}
use Rattle.foundation.specs.Bits.{is_one}
use Rattle.mig_base.specs.Pages.{remove_range}
use Rattle.foundation.specs.Ranges.{in_range, none_below}
use Rattle.mig_base.specs.Sets.{without}
use Rattle.foundation.specs.Tests.{is_empty}
use Rattle.mig_base.specs.Userfault.{Noted, is_registered, is_watched, unregistered}
use Rattle.mig_base.proofs.PageLemmas.{get-remove_range}
use Rattle.foundation.proofs.RangeLemmas.{in_range_bounds, none_below-not}
use Rattle.foundation.proofs.TestLemmas.{and_first, and_second, eqb-self, or_first, or_second}
use Rattle.mig_model.specs.Space.{IsSoundSpace, Space, all_queued, message_if}
use Rattle.uffd_log.specs.declared.call.Message.{Message as LogMessage}
use Rattle.uffd_log.specs.declared.call.Message.TheVariants as log
use Rattle.kernel_rules.specs.declared.calling.Told.{Told}
use Rattle.kernel_rules.specs.declared.calling.Untold.{Untold}
use Rattle.kernel_rules.specs.declared.known.Page.{Page}
use Rattle.kernel_rules.specs.declared.object.Object.{Object}
use Rattle.kernel_rules.specs.declared.object.Registration.{Registration}
use Rattle.kernel_rules.specs.Ioctls.{is_own, span_of}
use Rattle.kernel_rules.specs.MapCalls.{forgotten, is_told, objects_in, told_in, unmap_told, unmapped, watchers_of, watches_in, with_calling, with_events, with_name, would_tell}
use Rattle.kernel_rules.specs.State.{Kernel, page_is, some_page}
use Rattle.kernel_laws.specs.Agreement.{Agree, AgreesAt, AreUntold, Counterparts, are_once, has_page, is_of_another, message_of, messages_of, removes, telling}
use Rattle.kernel_laws.specs.Logs.{noted_by}
use Rattle.kernel_laws.specs.Maps.{MapCall, is_new_call}
use Rattle.mig_base.proofs.SetSizes.{only_where}
use Rattle.kernel_laws.proofs.Accesses.{asked}
use Rattle.kernel_laws.proofs.EventReads.{same-rest, turned}
use Rattle.kernel_laws.proofs.Events.{any-weaker}
use Rattle.kernel_laws.proofs.Tellings.{AreEvents, are-ranked, by-name, no-events, noted-texts, of-this, own-events, queued-all, ranked, ranked-messages, ranks-after, tellers, texts_of, untold-texts, untold_by, with_messages}
use Rattle.kernel_laws.proofs.Registers.{gone, kept, still-protected, was-registered}

-- A page in a range

some-step : (test : ℕ → Bool) (count : ℕ) (last : Bool) → test count ≡ last → not (none_below test count && not last) ≡ true → (not (none_below test count) ≡ true → (i : ℕ) × (i < count) × (test i ≡ true)) →
    (i : ℕ) × (i < suc count) × (test i ≡ true)
some-step test count true is some rest = (count, omega (arith), is)
some-step test count false is some rest =
    let found = rest (ap not (sym (and_true (none_below test count))) ∙ some) in
    (found.0, omega (arith), found.2)
  where
    and_true : (b : Bool) → (b && true) ≡ b
    and_true b = grind (arith, nat_tests)

pub some-below : (test : ℕ → Bool) (count : ℕ) → not (none_below test count) ≡ true → (i : ℕ) × (i < count) × (test i ≡ true)
unfolding none_below
some-below test zero some = absurd (false≢true some)
some-below test (suc count) some = some-step test count (test count) refl some (some-below test count)

-- a registered page of a range makes it watched
pub is-watched : (space : Space) (first count page : ℕ) → first ≤ page → page < first + count → is_registered space.object page ≡ true → is_watched space.object first count ≡ true
is-watched space first count page low high registered =
    ap not
    (none_below-not (λ i. is_registered space.object (first + i)) count (page - first) (omega (arith, low, high))
    (ap (is_registered space.object) (back first page low) ∙ registered))
  where
    back : (first page : ℕ) → first ≤ page → first + (page - first) ≡ page
    back first page low = omega (arith, low)

-- Whom it tells

-- a page of an object's range in which one is registered with it
own-page : (space : Space) (name page other : ℕ) (found : Option Page) → AgreesAt space name page found → page_is (λ one. eqb one.object other) found ≡ true → (other ≡ name) × (is_registered space.object page ≡ true)
own-page space name page other None agrees is = absurd (false≢true is)
own-page space name page other (Some one) agrees is = (sym (eqb-true one.object other is) ∙ agrees.object, agrees.registered)

watched-page : (space : Space) (kernel : Kernel) (name : ℕ) (object : Object) (first count : ℕ) (range : Registration) → Agree space kernel name object → watches_in kernel object.space first (first + count) range ≡ true →
    (range.object ≡ name) × (is_watched space.object first count ≡ true)
watched-page space kernel name object first count range agree is =
    let low = max range.first first in
    let test = λ (page : Page). eqb page.object range.object in
    let n = min (range.first + range.count) (first + count) - low in
    let found = some-below (λ i. not (not (page_is test (kernel.pages object.space (low + i))))) n (and_second (is_own range.object range) (some_page kernel object.space low n test) is) in
    let page = low + found.0 in
    let within = inside range.first (range.first + range.count) first (first + count) found.0 found.1 in
    let both = own-page space name page range.object (kernel.pages object.space page) (agree.pages page) (sym (twice (page_is test (kernel.pages object.space page))) ∙ found.2) in
    (both.0, is-watched space first count page within.0 within.1 both.1)
  where
    twice : (b : Bool) → not (not b) ≡ b
    twice b = grind (arith, nat_tests)

    inside : (a b first end i : ℕ) → i < min b end - max a first → (first ≤ max a first + i) × (max a first + i < end)
    inside a b first end i h = (omega (arith, h), omega (arith, h))

found-page : (space : Space) (name page other : ℕ) (found : Option Page) → AgreesAt space name page found → other ≡ name → is_registered space.object page ≡ true → page_is (λ one. eqb one.object other) found ≡ true
found-page space name page other None agrees same registered = absurd (false≢true (sym agrees ∙ registered))
found-page space name page other (Some one) agrees same registered = ap (λ n. eqb n other) (agrees.object ∙ sym same) ∙ eqb-self other

pub page-watched : (space : Space) (kernel : Kernel) (name : ℕ) (object : Object) (first count page : ℕ) (range : Registration) → Agree space kernel name object → first ≤ page → page < first + count → is_registered space.object page ≡ true →
    has_page name page range ≡ true → watches_in kernel object.space first (first + count) range ≡ true
page-watched space kernel name object first count page range agree low high registered has =
    let own = and_first (is_own name range) (in_range range.first range.count page) has in
    let bounds = in_range_bounds range.first range.count page (and_second (is_own name range) (in_range range.first range.count page) has) in
    let same : range.object ≡ name = eqb-true range.object name (and_first (eqb range.object name) (leb (range.first + range.count) (2 ^ 52)) own) in
    let start = max range.first first in
    let n = min (range.first + range.count) (first + count) - start in
    let test = λ (one : Page). eqb one.object range.object in
    let here = found-page space name page range.object (kernel.pages object.space page) (agree.pages page) same registered in
    let at = back range.first (range.first + range.count) first (first + count) page bounds.0 bounds.1 low high in
    both (is_own range.object range) (some_page kernel object.space start n test) (ap (λ m. is_own m range) same ∙ own)
    (ap not
    (none_below-not (λ i. not (not (page_is test (kernel.pages object.space (start + i))))) n (page - start) at.0
    (ap (λ p. not (not (page_is test (kernel.pages object.space p)))) at.1 ∙ ap (λ b. not (not b)) here)))
  where
    both : (a b : Bool) → a ≡ true → b ≡ true → (a && b) ≡ true
    both a b ha hb = grind (arith, nat_tests)

    back : (a b first end page : ℕ) → a ≤ page → page < b → first ≤ page → page < end → (page - max a first < min b end - max a first) × (max a first + (page - max a first) ≡ page)
    back a b first end page h i j k = (omega (arith, h, i, j, k), omega (arith, h, i, j, k))

-- no range is watched there
none-watch : (kernel : Kernel) (space first end : ℕ) (names : List ℕ) → ((range : Registration) → watches_in kernel space first end range ≡ false) → (ranges : List Registration) → watchers_of kernel space first end ranges names ≡ names
none-watch kernel space first end names none [] = refl
none-watch kernel space first end names none (range ∷ ranges) =
    ap (λ b. watchers_of kernel space first end ranges (cond b (with_name names range.object) names)) (none range) ∙ none-watch kernel space first end names none ranges

-- each that is watched is the object's
one-name : (name other : ℕ) (b : Bool) → (b ≡ true → other ≡ name) → cond b (with_name (name ∷ []) other) (name ∷ []) ≡ name ∷ []
one-name name other true is = ap (λ n. with_name (name ∷ []) n) (is refl) ∙ ap (λ b. cond (b || false) (name ∷ []) (name ∷ name ∷ [])) (eqb-self name)
one-name name other false is = refl

still-one : (kernel : Kernel) (space first end name : ℕ) → ((range : Registration) → watches_in kernel space first end range ≡ true → range.object ≡ name) → (ranges : List Registration) → watchers_of kernel space first end ranges (name ∷ []) ≡ name ∷ []
still-one kernel space first end name own [] = refl
still-one kernel space first end name own (range ∷ ranges) =
    ap (watchers_of kernel space first end ranges) (one-name name range.object (watches_in kernel space first end range) (own range)) ∙ still-one kernel space first end name own ranges

first-name : (kernel : Kernel) (space first end name other : ℕ) (ranges : List Registration) (b : Bool) → (b ≡ true → other ≡ name) → watchers_of kernel space first end ranges (name ∷ []) ≡ name ∷ [] → (b ≡ false → watchers_of kernel space first end ranges [] ≡ name ∷ []) →
    watchers_of kernel space first end ranges (cond b (with_name [] other) []) ≡ name ∷ []
first-name kernel space first end name other ranges true own rest none = ap (λ n. watchers_of kernel space first end ranges (n ∷ [])) (own refl) ∙ rest
first-name kernel space first end name other ranges false own rest none = none refl

some-watch : (kernel : Kernel) (space first end name : ℕ) → ((range : Registration) → watches_in kernel space first end range ≡ true → range.object ≡ name) → (ranges : List Registration) → list_any (watches_in kernel space first end) ranges ≡ true →
    watchers_of kernel space first end ranges [] ≡ name ∷ []
some-watch kernel space first end name own [] some = absurd (false≢true some)
some-watch kernel space first end name own (range ∷ ranges) some =
    first-name kernel space first end name range.object ranges (watches_in kernel space first end range) (own range) (still-one kernel space first end name own ranges)
    (λ none. some-watch kernel space first end name own ranges (sym (ap (λ b. b || list_any (watches_in kernel space first end) ranges) none) ∙ some))

pub watchers : (one : Counterparts) (first count : ℕ) (w : Bool) → is_watched one.space.object first count ≡ w → objects_in one.kernel one.object.space first (first + count) ≡ cond w (one.name ∷ []) []
watchers one first count false is =
    none-watch one.kernel one.object.space first (first + count) []
    (λ range. only_where (watches_in one.kernel one.object.space first (first + count) range) (is_watched one.space.object first count)
    (λ h. (watched-page one.space one.kernel one.name one.object first count range one.agree h).1) is)
    one.kernel.ranges
watchers one first count true is =
    let found = some-below (λ i. is_registered one.space.object (first + i)) count is in
    let page = first + found.0 in
    let low : first ≤ first + found.0 = omega (arith) in
    let inside = found.1 in
    let high : first + found.0 < first + count = omega (arith, inside) in
    some-watch one.kernel one.object.space first (first + count) one.name
    (λ range h. (watched-page one.space one.kernel one.name one.object first count range one.agree h).0) one.kernel.ranges
    (any-weaker (has_page one.name page) (watches_in one.kernel one.object.space first (first + count))
    (λ range h. page-watched one.space one.kernel one.name one.object first count page range one.agree low high found.2 h) one.kernel.ranges (one.agree.ranged page found.2))

-- the object asked for UNMAP and REMOVE
three-bits : (a b c : Bool) → (a && b && c) ≡ true → (a ≡ true) × (b ≡ true) × (c ≡ true)
three-bits a b c h = (grind (arith, nat_tests), grind (arith, nat_tests), grind (arith, nat_tests))

asked-for : (it : MapCall) (bit : ℕ) → is_one it.one.space.object.features bit ≡ true → is_told it.one.kernel bit it.one.name ≡ true
asked-for it bit is = ap (would_tell bit) it.one.agree.named ∙ asked it.one.space it.one.kernel it.one.name it.one.object bit it.one.agree it.enabled ∙ is

pub tells-remap : (it : MapCall) → is_told it.one.kernel 2 it.one.name ≡ true
tells-remap it = asked-for it 2 (three-bits (is_one it.one.space.object.features 2) (is_one it.one.space.object.features 3) (is_one it.one.space.object.features 6) it.asked).0

tells-remove : (it : MapCall) → is_told it.one.kernel 3 it.one.name ≡ true
tells-remove it = asked-for it 3 (three-bits (is_one it.one.space.object.features 2) (is_one it.one.space.object.features 3) (is_one it.one.space.object.features 6) it.asked).1

tells-unmap : (it : MapCall) → is_told it.one.kernel 6 it.one.name ≡ true
tells-unmap it = asked-for it 6 (three-bits (is_one it.one.space.object.features 2) (is_one it.one.space.object.features 3) (is_one it.one.space.object.features 6) it.asked).2

kept-told : (told : ℕ → Bool) (name : ℕ) (w : Bool) → told name ≡ true → filter told (cond w (name ∷ []) []) ≡ cond w (name ∷ []) []
kept-told told name true is = ap (λ b. cond b (name ∷ []) []) is
kept-told told name false is = refl

pub unmap-tells : (it : MapCall) (first count : ℕ) (w : Bool) → is_watched it.one.space.object first count ≡ w → told_in it.one.kernel 6 it.one.object.space first (first + count) ≡ cond w (it.one.name ∷ []) []
unmap-tells it first count w is = ap (filter (is_told it.one.kernel 6)) (watchers it.one first count w is) ∙ kept-told (is_told it.one.kernel 6) it.one.name w (tells-unmap it)

pub remap-tells : (it : MapCall) (first count : ℕ) (w : Bool) → is_watched it.one.space.object first count ≡ w → told_in it.one.kernel 2 it.one.object.space first (first + count) ≡ cond w (it.one.name ∷ []) []
remap-tells it first count w is = ap (filter (is_told it.one.kernel 2)) (watchers it.one first count w is) ∙ kept-told (is_told it.one.kernel 2) it.one.name w (tells-remap it)

pub remove-tells : (it : MapCall) (first count : ℕ) (w : Bool) → is_watched it.one.space.object first count ≡ w → told_in it.one.kernel 3 it.one.object.space first (first + count) ≡ cond w (it.one.name ∷ []) []
remove-tells it first count w is = ap (filter (is_told it.one.kernel 3)) (watchers it.one first count w is) ∙ kept-told (is_told it.one.kernel 3) it.one.name w (tells-remove it)

-- what a call that unmaps a range tells
pub unmap-first : (it : MapCall) (first count start stop : ℕ) → start ≡ first * 4096 → stop ≡ (first + count) * 4096 →
    unmap_told it.one.kernel it.key it.one.object.space first count ≡ with_messages it.one.kernel it.key it.one.name (message_if (is_watched it.one.space.object first count) (Unmap start stop))
unmap-first it first count start stop low high =
    let w = is_watched it.one.space.object first count in
    (λ i. with_events it.one.kernel it.key (log.Unmap (sym low i) (sym high i)) (unmap-tells it first count w refl i)) ∙ by-name it.one.kernel it.key it.one.name (Unmap start stop) w

-- What is unread

pub filtered-none : {X : Type 0} (p : X → Bool) (xs : List X) → list_any p xs ≡ false → filter p xs ≡ []
filtered-none p [] none = refl
filtered-none p (x ∷ xs) none = ap (λ b. cond b (x ∷ filter p xs) (filter p xs)) (or_first (p x) (list_any p xs) none) ∙ filtered-none p xs (or_second (p x) (list_any p xs) none)

neither : (a b : Bool) → a ≡ false → b ≡ false → (a || (b || false)) ≡ false
neither a b ha hb = grind (arith, nat_tests)

not-and : (a b : Bool) → a ≡ false → b ≡ true → (not a && b) ≡ true
not-and a b ha hb = grind (arith, nat_tests)

pub once-more : (key : ℕ) (calls : List ℕ) → are_once calls ≡ true → list_any (λ other. eqb other key) calls ≡ false → are_once (calls ++ key ∷ []) ≡ true
once-more key [] once new = refl
once-more key (call ∷ calls) once new =
    let twice = list_any (λ other. eqb other call) calls in
    not-and (list_any (λ other. eqb other call) (calls ++ key ∷ [])) (are_once (calls ++ key ∷ []))
    (list_any-append (λ other. eqb other call) calls (key ∷ [])
    ∙ neither twice (eqb key call) (not-true twice (and_first (not twice) (are_once calls) once)) (turned call key (or_first (eqb call key) (list_any (λ other. eqb other key) calls) new)))
    (once-more key calls (and_second (not twice) (are_once calls) once) (or_second (eqb call key) (list_any (λ other. eqb other key) calls) new))

-- the call is new
pub record IsNew (kernel : Kernel) (key : ℕ) : Type 0 where
  pub calls : list_any (λ other. eqb other key) kernel.calls ≡ false
  pub events : list_any (λ (one : Untold). eqb one.key key) kernel.events ≡ false
  pub spans : span_of kernel.untold key ≡ None

no-some : {X : Type 0} (o : Option X) → is_some o ≡ false → o ≡ None
no-some None none = refl
no-some (Some x) none = absurd (false≢true (sym none))

three-not : (a b c : Bool) → (not a && not b && not c) ≡ true → (a ≡ false) × (b ≡ false) × (c ≡ false)
three-not a b c h = (grind (arith, nat_tests), grind (arith, nat_tests), grind (arith, nat_tests))

pub new-call : (kernel : Kernel) (key : ℕ) → is_new_call kernel key ≡ true → IsNew kernel key
new-call kernel key is =
    let parts = three-not (list_any (λ other. eqb other key) kernel.calls) (list_any (λ (one : Untold). eqb one.key key) kernel.events) (is_some (span_of kernel.untold key)) is in
    record { calls = parts.0; events = parts.1; spans = no-some (span_of kernel.untold key) parts.2 }

-- whoever has a message tells the object
pub told-more : (name key other : ℕ) (told : List Told) (b rest : Bool) → eqb key other ≡ b → (b ≡ false → list_any (λ (one : Told). eqb one.key other && eqb one.object name) told ≡ true) →
    (list_any (λ (one : Told). eqb one.key other && eqb one.object name) told || (b && eqb name name || rest)) ≡ true
told-more name key other told true rest is old = ap (λ b. list_any (λ (one : Told). eqb one.key other && eqb one.object name) told || (b || rest)) (eqb-self name) ∙ or_end (list_any (λ (one : Told). eqb one.key other && eqb one.object name) told) where
  or_end : (b : Bool) → (b || true) ≡ true
  or_end b = grind (arith, nat_tests)
told-more name key other told false rest is old = ap (λ b. b || rest) (old refl)

tells-it : (name key other : ℕ) (told : List Told) (messages : List Message) (b : Bool) → eqb key other ≡ b → (b ≡ true → is_empty (texts_of messages) ≡ false) → (b ≡ false → list_any (λ (one : Told). eqb one.key other && eqb one.object name) told ≡ true) →
    list_any (λ (one : Told). eqb one.key other && eqb one.object name) (told ++ tellers key name messages) ≡ true
tells-it name key other told [] true is some old = absurd (false≢true (sym (some refl)))
tells-it name key other told [] false is some old = list_any-append (λ (one : Told). eqb one.key other && eqb one.object name) told [] ∙ ap (λ b. b || false) (old refl)
tells-it name key other told (message ∷ messages) b is some old =
    let test = λ (one : Told). eqb one.key other && eqb one.object name in
    let rest = list_any test (tellers key name messages) in
    list_any-append test told (tellers key name (message ∷ messages)) ∙ ap (λ e. list_any test told || (e && eqb name name || rest)) is ∙ told-more name key other told b rest is old

-- a new call has these messages to tell the object
pub untold-more : (name : ℕ) (kernel : Kernel) (key : ℕ) (messages : List Message) (events more : List Noted) → IsNew kernel key → AreUntold name kernel events → texts_of messages ≡ map (λ (noted : Noted). message_of noted.message) more → AreEvents messages →
    AreUntold name (record (with_messages kernel key name messages) { calls = kernel.calls ++ key ∷ [] }) (events ++ more)
untold-more name kernel key messages events more new are is these =
    let rank = length kernel.told in
    let mine = untold_by key name (ranked rank messages) in
    let now : Kernel = record (with_messages kernel key name messages) { calls = kernel.calls ++ key ∷ [] } in
    let texts = λ (l : List Untold). map (λ (one : Untold). one.message) l in
    let split = λ (other : ℕ). filter-append (λ (one : Untold). eqb one.key other) kernel.events mine in
    let others : (other : ℕ) → eqb key other ≡ false → messages_of now other ≡ messages_of kernel other =
    λ other apart.
    ap (λ l. texts l ++ removes (span_of kernel.untold other))
    (split other ∙ ap (λ l. filter (λ (one : Untold). eqb one.key other) kernel.events ++ l) (filtered-none (λ (one : Untold). eqb one.key other) mine (no-events key name other (ranked rank messages) apart))
    ∙ append-nil (filter (λ (one : Untold). eqb one.key other) kernel.events)) in
    let own : messages_of now key ≡ texts_of messages =
    (λ i. texts (split key i) ++ removes (new.spans i))
    ∙ (λ i. texts (filtered-none (λ (one : Untold). eqb one.key key) kernel.events new.events i ++ own-events key name (ranked rank messages) i) ++ [])
    ∙ append-nil (texts mine) ∙ untold-texts key name rank messages in
    record {
      same = flat_map-append (messages_of now) kernel.calls (key ∷ [])
          ∙ (λ i. same-rest kernel now key kernel.calls new.calls others i ++ (flat_map-cons (messages_of now) key [] ∙ append-nil (messages_of now key) ∙ own ∙ is) i)
          ∙ (λ i. are.same i ++ map (λ (one : Noted). message_of one.message) more)
          ∙ sym (map-append (λ (one : Noted). message_of one.message) events more);
      once = once-more key kernel.calls are.once new.calls;
      ranks = ranks-after key name (ranked rank messages) kernel.events (are-ranked rank messages) are.ranks new.events;
      own = list_any-append (is_of_another name) kernel.events mine
          ∙ or_from (list_any (is_of_another name) kernel.events) (list_any (is_of_another name) mine) are.own (of-this key name (ranked rank messages) (subst AreEvents (sym (ranked-messages rank messages)) these));
      tells = λ other some.
          tells-it name key other kernel.told messages (eqb key other) refl (λ same. ap is_empty (sym own) ∙ ap (λ n. is_empty (messages_of now n)) (eqb-true key other same) ∙ some)
          (λ apart. are.tells other (ap is_empty (sym (others other apart)) ∙ some));
      none_queued = are.none_queued;
    }

-- Both afterwards

-- a space once pages are unmapped or mapped anew, and their UNMAP is queued
abbrev pub unmapped_space : Space → FinMap nat_cmp Prot → (first count start stop cpu : ℕ) → (watched : Bool) → Space
unmapped_space space areas first count start stop cpu watched =
    record {
      host = record { areas = areas; bytes = remove_range space.host.bytes first count };
      protected = without space.protected first count;
      object = all_queued (unregistered space.object first count) (message_if watched (Unmap start stop)) cpu;
    }

pub same-bytes : (bytes : FinMap nat_cmp (List ℕ)) (first count page : ℕ) → in_range first count page ≡ false → contains_key (remove_range bytes first count) page ≡ contains_key bytes page
same-bytes bytes first count page outside = ap is_some (get-remove_range bytes first count page ∙ ap (λ b. cond b None (get bytes page)) outside)

-- a page, once the object is as after the call
page-unmapped : (space new : Space) (first count name page : ℕ) (b : Bool) (found : Option Page) → new.host.bytes ≡ remove_range space.host.bytes first count → new.protected ≡ without space.protected first count →
    new.object.missing ≡ without space.object.missing first count → new.object.protect ≡ without space.object.protect first count → in_range first count page ≡ b → AgreesAt space name page found → AgreesAt new name page (cond b None found)
page-unmapped space new first count name page true found bytes guards missing protect inside agrees = (λ i. contains (missing i) page || contains (protect i) page) ∙ gone space first count page inside
page-unmapped space new first count name page false None bytes guards missing protect inside agrees =
    (λ i. contains (missing i) page || contains (protect i) page) ∙ (λ i. (kept space first count page inside).0 i || (kept space first count page inside).1 i) ∙ agrees
page-unmapped space new first count name page false (Some one) bytes guards missing protect inside agrees =
    let same = kept space first count page inside in
    let modes = ap (λ s. contains s page) missing ∙ same.0 in
    let guarded = ap (λ s. contains s page) protect ∙ same.1 in
    let there = ap (λ m. contains_key m page) bytes ∙ same-bytes space.host.bytes first count page inside in
    record {
      object = agrees.object;
      missing = agrees.missing ∙ sym modes;
      protect = agrees.protect ∙ sym guarded;
      registered = (λ i. modes i || guarded i) ∙ agrees.registered;
      absent = λ h. there ∙ agrees.absent h;
      present = λ h. there ∙ agrees.present h;
      whole = agrees.whole;
      plain = agrees.plain;
      guarded = λ h. agrees.guarded (still-protected space first count page (ap (λ s. contains s page) (sym guards) ∙ h));
    }

unmapped-by : (it : MapCall) (areas : FinMap nat_cmp Prot) (first count start stop cpu : ℕ) (w : Bool) → start ≡ first * 4096 → stop ≡ (first + count) * 4096 → IsSoundSpace (unmapped_space it.one.space areas first count start stop cpu w) →
    Agree (unmapped_space it.one.space areas first count start stop cpu w)
    (forgotten (with_calling (with_events it.one.kernel it.key (log.Unmap (first * 4096) ((first + count) * 4096)) (cond w (it.one.name ∷ []) [])) it.key) it.one.object.space first count) it.one.name it.one.object
unmapped-by it areas first count start stop cpu w low high sound =
    let agree = it.one.agree in
    let at = λ (page : ℕ). ap (λ e. e && in_range first count page) (eqb-self it.one.object.space) in
    let messages = message_if w (Unmap start stop) in
    let told : with_messages it.one.kernel it.key it.one.name messages ≡ with_events it.one.kernel it.key (log.Unmap (first * 4096) ((first + count) * 4096)) (cond w (it.one.name ∷ []) []) =
    sym (by-name it.one.kernel it.key it.one.name (Unmap start stop) w) ∙ (λ i. with_events it.one.kernel it.key (log.Unmap (low i) (high i)) (cond w (it.one.name ∷ []) [])) in
    let object = unregistered it.one.space.object first count in
    let queued = queued-all object messages cpu in
    let new : Space =
    record { host = record { areas = areas; bytes = remove_range it.one.space.host.bytes first count }; protected = without it.one.space.protected first count; object = record object { events = object.events ++ noted_by cpu messages } } in
    let same : new ≡ unmapped_space it.one.space areas first count start stop cpu w = λ i. record new { object = sym queued i } in
    subst (λ s. Agree s (forgotten (with_calling (with_events it.one.kernel it.key (log.Unmap (first * 4096) ((first + count) * 4096)) (cond w (it.one.name ∷ []) [])) it.key) it.one.object.space first count) it.one.name it.one.object) same
    (subst (λ k. Agree new (forgotten (with_calling k it.key) it.one.object.space first count) it.one.name it.one.object) told
    (record {
      sound = subst IsSoundSpace (sym same) sound;
      named = agree.named;
      features = agree.features;
      pages = λ page.
          page-unmapped it.one.space new first count it.one.name page (eqb it.one.object.space it.one.object.space && in_range first count page)
          (it.one.kernel.pages it.one.object.space page) refl refl refl refl (sym (at page)) (agree.pages page);
      unread = agree.unread;
      untold = untold-more it.one.name (telling it.one.kernel) it.key messages it.one.space.object.events (noted_by cpu messages) (new-call (telling it.one.kernel) it.key it.is_new) agree.untold (sym (noted-texts cpu messages)) (event-if w start stop);
      alone = agree.alone;
      ranged = λ page registered. agree.ranged page (was-registered it.one.space first count page registered);
    }))
  where
    event-if : (w : Bool) (start stop : ℕ) → AreEvents (message_if w (Unmap start stop))
    event-if true start stop = (refl, tt)
    event-if false start stop = tt

pub unmapped-agree : (it : MapCall) (areas : FinMap nat_cmp Prot) (first count start stop cpu : ℕ) → start ≡ first * 4096 → stop ≡ (first + count) * 4096 →
    IsSoundSpace (unmapped_space it.one.space areas first count start stop cpu (is_watched it.one.space.object first count)) →
    Agree (unmapped_space it.one.space areas first count start stop cpu (is_watched it.one.space.object first count)) (unmapped it.one.kernel it.key it.one.object.space first count) it.one.name it.one.object
unmapped-agree it areas first count start stop cpu low high sound =
    let w = is_watched it.one.space.object first count in
    subst
    (λ names. Agree (unmapped_space it.one.space areas first count start stop cpu w)
    (forgotten (with_calling (with_events it.one.kernel it.key (log.Unmap (first * 4096) ((first + count) * 4096)) names) it.key) it.one.object.space first count) it.one.name it.one.object)
    (sym (unmap-tells it first count w refl)) (unmapped-by it areas first count start stop cpu w low high sound)
