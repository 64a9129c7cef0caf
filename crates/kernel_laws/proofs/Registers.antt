-- UFFDIO_API, UFFDIO_REGISTER and UFFDIO_UNREGISTER.
use Rattle.std.proofs.lemmas.Bool.Decides.{nat_tests}
use Rattle.std.proofs.lemmas.Bool.{and_from, false≢true}
use Rattle.std.proofs.lemmas.List.Folds.{list_any-append}
use Rattle.std.specs.List.{list_any}
use Rattle.std.proofs.Common.{◌≡◌, ℕ, zero, suc, ◌+◌, ◌/◌, ◌<◌, ◌^◌, ◌&&◌, ◌||◌, Bool, true, false, not, cond, eqb, ltb, leb, Option, Some, None, List, [], ◌∷◌, ◌++◌, arith, refl, sym, ap, subst, ◌∙◌}
use Rattle.std.specs.FinMap.{contains_key}
use Rattle.std.specs.FinSet.{contains}
use Rattle.mig_base.specs.declared.TheConstants.{HIGH_PAGE}
use Rattle.mig_base.specs.declared.command.Errno.{Errno}
use Rattle.mig_base.specs.declared.wake.Wake.TheVariants.{Range}
use Rattle.foundation.specs.Bits.{is_one}
use Rattle.foundation.specs.Ranges.{in_range, none_below}
use Rattle.foundation.specs.Tests.{first_holding, is_every, same_bool}
use Rattle.foundation.specs.Modes.{Mode}
use Rattle.mig_base.specs.Userfault.{enabled_with, has_modes, is_registered, unregistered}
use Rattle.foundation.proofs.RangeLemmas.{none_below-from, none_below_tells}
use Rattle.mig_base.proofs.SetLemmas.{member_below, member_without}
use Rattle.foundation.proofs.TestLemmas.{eqb-self}
use Rattle.mig_model.specs.Ioctls.{answered_by, handshake_answer, handshaken, has_events, has_unknown, is_bad_mode, is_bad_range, is_bare, is_feature, left_by, mode_of, range_unregistered, register_error, registered, registered_in, unregister_answer, unregistered_in}
use Rattle.mig_model.specs.Space.{IsSoundSpace, Space}
use Rattle.mig_model.proofs.memory.IoctlLemmas.{IsSoundSpace-enabled, IsSoundSpace-range_unregistered, IsSoundSpace-registered, below_high, every_page}
use Rattle.kernel_rules.specs.declared.difference.Difference.TheVariants.{RegisterWithoutEvents}
use Rattle.kernel_rules.specs.declared.known.Page.{Page}
use Rattle.kernel_rules.specs.declared.object.Object.{Object}
use Rattle.kernel_rules.specs.Faults.{sleeps_in, woken}
use Rattle.kernel_rules.specs.Ioctls as rules
use Rattle.kernel_rules.specs.Ioctls.{has_calls, is_mode, is_offer, may_shake, shaken, with_handshake}
use Rattle.kernel_rules.specs.Pages.{is_missing, is_present, is_poisoned, known_as, registered_page, without_object}
use Rattle.kernel_rules.specs.declared.known.Presence.{Presence}
use Rattle.kernel_rules.specs.declared.known.Presence.TheVariants.{Unknown, Missing, Present, Poisoned}
use Rattle.kernel_rules.specs.State.{Kernel, allowed, asked_for, is_enabled, is_range, is_within, noted_if, page_is, some_page, with_object}
use Rattle.kernel_laws.specs.Agreement.{Agree, AgreesAt, AreMapped, AreUnread, IsPage, Takes, answer_of_api, answer_of_register, answer_of_wake, has_page}
use Rattle.kernel_laws.proofs.Calls.{refused}
use Rattle.kernel_laws.proofs.Kernels.{agree-noted, agree-woken, is-enabled, right_range}

-- UFFDIO_API

same_features : is_every (λ i. same_bool (is_feature i) (is_one 0x14d i)) 0 64 ≡ true
unfolding is_one none_below
same_features = refl

same : (a b : Bool) → same_bool a b ≡ true → a ≡ b
same a b h = grind (arith, nat_tests)

offered : (i : ℕ) → i < 64 → is_feature i ≡ is_one 0x14d i
offered i low = same (is_feature i) (is_one 0x14d i) (every_page (λ i. same_bool (is_feature i) (is_one 0x14d i)) 0 64 i same_features (omega (arith)) (omega (arith, low)))

within : (features : ℕ) → has_unknown is_feature features ≡ false → is_within features 0x14d ≡ true
within features none =
    none_below-from _ 64 (λ i low.
    sym (ap (λ known. is_one features i && not known) (offered i low)) ∙ none_below_tells (λ i. is_one features i && not (is_feature i)) 64 i (positive _ none) low)
  where
    positive : (b : Bool) → not b ≡ false → b ≡ true
    positive true h = refl
    positive false h = absurd (false≢true (sym h))

some_feature : (features : ℕ) → has_unknown is_feature features ≡ true → ltb 0 features ≡ true
unfolding is_one none_below
some_feature zero h = absurd (false≢true h)
some_feature (suc features) h = grind (arith, nat_tests)

-- enabling changes no page
page-enabled : (space : Space) (features name page : ℕ) (found : Option Page) → AgreesAt space name page found → AgreesAt (record space { object = enabled_with space.object features }) name page found
page-enabled space features name page None agrees = agrees
page-enabled space features name page (Some one) agrees =
    record { object = agrees.object; missing = agrees.missing; protect = agrees.protect; registered = agrees.registered; absent = agrees.absent; present = agrees.present; whole = agrees.whole; plain = agrees.plain; guarded = agrees.guarded }

agree-shaken : (space : Space) (kernel : Kernel) (name : ℕ) (object : Object) (features : ℕ) → Agree space kernel name object → space.object.faults ≡ [] → IsSoundSpace (record space { object = enabled_with space.object features }) →
    Agree (record space { object = enabled_with space.object features }) (with_object kernel name (record object { features = Some features })) name (record object { features = Some features })
agree-shaken space kernel name object features agree none sound =
    let after : Object = record object { features = Some features } in
    record {
      sound = sound;
      named = ap (λ b. cond b (Some after) (kernel.objects name)) (eqb-self name);
      features = refl;
      unread = subst (AreUnread kernel.faults name after) (sym none) (record { on_their_way = tt; none_queued = agree.unread.none_queued });
      pages = λ page. page-enabled space features name page (kernel.pages object.space page) (agree.pages page);
      untold = agree.untold;
      alone = agree.alone;
      ranged = agree.ranged;
    }

may_fail : (e a f : Bool) → (e ≡ true) → (e || a || f) ≡ true
may_fail e a f h = grind (arith, nat_tests)

may_fail_api : (e a f : Bool) → (a ≡ true) → (e || a || f) ≡ true
may_fail_api e a f h = grind (arith, nat_tests)

may_fail_feature : (e a f : Bool) → (f ≡ true) → (e || a || f) ≡ true
may_fail_feature e a f h = grind (arith, nat_tests)

may_shake_now : (e a w o : Bool) → e ≡ false → a ≡ true → w ≡ true → o ≡ true → ((not e && a && w) && o) ≡ true
may_shake_now e a w o he ha hw ho = grind (arith, nat_tests)

shakes : (space : Space) (kernel : Kernel) (name : ℕ) (object : Object) (api features ioctls : ℕ) (a u e : Bool) → Agree space kernel name object → is_offer 0x14d ioctls ≡ true → eqb api 0xaa ≡ not a → has_unknown is_feature features ≡ u → is_enabled object ≡ e →
    (space.object.enabled ≡ false → space.object.faults ≡ []) → IsSoundSpace (record space { object = enabled_with space.object features }) →
    let errors : List (Bool × Errno) = (a, Errno.Einval) ∷ (u, Errno.Einval) ∷ (e, Errno.Einval) ∷ [] in
    Takes (shaken kernel name object api features (answer_of_api ioctls (answered_by (first_holding errors) 0x14d))) (left_by (first_holding errors) space (record space { object = enabled_with space.object features })) name
shakes space kernel name object api features ioctls true u e agree offer ha hu he none sound =
    refused space kernel name object _ agree (may_fail_api (is_enabled object) (not (eqb api 0xaa)) (ltb 0 features) (ap not ha))
shakes space kernel name object api features ioctls false true e agree offer ha hu he none sound =
    refused space kernel name object _ agree (may_fail_feature (is_enabled object) (not (eqb api 0xaa)) (ltb 0 features) (some_feature features hu))
shakes space kernel name object api features ioctls false false true agree offer ha hu he none sound =
    refused space kernel name object _ agree (may_fail (is_enabled object) (not (eqb api 0xaa)) (ltb 0 features) he)
shakes space kernel name object api features ioctls false false false agree offer ha hu he none sound =
    let new = with_handshake kernel name object features in
    record {
      kernel = new;
      object = record object { features = Some features };
      taken = ap (λ b. allowed b new) (may_shake_now (is_enabled object) (eqb api 0xaa) (is_within features 0x14d) (is_offer 0x14d ioctls) he ha (within features hu) offer);
      agree = agree-noted _ _ (record space { object = enabled_with space.object features }) _ name (record object { features = Some features }) (agree-shaken space kernel name object features agree (none (sym (is-enabled agree) ∙ he)) sound);
    }

twice_not : (b : Bool) → b ≡ not (not b)
twice_not true = refl
twice_not false = refl

pub api-taken : (space : Space) (kernel : Kernel) (name : ℕ) (object : Object) (api features ioctls : ℕ) → Agree space kernel name object → is_offer 0x14d ioctls ≡ true → (space.object.enabled ≡ false → space.object.faults ≡ []) →
    Takes (shaken kernel name object api features (answer_of_api ioctls (handshake_answer space api features))) (handshaken space api features) name
api-taken space kernel name object api features ioctls agree offer none =
    shakes space kernel name object api features ioctls (not (eqb api 0xaa)) (has_unknown is_feature features) space.object.enabled agree offer (twice_not (eqb api 0xaa)) refl (is-enabled agree) none (IsSoundSpace-enabled space features agree.sound)

-- UFFDIO_UNREGISTER

pub gone : (space : Space) (first count page : ℕ) → in_range first count page ≡ true → is_registered (unregistered space.object first count) page ≡ false
gone space first count page inside = grind (arith, nat_tests, member_without)

pub kept : (space : Space) (first count page : ℕ) → in_range first count page ≡ false →
    (contains (unregistered space.object first count).missing page ≡ contains space.object.missing page) × (contains (unregistered space.object first count).protect page ≡ contains space.object.protect page)
kept space first count page outside = (grind (arith, nat_tests, member_without), grind (arith, nat_tests, member_without))

pub still-protected : (space : Space) (first count page : ℕ) → contains (unregistered_in space first count).protected page ≡ true → contains space.protected page ≡ true
still-protected space first count page guarded = grind (arith, nat_tests, member_without)

page-unregistered : (space : Space) (first count name page : ℕ) (b : Bool) (found : Option Page) → in_range first count page ≡ b → AgreesAt space name page found → AgreesAt (unregistered_in space first count) name page (cond b (without_object name found) found)
page-unregistered space first count name page true None is agrees = gone space first count page is
page-unregistered space first count name page false None is agrees = (λ i. (kept space first count page is).0 i || (kept space first count page is).1 i) ∙ agrees
page-unregistered space first count name page true (Some one) is agrees =
    subst (AgreesAt (unregistered_in space first count) name page) (sym (ap (λ b. cond b None (Some one)) (ap (λ n. eqb n name) agrees.object ∙ eqb-self name))) (gone space first count page is)
page-unregistered space first count name page false (Some one) is agrees =
    let same = kept space first count page is in
    record {
      object = agrees.object;
      missing = agrees.missing ∙ sym same.0;
      protect = agrees.protect ∙ sym same.1;
      registered = (λ i. same.0 i || same.1 i) ∙ agrees.registered;
      absent = agrees.absent;
      present = agrees.present;
      whole = agrees.whole;
      plain = agrees.plain;
      guarded = λ guarded. agrees.guarded (still-protected space first count page guarded);
    }

pub was-registered : (space : Space) (first count page : ℕ) → is_registered (unregistered space.object first count) page ≡ true → is_registered space.object page ≡ true
was-registered space first count page h = grind (arith, nat_tests, member_without)

agree-unregistered : (space : Space) (kernel : Kernel) (name : ℕ) (object : Object) (first count : ℕ) → Agree space kernel name object → IsSoundSpace (unregistered_in space first count) → Agree (unregistered_in space first count) (rules.unregistered_in kernel name object first count) name object
agree-unregistered space kernel name object first count agree sound =
    record {
      sound = sound;
      named = agree.named;
      features = agree.features;
      unread = agree.unread;
      pages = λ page.
          page-unregistered space first count name page (eqb object.space object.space && in_range first count page) (kernel.pages object.space page)
          (sym (ap (λ e. e && in_range first count page) (eqb-self object.space))) (agree.pages page);
      untold = agree.untold;
      alone = agree.alone;
      ranged = λ page h. agree.ranged page (was-registered space first count page h);
    }

unregisters : (space : Space) (kernel : Kernel) (name : ℕ) (object : Object) (start len : ℕ) (e w b : Bool) → Agree space kernel name object → is_enabled object ≡ e → is_bad_range start len ≡ w →
    let errors : List (Bool × Errno) = (not e, Errno.Einval) ∷ (w, Errno.Einval) ∷ (b, Errno.Einval) ∷ [] in
    IsSoundSpace (left_by (first_holding errors) space (unregistered_in space (start / 4096) (len / 4096))) →
    Takes (rules.unregistered kernel name object start len (answer_of_wake (answered_by (first_holding errors) (Range start len)))) (left_by (first_holding errors) space (unregistered_in space (start / 4096) (len / 4096))) name
unregisters space kernel name object start len false w b agree he hw sound = refused space kernel name object true agree refl
unregisters space kernel name object start len true true b agree he hw sound = refused space kernel name object true agree refl
unregisters space kernel name object start len true false true agree he hw sound = refused space kernel name object true agree refl
unregisters space kernel name object start len true false false agree he hw sound =
    let first = start / 4096 in
    let count = len / 4096 in
    let test = sleeps_in name first count in
    let new = woken (rules.unregistered_in kernel name object first count) test false in
    record {
      kernel = new;
      object = object;
      taken = λ i. allowed (he i && right_range start len hw i) new;
      agree = agree-woken first count false (unregistered_in space first count) (rules.unregistered_in kernel name object first count) name object (agree-unregistered space kernel name object first count agree sound);
    }

pub unregister-taken : (space : Space) (kernel : Kernel) (name : ℕ) (object : Object) (start len : ℕ) → Agree space kernel name object →
    Takes (rules.unregistered kernel name object start len (answer_of_wake (unregister_answer space start len))) (range_unregistered space start len) name
unregister-taken space kernel name object start len agree =
    unregisters space kernel name object start len space.object.enabled (is_bad_range start len) (is_bare space (start / 4096) (len / 4096)) agree (is-enabled agree) refl (IsSoundSpace-range_unregistered space start len agree.sound)

-- UFFDIO_REGISTER

-- the modes of a page that is registered, once a range that has it is
modes-of : (space : Space) (first count page : ℕ) (mode : Mode) → in_range first count page ≡ true → contains_key space.host.areas page ≡ true → ltb page HIGH_PAGE ≡ true →
    (contains (registered_in space first count mode).object.missing page ≡ cond (has_modes space.object page mode) (contains space.object.missing page) mode.missing)
    × (contains (registered_in space first count mode).object.protect page ≡ cond (has_modes space.object page mode) (contains space.object.protect page) mode.protect)
modes-of space first count page mode inside mapped low = (grind (arith, nat_tests, member_below), grind (arith, nat_tests, member_below))

modes-left : (space : Space) (first count page : ℕ) (mode : Mode) → IsSoundSpace space → in_range first count page ≡ false →
    (contains (registered_in space first count mode).object.missing page ≡ contains space.object.missing page) × (contains (registered_in space first count mode).object.protect page ≡ contains space.object.protect page)
modes-left space first count page mode sound outside = (grind (arith, nat_tests, member_below, sound.mapped page, below_high space page sound), grind (arith, nat_tests, member_below, sound.mapped page, below_high space page sound))

guarded-left : (space : Space) (first count page : ℕ) (mode : Mode) → contains (registered_in space first count mode).protected page ≡ true → contains space.protected page ≡ true
guarded-left space first count page mode guarded = grind (arith, nat_tests, member_below)

guarded-mode : (space : Space) (first count page : ℕ) (mode : Mode) → in_range first count page ≡ true → contains_key space.host.areas page ≡ true → has_modes space.object page mode ≡ false → contains (registered_in space first count mode).protected page ≡ true → mode.protect ≡ true
guarded-mode space first count page mode inside mapped not_all guarded = grind (arith, nat_tests, member_below)

some-mode : (m p : Bool) → (m || p) ≡ true → (a b : Bool) → (a || b) ≡ false → ((not m || a) && (not p || b)) ≡ false
some-mode m p some a b none = grind (arith, nat_tests)

missing-known : (missing : Bool) (presence : Presence) → is_missing (known_as missing presence) ≡ true → is_missing presence ≡ true
missing-known missing Unknown h = h
missing-known missing Missing h = refl
missing-known missing Present h = h
missing-known missing Poisoned h = h

present-known : (missing : Bool) (presence : Presence) → is_present (known_as missing presence) ≡ true → is_present presence ≡ true
present-known missing Unknown h = h
present-known true Missing h = h
present-known false Missing h = h
present-known missing Present h = refl
present-known missing Poisoned h = h

whole-known : (missing : Bool) (presence : Presence) → is_poisoned presence ≡ false → is_poisoned (known_as missing presence) ≡ false
whole-known missing Unknown h = refl
whole-known true Missing h = refl
whole-known false Missing h = refl
whole-known missing Present h = refl
whole-known missing Poisoned h = h

-- a page that the object had registered: it keeps its modes if it has all, or else has those
page-again : (space : Space) (first count name page : ℕ) (mode : Mode) (all : Bool) (one : Page) → IsSoundSpace space → (mode.missing || mode.protect) ≡ true → in_range first count page ≡ true → contains_key space.host.areas page ≡ true → IsPage space name page one →
    has_modes space.object page mode ≡ all → IsPage (registered_in space first count mode) name page (cond all one (record one { missing = mode.missing; protect = mode.protect; minor = false; presence = known_as mode.missing one.presence; guarded = one.guarded && mode.protect }))
page-again space first count name page mode true one sound some inside mapped agrees all =
    let modes = modes-of space first count page mode inside mapped (below_high space page sound mapped) in
    let missing = modes.0 ∙ ap (λ b. cond b (contains space.object.missing page) mode.missing) all in
    let protect = modes.1 ∙ ap (λ b. cond b (contains space.object.protect page) mode.protect) all in
    record {
      object = agrees.object;
      missing = agrees.missing ∙ sym missing;
      protect = agrees.protect ∙ sym protect;
      registered = (λ i. missing i || protect i) ∙ agrees.registered;
      absent = agrees.absent;
      present = agrees.present;
      whole = agrees.whole;
      plain = agrees.plain;
      guarded = λ guarded. agrees.guarded (guarded-left space first count page mode guarded);
    }
page-again space first count name page mode false one sound some inside mapped agrees all =
    let modes = modes-of space first count page mode inside mapped (below_high space page sound mapped) in
    let missing = modes.0 ∙ ap (λ b. cond b (contains space.object.missing page) mode.missing) all in
    let protect = modes.1 ∙ ap (λ b. cond b (contains space.object.protect page) mode.protect) all in
    record {
      object = agrees.object;
      missing = sym missing;
      protect = sym protect;
      registered = (λ i. missing i || protect i) ∙ some;
      absent = λ missing. agrees.absent (missing-known mode.missing one.presence missing);
      present = λ there. agrees.present (present-known mode.missing one.presence there);
      whole = whole-known mode.missing one.presence agrees.whole;
      plain = refl;
      guarded = λ guarded. and_from one.guarded mode.protect (agrees.guarded (guarded-left space first count page mode guarded)) (guarded-mode space first count page mode inside mapped all guarded);
    }

page-registered : (space : Space) (first count name page : ℕ) (mode : Mode) (b : Bool) (found : Option Page) → IsSoundSpace space → (mode.missing || mode.protect) ≡ true → in_range first count page ≡ b → (b ≡ true → contains_key space.host.areas page ≡ true) →
    AgreesAt space name page found → AgreesAt (registered_in space first count mode) name page (cond b (registered_page name mode false found) found)
page-registered space first count name page mode false None sound some is mapped agrees =
    let same = modes-left space first count page mode sound is in
    (λ i. same.0 i || same.1 i) ∙ agrees
page-registered space first count name page mode false (Some one) sound some is mapped agrees =
    let same = modes-left space first count page mode sound is in
    record {
      object = agrees.object;
      missing = agrees.missing ∙ sym same.0;
      protect = agrees.protect ∙ sym same.1;
      registered = (λ i. same.0 i || same.1 i) ∙ agrees.registered;
      absent = agrees.absent;
      present = agrees.present;
      whole = agrees.whole;
      plain = agrees.plain;
      guarded = λ guarded. agrees.guarded (guarded-left space first count page mode guarded);
    }
page-registered space first count name page mode true None sound some is mapped agrees =
    let modes = modes-of space first count page mode is (mapped refl) (below_high space page sound (mapped refl)) in
    let none = some-mode mode.missing mode.protect some (contains space.object.missing page) (contains space.object.protect page) agrees in
    let missing = modes.0 ∙ ap (λ b. cond b (contains space.object.missing page) mode.missing) none in
    let protect = modes.1 ∙ ap (λ b. cond b (contains space.object.protect page) mode.protect) none in
    record {
      object = refl;
      missing = sym missing;
      protect = sym protect;
      registered = (λ i. missing i || protect i) ∙ some;
      absent = λ h. absurd (false≢true h);
      present = λ h. absurd (false≢true h);
      whole = refl;
      plain = refl;
      guarded = λ guarded. absurd (false≢true (sym agrees ∙ or_last (contains space.object.missing page) (contains space.object.protect page) (sound.watched page (guarded-left space first count page mode guarded))));
    }
  where
    or_last : (a b : Bool) → b ≡ true → (a || b) ≡ true
    or_last a b h = grind (arith, nat_tests)
page-registered space first count name page mode true (Some one) sound some is mapped agrees =
    page-again space first count name page mode ((not mode.missing || one.missing) && (not mode.protect || one.protect)) one sound some is (mapped refl) agrees
    (λ i. (not mode.missing || sym agrees.missing i) && (not mode.protect || sym agrees.protect i))

-- a page of the range, or one that lay in another
ranged-registered : (space : Space) (kernel : Kernel) (name : ℕ) (object : Object) (first count page : ℕ) (mode : Mode) (b : Bool) → Agree space kernel name object → in_range first count page ≡ b → leb (first + count) (2 ^ 52) ≡ true →
    is_registered (registered_in space first count mode).object page ≡ true → list_any (has_page name page) (kernel.ranges ++ record { object = name; first = first; count = count } ∷ []) ≡ true
ranged-registered space kernel name object first count page mode true agree is fits h =
    list_any-append (has_page name page) kernel.ranges (record { object = name; first = first; count = count } ∷ [])
    ∙ (λ i. list_any (has_page name page) kernel.ranges || ((eqb-self name i && fits i) && is i || false)) ∙ or_end (list_any (has_page name page) kernel.ranges)
  where
    or_end : (b : Bool) → (b || true) ≡ true
    or_end b = grind (arith, nat_tests)
ranged-registered space kernel name object first count page mode false agree is fits h =
    let same = modes-left space first count page mode agree.sound is in
    list_any-append (has_page name page) kernel.ranges (record { object = name; first = first; count = count } ∷ [])
    ∙ ap (λ b. b || (has_page name page (record { object = name; first = first; count = count }) || false)) (agree.ranged page (sym (λ i. same.0 i || same.1 i) ∙ h))

agree-registered : (space : Space) (kernel : Kernel) (name : ℕ) (object : Object) (first count : ℕ) (mode : Mode) → Agree space kernel name object → leb (first + count) (2 ^ 52) ≡ true → (mode.missing || mode.protect) ≡ true → ((page : ℕ) → in_range first count page ≡ true → contains_key space.host.areas page ≡ true) →
    Agree (registered_in space first count mode) (rules.with_range (rules.with_registered kernel name object.space first count mode false) name first count) name object
agree-registered space kernel name object first count mode agree fits some mapped =
    let at = λ (page : ℕ). ap (λ e. e && in_range first count page) (eqb-self object.space) in
    record {
      sound = IsSoundSpace-registered space first count mode agree.sound;
      named = agree.named;
      features = agree.features;
      unread = agree.unread;
      pages = λ page.
          page-registered space first count name page mode (eqb object.space object.space && in_range first count page) (kernel.pages object.space page) agree.sound some (sym (at page))
          (λ inside. mapped page (sym (at page) ∙ inside)) (agree.pages page);
      untold = agree.untold;
      alone = agree.alone;
      ranged = λ page h. ranged-registered space kernel name object first count page mode (in_range first count page) agree refl fits h;
    }

right_mode : (bits : ℕ) → is_bad_mode bits ≡ false → is_mode bits ≡ true
right_mode bits good = grind (arith, nat_tests)

any_mode : (bits : ℕ) → is_bad_mode bits ≡ false → (is_one bits 0 || is_one bits 1) ≡ true
unfolding is_one
any_mode zero good = absurd (false≢true (sym good))
any_mode (suc zero) good = refl
any_mode (suc (suc zero)) good = refl
any_mode (suc (suc (suc zero))) good = refl
any_mode (suc (suc (suc (suc bits)))) good = absurd (false≢true (sym good ∙ four bits)) where
  four : (bits : ℕ) → is_bad_mode (suc (suc (suc (suc bits)))) ≡ true
  four bits = grind (arith, nat_tests)

no_minor : (bits : ℕ) → is_bad_mode bits ≡ false → is_one bits 2 ≡ false
unfolding is_one
no_minor zero good = refl
no_minor (suc zero) good = refl
no_minor (suc (suc zero)) good = refl
no_minor (suc (suc (suc zero))) good = refl
no_minor (suc (suc (suc (suc bits)))) good = absurd (false≢true (sym good ∙ four bits)) where
  four : (bits : ℕ) → is_bad_mode (suc (suc (suc (suc bits)))) ≡ true
  four bits = grind (arith, nat_tests)

own : (space : Space) (name page : ℕ) (found : Option Page) → AgreesAt space name page found → page_is (λ one. not (eqb one.object name)) found ≡ false
own space name page None agrees = refl
own space name page (Some one) agrees = ap not (ap (λ n. eqb n name) agrees.object ∙ eqb-self name)

no-other : (space : Space) (kernel : Kernel) (name : ℕ) (object : Object) (first count : ℕ) → Agree space kernel name object → some_page kernel object.space first count (λ page. not (eqb page.object name)) ≡ false
no-other space kernel name object first count agree =
    ap not (none_below-from _ count (λ i low. ap (λ b. not (not b)) (own space name (first + i) (kernel.pages object.space (first + i)) (agree.pages (first + i)))))

in-space : (start len : ℕ) → is_range start len ≡ true → leb (start / 4096 + len / 4096) (2 ^ 52) ≡ true
in-space start len is = grind (arith, nat_tests)

may_register : (c e m r o : Bool) → c ≡ true → e ≡ true → m ≡ true → r ≡ true → o ≡ false → (c && e && m && r && not o) ≡ true
may_register c e m r o hc he hm hr ho = grind (arith, nat_tests)

registers : (space : Space) (kernel : Kernel) (name : ℕ) (object : Object) (start len bits ioctls : ℕ) (e v m w b : Bool) → Agree space kernel name object → has_calls bits ioctls ≡ true → is_enabled object ≡ e → is_bad_mode bits ≡ m → is_bad_range start len ≡ w →
    let errors : List (Bool × Errno) = (not e, Errno.Einval) ∷ (v, Errno.Einval) ∷ (m, Errno.Einval) ∷ (w, Errno.Einval) ∷ (b, Errno.Einval) ∷ [] in
    (first_holding errors ≡ None → AreMapped space start len) →
    Takes (rules.registered kernel name object start len bits (answer_of_register ioctls (first_holding errors))) (left_by (first_holding errors) space (registered_in space (start / 4096) (len / 4096) (mode_of bits))) name
registers space kernel name object start len bits ioctls false v m w b agree calls he hm hw mapped = refused space kernel name object true agree refl
registers space kernel name object start len bits ioctls true true m w b agree calls he hm hw mapped = refused space kernel name object true agree refl
registers space kernel name object start len bits ioctls true false true w b agree calls he hm hw mapped = refused space kernel name object true agree refl
registers space kernel name object start len bits ioctls true false false true b agree calls he hm hw mapped = refused space kernel name object true agree refl
registers space kernel name object start len bits ioctls true false false false true agree calls he hm hw mapped = refused space kernel name object true agree refl
registers space kernel name object start len bits ioctls true false false false false agree calls he hm hw mapped =
    let first = start / 4096 in
    let count = len / 4096 in
    let mode = mode_of bits in
    let other = some_page kernel object.space first count (λ page. not (eqb page.object name)) in
    let by : Bool → Kernel = λ minor. rules.with_range (rules.with_registered kernel name object.space first count mode minor) name first count in
    let put = by (is_one bits 2) in
    let without = not (asked_for object 2 && asked_for object 3 && asked_for object 6) in
    let new = noted_if without RegisterWithoutEvents put in
    record {
      kernel = new;
      object = object;
      taken = ap (λ b. allowed b new) (may_register (has_calls bits ioctls) (is_enabled object) (is_mode bits) (is_range start len) other calls he (right_mode bits hm) (right_range start len hw) (no-other space kernel name object first count agree));
      agree = agree-noted without RegisterWithoutEvents (registered_in space first count mode) put name object
          (subst (λ minor. Agree (registered_in space first count mode) (by minor) name object) (sym (no_minor bits hm))
          (agree-registered space kernel name object first count mode agree (in-space start len (right_range start len hw)) (any_mode bits hm) (mapped refl)));
    }

pub register-taken : (space : Space) (kernel : Kernel) (name : ℕ) (object : Object) (start len bits ioctls : ℕ) → Agree space kernel name object → has_calls bits ioctls ≡ true → (register_error space start len bits ≡ None → AreMapped space start len) →
    Takes (rules.registered kernel name object start len bits (answer_of_register ioctls (register_error space start len bits))) (registered space start len bits) name
register-taken space kernel name object start len bits ioctls agree calls mapped =
    registers space kernel name object start len bits ioctls space.object.enabled (not (has_events space.object)) (is_bad_mode bits) (is_bad_range start len) (is_bare space (start / 4096) (len / 4096)) agree calls (is-enabled agree) refl refl mapped
