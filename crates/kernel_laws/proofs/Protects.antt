-- UFFDIO_WRITEPROTECT.
use Rattle.std.proofs.lemmas.Bool.Decides.{nat_tests}
use Rattle.std.proofs.lemmas.Bool.{false≢true}
use Rattle.std.proofs.Common.{◌≡◌, ℕ, ◌+◌, ◌/◌, ◌<◌, ◌&&◌, ◌||◌, Bool, true, false, not, cond, eqb, ltb, leb, Option, Some, None, List, [], ◌∷◌, filter, arith, refl, sym, ap, subst, ◌∙◌}
use Rattle.std.specs.Prelude.{Ok}
use Rattle.std.specs.FinMap.{contains_key}
use Rattle.std.specs.FinSet.{contains}
use Rattle.mig_base.specs.declared.command.Errno.{Errno}
use Rattle.mig_base.specs.declared.wake.Wake.TheVariants.{Nobody, Range}
use Rattle.foundation.specs.Bits.{is_one}
use Rattle.foundation.specs.Ranges.{in_range}
use Rattle.foundation.specs.Tests.{first_holding, is_every}
use Rattle.mig_base.specs.Userfault.{changing}
use Rattle.foundation.proofs.RangeLemmas.{in_range_bounds, none_below-from, none_below-not}
use Rattle.mig_base.proofs.SetLemmas.{member_below}
use Rattle.foundation.proofs.TestLemmas.{eqb-self}
use Rattle.mig_model.specs.Ioctls.{answered_by, is_bad_range, left_by, protected_in, write_protected, writeprotect_answer}
use Rattle.mig_model.specs.Space.{IsSoundSpace, Space}
use Rattle.mig_model.proofs.memory.IoctlLemmas.{IsSoundSpace-protected, every_page}
use Rattle.kernel_rules.specs.declared.calling.Protecting.{Protecting}
use Rattle.kernel_rules.specs.declared.known.Page.{Page}
use Rattle.kernel_rules.specs.declared.object.Object.{Object}
use Rattle.kernel_rules.specs.Changes.{page_with}
use Rattle.kernel_rules.specs.Ioctls as rules
use Rattle.kernel_rules.specs.Ioctls.{has_begun, is_changing, is_each_protected, is_right, kept_pages, pages_set, protected_with, protects_missing, with_protected, without_protected}
use Rattle.kernel_rules.specs.Pages.{is_missing, perhaps_protected, protected_page}
use Rattle.kernel_rules.specs.State.{Kernel, allowed, each_page, is_enabled, is_range, may_be_outside, page_is, pages_changed, some_page}
use Rattle.kernel_laws.specs.Agreement.{Agree, AgreesAt, IsPage, Takes, answer_of_wake, is_inside}
use Rattle.kernel_laws.proofs.Calls.{good-right, greater, pages_in, refused}
use Rattle.kernel_laws.proofs.Events.{changes, refused-changing}
use Rattle.kernel_laws.proofs.Kernels.{agree-noted, agree-woken, bad_range, good_range, is-enabled}
use Rattle.kernel_laws.proofs.Pages.{known}
use Rattle.kernel_laws.proofs.Puts.{agree-if}

-- One page

guarded-now : (space : Space) (first count page : ℕ) (protect every absent : Bool) → in_range first count page ≡ true → (absent ≡ true → contains_key space.host.bytes page ≡ false) → contains (protected_in space first count protect).protected page ≡ true →
    (protect && (every || not absent)) ≡ true
guarded-now space first count page protect every absent inside tells guarded = grind (arith, nat_tests, member_below)

left-guarded : (space : Space) (first count page : ℕ) (protect : Bool) → in_range first count page ≡ false → contains (protected_in space first count protect).protected page ≡ true → contains space.protected page ≡ true
left-guarded space first count page protect outside guarded = grind (arith, nat_tests, member_below)

-- one that is registered for it, or not
page-changed : (space : Space) (first count name page : ℕ) (protect every p : Bool) (one : Page) → IsSoundSpace (protected_in space first count protect) → in_range first count page ≡ true → IsPage space name page one → one.protect ≡ p →
    IsPage (protected_in space first count protect) name page (cond p (record one { guarded = protect && (every || not (is_missing one.presence)) }) one)
page-changed space first count name page protect every true one sound inside agrees is =
    record {
      object = agrees.object;
      missing = agrees.missing;
      protect = agrees.protect;
      registered = agrees.registered;
      absent = agrees.absent;
      present = agrees.present;
      whole = agrees.whole;
      plain = agrees.plain;
      guarded = guarded-now space first count page protect every (is_missing one.presence) inside agrees.absent;
    }
page-changed space first count name page protect every false one sound inside agrees is =
    record {
      object = agrees.object;
      missing = agrees.missing;
      protect = agrees.protect;
      registered = agrees.registered;
      absent = agrees.absent;
      present = agrees.present;
      whole = agrees.whole;
      plain = agrees.plain;
      guarded = λ guarded. absurd (false≢true (sym is ∙ agrees.protect ∙ sound.watched page guarded));
    }

page-protect : (space : Space) (first count name page : ℕ) (protect every b : Bool) (found : Option Page) → IsSoundSpace (protected_in space first count protect) → in_range first count page ≡ b → AgreesAt space name page found →
    AgreesAt (protected_in space first count protect) name page (cond b (page_with (protected_page protect every) found) found)
page-protect space first count name page protect every true None sound is agrees = agrees
page-protect space first count name page protect every false None sound is agrees = agrees
page-protect space first count name page protect every true (Some one) sound is agrees = page-changed space first count name page protect every one.protect one sound is agrees refl
page-protect space first count name page protect every false (Some one) sound is agrees =
    record {
      object = agrees.object;
      missing = agrees.missing;
      protect = agrees.protect;
      registered = agrees.registered;
      absent = agrees.absent;
      present = agrees.present;
      whole = agrees.whole;
      plain = agrees.plain;
      guarded = λ guarded. agrees.guarded (left-guarded space first count page protect is guarded);
    }

-- The kernel

agree-protected : (space : Space) (kernel : Kernel) (name : ℕ) (object : Object) (first count : ℕ) (protect every : Bool) → Agree space kernel name object → IsSoundSpace (protected_in space first count protect) →
    Agree (protected_in space first count protect) (pages_changed kernel object.space first count (protected_page protect every)) name object
agree-protected space kernel name object first count protect every agree sound =
    record {
      sound = sound;
      named = agree.named;
      features = agree.features;
      unread = agree.unread;
      pages = λ page.
          page-protect space first count name page protect every (eqb object.space object.space && in_range first count page) (kernel.pages object.space page) sound
          (sym (ap (λ e. e && in_range first count page) (eqb-self object.space))) (agree.pages page);
      untold = agree.untold;
      alone = agree.alone;
      ranged = agree.ranged;
    }

agree-without : (key : ℕ) (space : Space) (kernel : Kernel) (name : ℕ) (object : Object) → Agree space kernel name object → Agree space (without_protected kernel key) name object
agree-without key space kernel name object agree =
    record {
      sound = agree.sound;
      named = agree.named;
      features = agree.features;
      unread = agree.unread;
      pages = agree.pages;
      untold = agree.untold;
      alone = ap (filter (λ (one : Protecting). not (eqb one.key key))) agree.alone;
      ranged = agree.ranged;
    }

agree-after : (space : Space) (kernel : Kernel) (key name : ℕ) (object : Object) (first count bits : ℕ) → Agree space kernel name object → IsSoundSpace (protected_in space first count (is_one bits 0)) →
    Agree (protected_in space first count (is_one bits 0)) (rules.protected_in kernel key name object first count bits) name object
agree-after space kernel key name object first count bits agree sound =
    let new = protected_in space first count (is_one bits 0) in
    let all = with_protected kernel object first count (is_one bits 0) in
    let kept = pages_set all object.space (kept_pages kernel key object.space kernel.protected) in
    let changed : Agree new all name object = agree-protected space kernel name object first count (is_one bits 0) (protects_missing object) agree sound in
    let set : Agree new kept name object = subst (λ begun. Agree new (pages_set all object.space (kept_pages kernel key object.space begun)) name object) (sym agree.alone) changed in
    let after = agree-noted _ _ new (without_protected kept key) name object (agree-without key new kept name object set) in
    agree-if (eqb bits 0) new _ _ name object (agree-woken first count true new _ name object after) after

-- The call

some-protected : (space : Space) (kernel : Kernel) (name : ℕ) (object : Object) (first count : ℕ) → Agree space kernel name object → is_every (λ page. contains space.object.protect page) first count ≡ true → 0 < count → some_page kernel object.space first count (λ page. page.protect) ≡ true
some-protected space kernel name object first count agree every some =
    let watched = every_page (λ page. contains space.object.protect page) first count (first + 0) every (omega (arith)) (omega (arith, some)) in
    let registered = or_true (contains space.object.missing (first + 0)) (contains space.object.protect (first + 0)) watched in
    let passes = known space name (first + 0) (kernel.pages object.space (first + 0)) (λ page. page.protect) (agree.pages (first + 0)) registered (λ one is. is.protect ∙ watched) in
    ap not (none_below-not _ count 0 some (ap (λ b. not (not b)) passes))
  where
    or_true : (a b : Bool) → b ≡ true → (a || b) ≡ true
    or_true a b h = grind (arith, nat_tests)

pub each-protected : (space : Space) (kernel : Kernel) (name : ℕ) (object : Object) (first count : ℕ) → Agree space kernel name object → is_every (λ page. contains space.object.protect page) first count ≡ true → each_page kernel object.space first count (λ page. page.protect) ≡ true
each-protected space kernel name object first count agree every =
    none_below-from (λ i. not (page_is (λ page. page.protect) (kernel.pages object.space (first + i)))) count (λ i low.
    let watched = every_page (λ page. contains space.object.protect page) first count (first + i) every (omega (arith)) (omega (arith, low)) in
    ap not (known space name (first + i) (kernel.pages object.space (first + i)) (λ page. page.protect) (agree.pages (first + i)) (or_true (contains space.object.missing (first + i)) (contains space.object.protect (first + i)) watched) (λ one is. is.protect ∙ watched)))
  where
    or_true : (a b : Bool) → b ≡ true → (a || b) ≡ true
    or_true a b h = grind (arith, nat_tests)

allowed_now : (right begun changing some : Bool) → right ≡ true → changing ≡ false → some ≡ true → (right && (begun || not changing && some)) ≡ true
allowed_now right begun changing some hr hc hs = grind (arith, nat_tests)

unenabled : (e r l o : Bool) → e ≡ false → (not (e && r && l) || o) ≡ true
unenabled e r l o is = grind (arith, nat_tests)

unknown_mode : (e r l o : Bool) → l ≡ false → (not (e && r && l) || o) ≡ true
unknown_mode e r l o is = grind (arith, nat_tests)

wrong_range : (e r l o : Bool) → (not r || o) ≡ true → (not (e && r && l) || o) ≡ true
wrong_range e r l o is = grind (arith, nat_tests)

-- some page is not registered for it: a kernel may protect the others
perhaps-page : (space : Space) (name page : ℕ) (protect b : Bool) (found : Option Page) → AgreesAt space name page found → AgreesAt space name page (cond b (page_with (perhaps_protected protect) found) found)
perhaps-page space name page protect false found agrees = agrees
perhaps-page space name page protect true None agrees = agrees
perhaps-page space name page protect true (Some one) agrees = perhaps (protect && one.protect) agrees where
  perhaps : (b : Bool) → IsPage space name page one → IsPage space name page (cond b (record one { guarded = true }) one)
  perhaps false agrees = agrees
  perhaps true agrees =
      record { object = agrees.object; missing = agrees.missing; protect = agrees.protect; registered = agrees.registered; absent = agrees.absent; present = agrees.present; whole = agrees.whole; plain = agrees.plain; guarded = λ guarded. refl }

not-each : (space : Space) (kernel : Kernel) (name : ℕ) (object : Object) (first count : ℕ) (each : Bool) → Agree space kernel name object → is_every (λ page. contains space.object.protect page) first count ≡ false →
    each_page kernel object.space first count (λ page. page.protect) ≡ each → each ≡ false
not-each space kernel name object first count false agree every is = refl
not-each space kernel name object first count true agree every is =
    sym (none_below-from (λ i. not (contains space.object.protect (first + i))) count (λ i low.
    ap not (protected-of space name (first + i) (kernel.pages object.space (first + i)) (agree.pages (first + i))
    (every_page (λ page. page_is (λ one. one.protect) (kernel.pages object.space page)) first count (first + i) is (omega (arith)) (omega (arith, low)))))) ∙ every
  where
    protected-of : (space : Space) (name page : ℕ) (found : Option Page) → AgreesAt space name page found → page_is (λ one. one.protect) found ≡ true → contains space.object.protect page ≡ true
    protected-of space name page None agrees h = absurd (false≢true h)
    protected-of space name page (Some one) agrees h = sym agrees.protect ∙ h

protects : (space : Space) (kernel : Kernel) (key name : ℕ) (object : Object) (start len bits : ℕ) (e m w c a : Bool) → Agree space kernel name object → is_inside start len ≡ true → is_enabled object ≡ e → ltb 2 bits ≡ m → is_bad_range start len ≡ w →
    ltb 0 (changing space.object) ≡ c → is_every (λ page. contains space.object.protect page) (start / 4096) (len / 4096) ≡ a →
    let errors : List (Bool × Errno) = (not e, Errno.Einval) ∷ (m, Errno.Einval) ∷ (w, Errno.Einval) ∷ (c, Errno.Eagain) ∷ (not a, Errno.Enoent) ∷ [] in
    Takes (protected_with kernel key name object start len bits (answer_of_wake (answered_by (first_holding errors) (cond (eqb bits 0) (Range start len) Nobody))))
    (left_by (first_holding errors) space (protected_in space (start / 4096) (len / 4096) (is_one bits 0))) name
protects space kernel key name object start len bits false m w c a agree inside he hm hw hc ha =
    refused space kernel name object (not (is_right object start len bits 2) || may_be_outside start len) agree (unenabled (is_enabled object) (is_range start len) (leb bits 2) (may_be_outside start len) he)
protects space kernel key name object start len bits true true w c a agree inside he hm hw hc ha =
    refused space kernel name object (not (is_right object start len bits 2) || may_be_outside start len) agree (unknown_mode (is_enabled object) (is_range start len) (leb bits 2) (may_be_outside start len) (greater 2 bits hm))
protects space kernel key name object start len bits true false true c a agree inside he hm hw hc ha =
    refused space kernel name object (not (is_right object start len bits 2) || may_be_outside start len) agree (wrong_range (is_enabled object) (is_range start len) (leb bits 2) (may_be_outside start len) (bad_range start len inside hw))
protects space kernel key name object start len bits true false false true a agree inside he hm hw hc ha = refused-changing space kernel name object agree hc
protects space kernel key name object start len bits true false false false false agree inside he hm hw hc ha =
    let first = start / 4096 in
    let count = len / 4096 in
    let right = good-right object start len bits 2 he (good_range start len inside hw) hm in
    let part = not-each space kernel name object first count (is_each_protected kernel object start len) agree ha refl in
    let new = pages_changed kernel object.space first count (perhaps_protected (is_one bits 0)) in
    record {
      kernel = new;
      object = object;
      taken = λ i. allowed (right i && not (part i)) new;
      agree = record {
        sound = agree.sound;
        named = agree.named;
        features = agree.features;
        unread = agree.unread;
        pages = λ page. perhaps-page space name page (is_one bits 0) (eqb object.space object.space && in_range first count page) (kernel.pages object.space page) (agree.pages page);
        untold = agree.untold;
        alone = agree.alone;
        ranged = agree.ranged;
      };
    }
protects space kernel key name object start len bits true false false false true agree inside he hm hw hc ha =
    let first = start / 4096 in
    let count = len / 4096 in
    let fits = good_range start len inside hw in
    let right = good-right object start len bits 2 he fits hm in
    let some = some-protected space kernel name object first count agree ha (pages_in start len fits) in
    let sound =
    IsSoundSpace-protected space first count (is_one bits 0)
    (λ page h. let within = in_range_bounds first count page h in every_page (λ q. contains space.object.protect q) first count page ha within.0 within.1) agree.sound in
    let new = rules.protected_in kernel key name object first count bits in
    told (eqb bits 0)
    (record {
      kernel = new;
      object = object;
      taken = ap (λ b. allowed b new) (allowed_now (is_right object start len bits 2) (has_begun kernel key) (is_changing kernel name) (some_page kernel object.space first count (λ page. page.protect)) right (changes agree ∙ hc) some);
      agree = agree-after space kernel key name object first count bits agree sound;
    })
  where
    -- whoever is woken, the call is done
    told : (b : Bool) → Takes (protected_with kernel key name object start len bits (answer_of_wake (Ok Nobody))) (protected_in space (start / 4096) (len / 4096) (is_one bits 0)) name →
        Takes (protected_with kernel key name object start len bits (answer_of_wake (Ok (cond b (Range start len) Nobody)))) (protected_in space (start / 4096) (len / 4096) (is_one bits 0)) name
    told b takes = takes

pub protect-taken : (space : Space) (kernel : Kernel) (key name : ℕ) (object : Object) (start len bits : ℕ) → Agree space kernel name object → is_inside start len ≡ true →
    Takes (protected_with kernel key name object start len bits (answer_of_wake (writeprotect_answer space start len bits))) (write_protected space start len bits) name
protect-taken space kernel key name object start len bits agree inside =
    protects space kernel key name object start len bits space.object.enabled (ltb 2 bits) (is_bad_range start len) (ltb 0 (changing space.object)) (is_every (λ page. contains space.object.protect page) (start / 4096) (len / 4096)) agree inside (is-enabled agree) refl refl refl refl
