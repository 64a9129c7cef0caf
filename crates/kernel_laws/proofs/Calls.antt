-- UFFDIO_ZEROPAGE and UFFDIO_COPY: what is refused before any page is put, and the rest.
use Rattle.std.proofs.lemmas.Bool.Decides.{nat_tests}
use Rattle.std.proofs.lemmas.Bool.{false≢true, not-true}
use Rattle.std.proofs.Common.{◌≡◌, ℕ, zero, suc, ◌+◌, ◌/◌, ◌^◌, ◌<◌, ◌&&◌, ◌||◌, Bool, true, false, not, cond, ltb, leb, Option, Some, None, List, [], ◌∷◌, ◌++◌, length, arith, refl, sym, ap, subst, ◌∙◌}
use Rattle.std.specs.FinMap.{contains_key, get}
use Rattle.std.specs.FinSet.{contains}
use Rattle.mig_base.specs.declared.command.Errno.{Errno}
use Rattle.foundation.specs.Bits.{is_one}
use Rattle.mig_base.specs.Bytes.{zero_page}
use Rattle.foundation.specs.Tests.{first_holding}
use Rattle.mig_base.specs.Userfault.{changing, is_registered}
use Rattle.mig_base.proofs.ByteLemmas.{length-zero_page}
use Rattle.foundation.proofs.RangeLemmas.{none_below-from, none_below-not}
use Rattle.foundation.proofs.TestLemmas.{and_false, and_first, and_second}
use Rattle.mig_model.specs.Ioctls.{answer_put, copied, copy_answer, handed, installed, is_bad_range, is_one_area, left_by, missing_run, put_answer, same_area, zeropage_answer, zeropaged}
use Rattle.mig_model.specs.Space.{IsSoundSpace, Space}
use Rattle.mig_model.proofs.memory.PageCalls.{same_prot_self}
use Rattle.mig_model.proofs.memory.IoctlLemmas.{IsSoundSpace-installed, can_put, every_page, length-handed, protect_told}
use Rattle.uffd_log.specs.declared.line.Answer.{Answer}
use Rattle.kernel_rules.specs.declared.difference.Difference.TheVariants as differs
use Rattle.kernel_rules.specs.declared.known.Page.{Page}
use Rattle.kernel_rules.specs.declared.object.Object.{Object}
use Rattle.kernel_rules.specs.Ioctls as rules
use Rattle.kernel_rules.specs.Ioctls.{is_invalid, is_put_wrong, is_right, put_outside, put_with}
use Rattle.kernel_rules.specs.State.{Kernel, allowed, each_page, is_enabled, is_range, may_be_outside, noted_if, page_is, some_page}
use Rattle.kernel_laws.specs.Agreement.{Agree, AgreesAt, Takes, answer_of_put, is_inside}
use Rattle.kernel_laws.proofs.Events.{changes, refused-changing}
use Rattle.kernel_laws.proofs.Kernels.{agree-noted, bad_range, good_range, is-enabled}
use Rattle.kernel_laws.proofs.Pages.{known}
use Rattle.kernel_laws.proofs.Puts.{IsCall, put-taken, registered-in}

-- Wrong arguments

unenabled : (e r l o x : Bool) → e ≡ false → (not (e && r && l) || o || x) ≡ true
unenabled e r l o x is = grind (arith, nat_tests)

unknown_mode : (e r l o x : Bool) → l ≡ false → (not (e && r && l) || o || x) ≡ true
unknown_mode e r l o x is = grind (arith, nat_tests)

wrong_range : (e r l o x : Bool) → (not r || o) ≡ true → (not (e && r && l) || o || x) ≡ true
wrong_range e r l o x is = grind (arith, nat_tests)

pub greater : (most bits : ℕ) → ltb most bits ≡ true → leb bits most ≡ false
greater most bits h = grind (arith, nat_tests)

pub refused : (space : Space) (kernel : Kernel) (name : ℕ) (object : Object) (b : Bool) → Agree space kernel name object → b ≡ true → Takes (allowed b kernel) space name
refused space kernel name object b agree is = record { kernel = kernel; object = object; taken = ap (λ b. allowed b kernel) is; agree = agree }

-- Several areas, or none

known_one : (space : Space) (name page : ℕ) (found : Option Page) → AgreesAt space name page found → page_is (λ p. true) found ≡ true → is_registered space.object page ≡ true
known_one space name page None agrees h = absurd (false≢true h)
known_one space name page (Some one) agrees h = agrees.registered

same-self : (space : Space) (page : ℕ) → contains_key space.host.areas page ≡ true → same_area space page page ≡ true
same-self space page mapped = grind (arith, nat_tests, same_prot_self (get space.host.areas page))

one-page : (space : Space) (first : ℕ) → IsSoundSpace space → is_registered space.object first ≡ true → is_one_area space first 1 ≡ true
one-page space first sound registered =
    none_below-from _ 1 (λ i low.
    let at : first + i ≡ first = omega (arith, low) in
    let same = same-self space first (sound.mapped first registered) in
    ap not (ap (λ page. is_registered space.object page && same_area space first page) at ∙ (λ j. registered j && same j)))

some_pages : (object : Object) (start len bits most : ℕ) → is_right object start len bits most ≡ true → ltb 4096 len ≡ false → len / 4096 ≡ 1
some_pages object start len bits most right few = grind (arith, nat_tests)

several : (space : Space) (kernel : Kernel) (name : ℕ) (object : Object) (start len bits most : ℕ) (b : Bool) → Agree space kernel name object → is_right object start len bits most ≡ true → is_one_area space (start / 4096) (len / 4096) ≡ false →
    each_page kernel object.space (start / 4096) (len / 4096) (λ page. true) ≡ true → ltb 4096 len ≡ b → b ≡ true
several space kernel name object start len bits most true agree right area each is = refl
several space kernel name object start len bits most false agree right area each is =
    let first = start / 4096 in
    let one = some_pages object start len bits most right is in
    let known = every_page (λ page. page_is (λ p. true) (kernel.pages object.space page)) first (len / 4096) first each (omega (arith)) (omega (arith, one)) in
    let registered = known_one space name first (kernel.pages object.space first) (agree.pages first) known in
    sym area ∙ ap (is_one_area space first) one ∙ one-page space first agree.sound registered

outside-by : (space : Space) (kernel : Kernel) (key name : ℕ) (object : Object) (start len bits most : ℕ) (b : Bool) → Agree space kernel name object → is_right object start len bits most ≡ true → is_one_area space (start / 4096) (len / 4096) ≡ false →
    each_page kernel object.space (start / 4096) (len / 4096) (λ page. true) ≡ b →
    Takes (cond b (allowed (ltb 4096 len) (noted_if true differs.Areas kernel)) (Some (record kernel { outside = kernel.outside ++ key ∷ [] }))) space name
outside-by space kernel key name object start len bits most true agree right area each =
    record {
      kernel = noted_if true differs.Areas kernel;
      object = object;
      taken = ap (λ b. allowed b (noted_if true differs.Areas kernel)) (several space kernel name object start len bits most (ltb 4096 len) agree right area each refl);
      agree = agree-noted true differs.Areas space kernel name object agree;
    }
outside-by space kernel key name object start len bits most false agree right area each =
    record {
      kernel = record kernel { outside = kernel.outside ++ key ∷ [] };
      object = object;
      taken = refl;
      agree = record { sound = agree.sound; named = agree.named; features = agree.features; pages = agree.pages; unread = agree.unread; untold = agree.untold; alone = agree.alone; ranged = agree.ranged };
    }

pub outside : (space : Space) (kernel : Kernel) (key name : ℕ) (object : Object) (start len bits most : ℕ) → Agree space kernel name object → is_right object start len bits most ≡ true → is_one_area space (start / 4096) (len / 4096) ≡ false →
    Takes (put_outside kernel key object start len bits most) space name
outside space kernel key name object start len bits most agree right area =
    let each = each_page kernel object.space (start / 4096) (len / 4096) (λ page. true) in
    subst (λ rule. Takes rule space name)
    (sym (ap (λ b. cond (not b) None (cond each (allowed (ltb 4096 len) (noted_if true differs.Areas kernel)) (Some (record kernel { outside = kernel.outside ++ key ∷ [] })))) right))
    (outside-by space kernel key name object start len bits most each agree right area refl)

-- UFFDIO_ZEROPAGE

right_three : (e r l : Bool) → e ≡ true → r ≡ true → l ≡ true → (e && r && l) ≡ true
right_three e r l he hr hl = grind (arith, nat_tests)

not-greater : (most bits : ℕ) → ltb most bits ≡ false → leb bits most ≡ true
not-greater most bits h = grind (arith, nat_tests)

many : (bits : ℕ) → ltb 1 (suc (suc bits)) ≡ true
many bits = grind (arith, nat_tests)

pub good-right : (object : Object) (start len bits most : ℕ) → is_enabled object ≡ true → is_range start len ≡ true → ltb most bits ≡ false → is_right object start len bits most ≡ true
good-right object start len bits most he hr hm = right_three (is_enabled object) (is_range start len) (leb bits most) he hr (not-greater most bits hm)

no_protect : (bits : ℕ) → ltb 1 bits ≡ false → is_one bits 1 ≡ false
unfolding is_one
no_protect zero h = refl
no_protect (suc zero) h = refl
no_protect (suc (suc bits)) h = absurd (false≢true (sym h ∙ many bits))

zeropages : (space : Space) (kernel : Kernel) (key name : ℕ) (object : Object) (start len bits : ℕ) (e m w c a : Bool) → Agree space kernel name object → is_inside start len ≡ true → is_enabled object ≡ e → ltb 1 bits ≡ m → is_bad_range start len ≡ w →
    ltb 0 (changing space.object) ≡ c → is_one_area space (start / 4096) (len / 4096) ≡ a →
    let errors : List (Bool × Errno) = (not e, Errno.Einval) ∷ (m, Errno.Einval) ∷ (w, Errno.Einval) ∷ (c, Errno.Eagain) ∷ (not a, Errno.Enoent) ∷ [] in
    let done = missing_run space (start / 4096) (len / 4096) in
    Takes (put_with kernel key name object start len bits 1 (answer_of_put (answer_put (first_holding errors) (put_answer start (len / 4096) done bits Errno.Eexist))))
    (left_by (first_holding errors) space (installed space (start / 4096) done (λ i. zero_page) false)) name
zeropages space kernel key name object start len bits false m w c a agree inside he hm hw hc ha =
    refused space kernel name object (is_put_wrong kernel object start len bits 1) agree (unenabled (is_enabled object) (is_range start len) (leb bits 1) (may_be_outside start len) _ he)
zeropages space kernel key name object start len bits true true w c a agree inside he hm hw hc ha =
    refused space kernel name object (is_put_wrong kernel object start len bits 1) agree (unknown_mode (is_enabled object) (is_range start len) (leb bits 1) (may_be_outside start len) _ (greater 1 bits hm))
zeropages space kernel key name object start len bits true false true c a agree inside he hm hw hc ha =
    refused space kernel name object (is_put_wrong kernel object start len bits 1) agree (wrong_range (is_enabled object) (is_range start len) (leb bits 1) (may_be_outside start len) _ (bad_range start len inside hw))
zeropages space kernel key name object start len bits true false false true a agree inside he hm hw hc ha = refused-changing space kernel name object agree hc
zeropages space kernel key name object start len bits true false false false false agree inside he hm hw hc ha =
    outside space kernel key name object start len bits 1 agree (good-right object start len bits 1 he (good_range start len inside hw) hm) ha
zeropages space kernel key name object start len bits true false false false true agree inside he hm hw hc ha =
    let first = start / 4096 in
    let count = len / 4096 in
    let done = missing_run space first count in
    let none = no_protect bits hm in
    let asked = λ (h : is_one bits 1 ≡ true). absurd (false≢true (sym none ∙ h)) in
    let sound = IsSoundSpace-installed space first done (λ i. zero_page) (is_one bits 1) (can_put space first count (λ i. zero_page) (is_one bits 1) agree.sound ha (λ i low. length-zero_page) asked) agree.sound in
    let call : IsCall space kernel name object start len bits 1 =
    record { agree = agree; still = changes agree ∙ hc; right = good-right object start len bits 1 he (good_range start len inside hw) hm; area = ha; watched = asked } in
    subst (λ protect. Takes (put_with kernel key name object start len bits 1 (answer_of_put (put_answer start count done bits Errno.Eexist))) (installed space first done (λ i. zero_page) protect) name) none
    (put-taken space kernel key name object start len bits 1 (λ i. zero_page) call sound)

pub zeropage-taken : (space : Space) (kernel : Kernel) (key name : ℕ) (object : Object) (start len bits : ℕ) → Agree space kernel name object → is_inside start len ≡ true →
    Takes (put_with kernel key name object start len bits 1 (answer_of_put (zeropage_answer space start len bits))) (zeropaged space start len bits) name
zeropage-taken space kernel key name object start len bits agree inside =
    zeropages space kernel key name object start len bits space.object.enabled (ltb 1 bits) (is_bad_range start len) (ltb 0 (changing space.object)) (is_one_area space (start / 4096) (len / 4096)) agree inside (is-enabled agree) refl refl refl refl

-- UFFDIO_COPY

no_wrap : (from len : ℕ) → may_be_outside from len ≡ false → ltb (2 ^ 64) (from + len) ≡ false
no_wrap from len inside = grind (arith, nat_tests)

-- the source of a copy is in the task's memory
through : (kernel : Kernel) (key name : ℕ) (object : Object) (start from len bits : ℕ) (told : Answer) → may_be_outside from len ≡ false → rules.copied kernel key name object start from len bits told ≡ put_with kernel key name object start len bits 3 told
through kernel key name object start from len bits told inside =
    let put = put_with kernel key name object start len bits 3 told in
    ap (λ b. cond (is_invalid told && b) (Some kernel) (cond (ltb (2 ^ 64) (from + len)) None put)) inside
    ∙ ap (λ b. cond b (Some kernel) (cond (ltb (2 ^ 64) (from + len)) None put)) (and_false (is_invalid told)) ∙ ap (λ b. cond b None put) (no_wrap from len inside)

unwatched : (e r l o asked some : Bool) → asked ≡ true → some ≡ true → (not (e && r && l) || o || asked && some) ≡ true
unwatched e r l o asked some ha hs = grind (arith, nat_tests)

not-protected : (space : Space) (kernel : Kernel) (name : ℕ) (object : Object) (first count : ℕ) → Agree space kernel name object → is_one_area space first count ≡ true → 0 < count → contains space.object.protect first ≡ false →
    some_page kernel object.space first count (λ page. not page.protect) ≡ true
not-protected space kernel name object first count agree area some unprotected =
    let at : first + 0 ≡ first = omega (arith) in
    let none = subst (λ page. contains space.object.protect page ≡ false) (sym at) unprotected in
    let registered = registered-in space first count 0 area some in
    let passes = known space name (first + 0) (kernel.pages object.space (first + 0)) (λ page. not page.protect) (agree.pages (first + 0)) registered (λ one is. ap not (is.protect ∙ none)) in
    ap not (none_below-not _ count 0 some (ap (λ b. not (not b)) passes))

pub pages_in : (start len : ℕ) → is_range start len ≡ true → 0 < len / 4096
pages_in start len right = grind (arith, nat_tests)

copies : (space : Space) (kernel : Kernel) (key name : ℕ) (object : Object) (start : ℕ) (bytes : List ℕ) (bits : ℕ) (e m w c a p : Bool) → Agree space kernel name object → is_inside start (length bytes) ≡ true → is_enabled object ≡ e → ltb 3 bits ≡ m →
    is_bad_range start (length bytes) ≡ w → ltb 0 (changing space.object) ≡ c → is_one_area space (start / 4096) (length bytes / 4096) ≡ a → (is_one bits 1 && not (contains space.object.protect (start / 4096))) ≡ p →
    let errors : List (Bool × Errno) = (not e, Errno.Einval) ∷ (m, Errno.Einval) ∷ (w, Errno.Einval) ∷ (c, Errno.Eagain) ∷ (not a, Errno.Enoent) ∷ (p, Errno.Einval) ∷ [] in
    let done = missing_run space (start / 4096) (length bytes / 4096) in
    Takes (put_with kernel key name object start (length bytes) bits 3 (answer_of_put (answer_put (first_holding errors) (put_answer start (length bytes / 4096) done bits Errno.Eexist))))
    (left_by (first_holding errors) space (installed space (start / 4096) done (handed bytes) (is_one bits 1))) name
copies space kernel key name object start bytes bits false m w c a p agree inside he hm hw hc ha hp =
    let len = length bytes in
    refused space kernel name object (is_put_wrong kernel object start len bits 3) agree (unenabled (is_enabled object) (is_range start len) (leb bits 3) (may_be_outside start len) _ he)
copies space kernel key name object start bytes bits true true w c a p agree inside he hm hw hc ha hp =
    let len = length bytes in
    refused space kernel name object (is_put_wrong kernel object start len bits 3) agree (unknown_mode (is_enabled object) (is_range start len) (leb bits 3) (may_be_outside start len) _ (greater 3 bits hm))
copies space kernel key name object start bytes bits true false true c a p agree inside he hm hw hc ha hp =
    let len = length bytes in
    refused space kernel name object (is_put_wrong kernel object start len bits 3) agree (wrong_range (is_enabled object) (is_range start len) (leb bits 3) (may_be_outside start len) _ (bad_range start len inside hw))
copies space kernel key name object start bytes bits true false false true a p agree inside he hm hw hc ha hp = refused-changing space kernel name object agree hc
copies space kernel key name object start bytes bits true false false false false p agree inside he hm hw hc ha hp =
    let len = length bytes in
    outside space kernel key name object start len bits 3 agree (good-right object start len bits 3 he (good_range start len inside hw) hm) ha
copies space kernel key name object start bytes bits true false false false true true agree inside he hm hw hc ha hp =
    let len = length bytes in
    let first = start / 4096 in
    let asked = and_first (is_one bits 1) (not (contains space.object.protect first)) hp in
    let unprotected = not-true (contains space.object.protect first) (and_second (is_one bits 1) (not (contains space.object.protect first)) hp) in
    let some = not-protected space kernel name object first (len / 4096) agree ha (pages_in start len (good_range start len inside hw)) unprotected in
    refused space kernel name object (is_put_wrong kernel object start len bits 3) agree
    (unwatched (is_enabled object) (is_range start len) (leb bits 3) (may_be_outside start len) (is_one bits 1) (some_page kernel object.space first (len / 4096) (λ page. not page.protect)) asked some)
copies space kernel key name object start bytes bits true false false false true false agree inside he hm hw hc ha hp =
    let len = length bytes in
    let first = start / 4096 in
    let count = len / 4096 in
    let done = missing_run space first count in
    let watched = protect_told (is_one bits 1) (contains space.object.protect first) hp in
    let sound = IsSoundSpace-installed space first done (handed bytes) (is_one bits 1) (can_put space first count (handed bytes) (is_one bits 1) agree.sound ha (length-handed bytes) watched) agree.sound in
    let call : IsCall space kernel name object start len bits 3 =
    record { agree = agree; still = changes agree ∙ hc; right = good-right object start len bits 3 he (good_range start len inside hw) hm; area = ha; watched = watched } in
    put-taken space kernel key name object start len bits 3 (handed bytes) call sound

pub copy-taken : (space : Space) (kernel : Kernel) (key name : ℕ) (object : Object) (start from : ℕ) (bytes : List ℕ) (bits : ℕ) → Agree space kernel name object → is_inside start (length bytes) ≡ true → may_be_outside from (length bytes) ≡ false →
    Takes (rules.copied kernel key name object start from (length bytes) bits (answer_of_put (copy_answer space start bytes bits))) (copied space start bytes bits) name
copy-taken space kernel key name object start from bytes bits agree inside source =
    let told = answer_of_put (copy_answer space start bytes bits) in
    subst (λ rule. Takes rule (copied space start bytes bits) name) (sym (through kernel key name object start from (length bytes) bits told source))
    (copies space kernel key name object start bytes bits space.object.enabled (ltb 3 bits) (is_bad_range start (length bytes)) (ltb 0 (changing space.object)) (is_one_area space (start / 4096) (length bytes / 4096)) (is_one bits 1 && not (contains space.object.protect (start / 4096))) agree
    inside (is-enabled agree) refl refl refl refl refl)
