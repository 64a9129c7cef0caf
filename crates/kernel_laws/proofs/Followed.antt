-- The calls of the handlers of a reached world, of a kernel whose object agrees.
use Rattle.std.proofs.lemmas.Bool.Decides.{nat_tests}
use Rattle.std.proofs.Common.{◌≡◌, ℕ, ◌*◌, ◌/◌, ◌&&◌, Bool, true, false, not, cond, eqb, ltb, Option, Some, None, List, [], ◌∷◌, length, arith, refl, sym, ap, subst, ◌∙◌}
use Rattle.std.specs.Prelude.{Ok}
use Rattle.mig_base.specs.declared.command.Errno.{Errno}
use Rattle.mig_base.specs.declared.effect.Effect.{Effect}
use Rattle.mig_base.specs.declared.schedule.Step.{Step}
use Rattle.mig_base.specs.declared.wake.Wake.{Wake}
use Rattle.foundation.specs.Bits.{is_one}
use Rattle.foundation.specs.Tests.{first_holding, is_every}
use Rattle.mig_base.specs.Userfault.{changing}
use Rattle.std.specs.FinSet.{contains}
use Rattle.mig_model.specs.Handlers.{IsCopy, IsWake, IsWriteProtect, IsZeroPage, page_put}
use Rattle.mig_model.specs.Guest.{Guest}
use Rattle.mig_model.specs.Ioctls.{Put, answer_put, answered_by, copied, copy_answer, copy_error, is_bad_range, is_one_area, missing_run, put_answer, stop_error, wake_answer, write_protected, writeprotect_answer, writeprotect_error, zeropage_answer, zeropage_error, zeropaged}
use Rattle.mig_model.specs.Migration.{World, outcome}
use Rattle.mig_model.specs.Space.{Space}
use Rattle.mig_model.specs.Wire.{Copy}
use Rattle.mig_model.proofs.steps.StepCases.{holds-made}
use Rattle.mig_model.proofs.steps.StepLemmas.{holds-effect}
use Rattle.kernel_rules.specs.Ioctls as rules
use Rattle.kernel_rules.specs.State.{may_be_outside}
use Rattle.kernel_laws.specs.Agreement.{Counterparts, Takes, answer_of_put, answer_of_wake, is_inside}
use Rattle.kernel_laws.specs.Handlers.{copies_page, protects_pages, wakes_page, zeroes_page}
use Rattle.kernel_laws.proofs.Calls.{copy-taken, zeropage-taken}
use Rattle.kernel_laws.proofs.Protects.{protect-taken}
use Rattle.kernel_laws.proofs.Wakes.{wake-taken}

-- A call that is not refused has a range in the address space of the model

pub both_fail : (a b : Bool) (x y : Errno) (rest : List (Bool × Errno)) → first_holding ((a, x) ∷ (b, y) ∷ rest) ≡ None → (a ≡ false) × (b ≡ false)
both_fail true b x y rest is = absurd (cc)
both_fail false true x y rest is = absurd (cc)
both_fail false false x y rest is = (refl, refl)

third_fails : (a b c : Bool) (x y z : Errno) (rest : List (Bool × Errno)) → first_holding ((a, x) ∷ (b, y) ∷ (c, z) ∷ rest) ≡ None → c ≡ false
third_fails true b c x y z rest is = absurd (cc)
third_fails false b c x y z rest is = (both_fail b c y z rest is).1

inside : (start len : ℕ) → is_bad_range start len ≡ false → is_inside start len ≡ true
inside start len good = grind (arith, nat_tests)

zeropage-inside : (space : Space) (start len bits : ℕ) → zeropage_error space start len bits ≡ None → is_bad_range start len ≡ false
zeropage-inside space start len bits is =
    third_fails (not space.object.enabled) (ltb 1 bits) (is_bad_range start len) Errno.Einval Errno.Einval Errno.Einval
    ((ltb 0 (changing space.object), Errno.Eagain) ∷ (not (is_one_area space (start / 4096) (len / 4096)), Errno.Enoent) ∷ []) is

copy-inside : (space : Space) (start len bits : ℕ) → copy_error space start len bits ≡ None → is_bad_range start len ≡ false
copy-inside space start len bits is =
    third_fails (not space.object.enabled) (ltb 3 bits) (is_bad_range start len) Errno.Einval Errno.Einval Errno.Einval
    ((ltb 0 (changing space.object), Errno.Eagain) ∷ (not (is_one_area space (start / 4096) (len / 4096)), Errno.Enoent) ∷ (is_one bits 1 && not (contains space.object.protect (start / 4096)), Errno.Einval) ∷ []) is

protect-inside : (space : Space) (start len bits : ℕ) → writeprotect_error space start len bits ≡ None → is_bad_range start len ≡ false
protect-inside space start len bits is =
    third_fails (not space.object.enabled) (ltb 2 bits) (is_bad_range start len) Errno.Einval Errno.Einval Errno.Einval
    ((ltb 0 (changing space.object), Errno.Eagain) ∷ (not (is_every (λ page. contains space.object.protect page) (start / 4096) (len / 4096)), Errno.Enoent) ∷ []) is

pub no_error : {A : Type 0} (error : Option Errno) (answer given : A) → answered_by error answer ≡ Ok given → error ≡ None
no_error None answer given is = refl
no_error (Some errno) answer given is = absurd (cc)

none_put : (error : Option Errno) (put : Put) → (answer_put error put).fault ≡ None → error ≡ None
none_put None put is = refl
none_put (Some errno) put is = is

-- One call of a guest, which leaves another

pub followed-wake : (one : Counterparts) (old new : Guest) (addr : ℕ) → one.space ≡ old.space → IsWake old new addr → Takes (wakes_page one addr) new.space one.name
followed-wake one old new addr same is =
    let answer : wake_answer one.space addr 4096 ≡ Ok (Wake.Range addr 4096) = ap (λ space. wake_answer space addr 4096) same ∙ is.answer in
    let fits = inside addr 4096 (both_fail _ (is_bad_range addr 4096) Errno.Einval Errno.Einval [] (no_error _ _ (Wake.Range addr 4096) answer)).1 in
    subst (λ space. Takes (wakes_page one addr) space one.name) (same ∙ sym is.leaves)
    (subst (λ told. Takes (rules.waked one.kernel one.name one.object addr 4096 (answer_of_wake told)) one.space one.name) answer (wake-taken one.space one.kernel one.name one.object addr 4096 one.agree fits))

pub followed-zeropage : (one : Counterparts) (old new : Guest) (key addr : ℕ) → one.space ≡ old.space → IsZeroPage old new addr → Takes (zeroes_page one key addr) new.space one.name
followed-zeropage one old new key addr same is =
    let answer : zeropage_answer one.space addr 4096 0 ≡ page_put addr = ap (λ space. zeropage_answer space addr 4096 0) same ∙ is.answer in
    let fits = inside addr 4096 (zeropage-inside one.space addr 4096 0 (none_put (zeropage_error one.space addr 4096 0) _ (ap (λ (put : Put). put.fault) answer))) in
    subst (λ space. Takes (zeroes_page one key addr) space one.name) (ap (λ space. zeropaged space addr 4096 0) same ∙ sym is.leaves)
    (subst (λ told. Takes (rules.put_with one.kernel key one.name one.object addr 4096 0 1 (answer_of_put told)) (zeropaged one.space addr 4096 0) one.name) answer (zeropage-taken one.space one.kernel key one.name one.object addr 4096 0 one.agree fits))

one_page : (len done : ℕ) (errno : Errno) → 4096 * done ≡ 4096 → cond (eqb done (len / 4096)) None (Some errno) ≡ None → len / 4096 ≡ 1
one_page len done errno bytes fault = grind (arith, nat_tests)

page_long : (start len : ℕ) → is_bad_range start len ≡ false → len / 4096 ≡ 1 → len ≡ 4096
page_long start len good one = grind (arith, nat_tests)

-- a copy that has put one page was of one
whole-page : (space : Space) (addr : ℕ) (bytes : List ℕ) → copy_answer space addr bytes 0 ≡ page_put addr → (is_bad_range addr (length bytes) ≡ false) × (length bytes ≡ 4096)
whole-page space addr bytes answer =
    let len = length bytes in
    let done = missing_run space (addr / 4096) (len / 4096) in
    let put = put_answer addr (len / 4096) done 0 Errno.Eexist in
    let none = none_put (copy_error space addr len 0) put (ap (λ (put : Put). put.fault) answer) in
    let good = copy-inside space addr len 0 none in
    let now : put ≡ page_put addr = sym (ap (λ error. answer_put error put) none) ∙ answer in
    (good, page_long addr len good (one_page len done (stop_error done Errno.Eexist) (ap (λ (put : Put). put.bytes) now) (ap (λ (put : Put). put.fault) now)))

pub followed-copy : (one : Counterparts) (old new : Guest) (key from addr : ℕ) (bytes : List ℕ) → one.space ≡ old.space → IsCopy old new addr bytes → may_be_outside from 4096 ≡ false → Takes (copies_page one key from addr) new.space one.name
followed-copy one old new key from addr bytes same is source =
    let answer : copy_answer one.space addr bytes 0 ≡ page_put addr = ap (λ space. copy_answer space addr bytes 0) same ∙ is.answer in
    let page = whole-page one.space addr bytes answer in
    let fits = inside addr (length bytes) page.0 in
    subst (λ space. Takes (copies_page one key from addr) space one.name) (ap (λ space. copied space addr bytes 0) same ∙ sym is.leaves)
    (subst (λ len. Takes (rules.copied one.kernel key one.name one.object addr from len 0 (answer_of_put (page_put addr))) (copied one.space addr bytes 0) one.name) page.1
    (subst (λ told. Takes (rules.copied one.kernel key one.name one.object addr from (length bytes) 0 (answer_of_put told)) (copied one.space addr bytes 0) one.name) answer
    (copy-taken one.space one.kernel key one.name one.object addr from bytes 0 one.agree fits (ap (may_be_outside from) page.1 ∙ source))))

pub followed-protect : (one : Counterparts) (old new : Guest) (key addr len bits : ℕ) (wake : Wake) → one.space ≡ old.space → IsWriteProtect old new addr len bits wake → Takes (protects_pages one key addr len bits) new.space one.name
followed-protect one old new key addr len bits wake same is =
    let answer : writeprotect_answer one.space addr len bits ≡ Ok wake = ap (λ space. writeprotect_answer space addr len bits) same ∙ is.answer in
    let fits = inside addr len (protect-inside one.space addr len bits (no_error (writeprotect_error one.space addr len bits) _ wake answer)) in
    subst (λ space. Takes (protects_pages one key addr len bits) space one.name) (ap (λ space. write_protected space addr len bits) same ∙ sym is.leaves)
    (subst (λ told. Takes (rules.protected_with one.kernel key one.name one.object addr len bits (answer_of_wake told)) (write_protected one.space addr len bits) one.name) answer
    (protect-taken one.space one.kernel key one.name one.object addr len bits one.agree fits))

-- An Install of a reached world

pub has-copy : (world : World) (addr source : ℕ) → outcome world Step.Install ≡ Ok (Effect.Installed addr source) → (copy : Copy) × (rest : List Copy) × (world.destination.arrivals ≡ copy ∷ rest)
has-copy world addr source answered =
    holds-effect (λ effect new. (copy : Copy) × (rest : List Copy) × (world.destination.arrivals ≡ copy ∷ rest)) world Step.Install (Effect.Installed addr source)
    (holds-made _ world Step.Install (λ copy rest first runs quiet. (copy, rest, first))) answered
