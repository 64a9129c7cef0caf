-- What a handler finds in the space that it is lent.
use Rattle.std.proofs.Common.{◌≡◌, ℕ, ◌+◌, ◌*◌, ◌%◌, ◌<◌, ◌≤◌, Bool, true, false, not, Some, None, Ok, Err, [], ◌∷◌, is_some, refl, sym, ap, ◌∙◌, ⊎_elim, arith}
use Rattle.std.specs.FinMap.{contains_key}
use Rattle.std.specs.FinSet.{contains}
use Rattle.std.proofs.lemmas.Bool.{cases_lt, or_parts, false_from_ne_true, not-false}
use Rattle.std.proofs.lemmas.Bool.Decides.{nat_tests}
use Rattle.mig_base.specs.declared.TheConstants.{HIGH_PAGE, LOW_PAGE}
use Rattle.foundation.specs.Tests.{first_holding}
use Rattle.mig_model.specs.Bounds.{IsPage}
use Rattle.mig_model.specs.Space.{Space, IsSoundSpace}
use Rattle.mig_base.specs.Userfault.{is_registered}
use Rattle.mig_model.specs.Guest.{is_forgotten}
use Rattle.mig_model.specs.Ioctls.{is_bad_range}
use Rattle.mig_model.proofs.memory.Facts.{none_absurd}
use Rattle.uffd_ioctl.specs.Lent.{IsLent}
use Rattle.mig_model.proofs.invariant.SourceRounds.{present_mapped}

-- Pages of a space

pub from_low : (space : Space) (page : ℕ) → IsLent space → contains_key space.host.areas page ≡ true → LOW_PAGE ≤ page
from_low space page lent h = ⊎_elim (λ (l : page < LOW_PAGE). none_absurd (sym (lent.low page l) ∙ h)) (λ l. l) (cases_lt page LOW_PAGE)

pub below_high : (space : Space) (page : ℕ) → IsSoundSpace space → contains_key space.host.areas page ≡ true → page < HIGH_PAGE
below_high space page sound h = ⊎_elim (λ l. l) (λ (l : HIGH_PAGE ≤ page). none_absurd (sym (ap is_some (sound.host.bound page l)) ∙ h)) (cases_lt page HIGH_PAGE)

pub protected_past : (space : Space) (page : ℕ) → IsSoundSpace space → HIGH_PAGE ≤ page → contains space.protected page ≡ false
protected_past space page sound l = false_from_ne_true (contains space.protected page) (λ h. let below = below_high space page sound (present_mapped space page sound (sound.present page h)) in omega (arith, l, below))

-- Ranges of whole pages

pub right_range : (first count : ℕ) → LOW_PAGE ≤ first → 0 < count → first + count ≤ HIGH_PAGE → is_bad_range (4096 * first) (count * 4096) ≡ false
right_range first count low some high =
    let start : 4096 * first % 4096 ≡ 0 = omega arith in
    let len : count * 4096 % 4096 ≡ 0 = omega arith in
    rw (start, len) (grind (arith, nat_tests))

pub five_none : {A : Type 0} (a b c d e : Bool) (v w x y z : A) → a ≡ false → b ≡ false → c ≡ false → d ≡ false → e ≡ false → first_holding ((a, v) ∷ (b, w) ∷ (c, x) ∷ (d, y) ∷ (e, z) ∷ []) ≡ None
five_none a b c d e v w x y z h k l m n = rw (h, k, l, m, n) refl

pub ok_no_err : {A E : Type 0} {a : A} {e : E} → Ok a ≡ Err e → ⊥
ok_no_err h = cc

pub some_no_none : {A X : Type 0} {x : X} → Some x ≡ None → A
some_no_none h = absurd (cc)

-- One page

watched_mapped : (space : Space) (page : ℕ) → is_forgotten space page ≡ false → contains_key space.host.areas page ≡ true
watched_mapped space page h = not-false (contains_key space.host.areas page) (or_parts (not (contains_key space.host.areas page)) (not (is_registered space.object page)) h).0

pub watched_registered : (space : Space) (page : ℕ) → is_forgotten space page ≡ false → is_registered space.object page ≡ true
watched_registered space page h = not-false (is_registered space.object page) (or_parts (not (contains_key space.host.areas page)) (not (is_registered space.object page)) h).1

pub watched_page : (space : Space) (page : ℕ) → IsSoundSpace space → IsLent space → is_forgotten space page ≡ false → IsPage page
watched_page space page sound lent h =
    let mapped = watched_mapped space page h in
    (from_low space page lent mapped, below_high space page sound mapped)
