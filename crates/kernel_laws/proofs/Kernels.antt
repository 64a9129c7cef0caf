-- What keeps the agreement of two objects, and ranges at both.
use Rattle.std.proofs.lemmas.Bool.Decides.{nat_tests}
use Rattle.std.proofs.Common.{◌≡◌, ℕ, ◌&&◌, ◌||◌, Bool, true, false, not, eqb, arith, refl, ap, ◌∙◌}
use Rattle.std.specs.Prelude.{is_some}
use Rattle.foundation.specs.Ranges.{in_range}
use Rattle.mig_model.specs.Ioctls.{is_bad_range}
use Rattle.mig_model.specs.Space.{Space}
use Rattle.kernel_rules.specs.declared.difference.Difference.{Difference}
use Rattle.kernel_rules.specs.declared.fault.Fault.{Fault}
use Rattle.kernel_rules.specs.declared.object.Object.{Object}
use Rattle.kernel_rules.specs.Faults.{faults_over, is_seen, sleeps_in, woken}
use Rattle.kernel_rules.specs.State.{Kernel, is_enabled, is_range, may_be_outside, noted_if}
use Rattle.kernel_laws.specs.Agreement.{Agree, features_of, is_inside}
use Rattle.kernel_laws.proofs.Waiting.{unread-filter}

pub good_range : (start len : ℕ) → is_inside start len ≡ true → is_bad_range start len ≡ false → is_range start len ≡ true
good_range start len inside good = grind (arith, nat_tests)

pub right_range : (start len : ℕ) → is_bad_range start len ≡ false → is_range start len ≡ true
right_range start len good = grind (arith, nat_tests)

pub bad_range : (start len : ℕ) → is_inside start len ≡ true → is_bad_range start len ≡ true → (not (is_range start len) || may_be_outside start len) ≡ true
bad_range start len inside bad = grind (arith, nat_tests)

pub agree-noted : (b : Bool) (difference : Difference) (space : Space) (kernel : Kernel) (name : ℕ) (object : Object) → Agree space kernel name object → Agree space (noted_if b difference kernel) name object
agree-noted true difference space kernel name object agree =
    record { sound = agree.sound; named = agree.named; features = agree.features; pages = agree.pages; unread = agree.unread; untold = agree.untold; alone = agree.alone; ranged = agree.ranged }
agree-noted false difference space kernel name object agree = agree

agree-over : (test : Fault → Bool) (answered : Bool) (space : Space) (kernel : Kernel) (name : ℕ) (object : Object) → ((fault : Fault) → is_seen fault.phase ≡ true → not (test fault) ≡ true) → Agree space kernel name object →
    Agree space (faults_over kernel test answered) name object
agree-over test answered space kernel name object spares agree =
    record {
      sound = agree.sound;
      named = agree.named;
      features = agree.features;
      pages = agree.pages;
      unread = unread-filter (λ fault. not (test fault)) spares kernel.faults name object space.object.faults agree.unread;
      untold = agree.untold;
      alone = agree.alone;
      ranged = agree.ranged;
    }

spared : (own inside seen : Bool) → seen ≡ true → not (own && inside && not seen) ≡ true
spared own inside seen is = grind (arith, nat_tests)

-- those who sleep in a range are woken, and nobody on the way
pub agree-woken : (first count : ℕ) (answered : Bool) (space : Space) (kernel : Kernel) (name : ℕ) (object : Object) → Agree space kernel name object → Agree space (woken kernel (sleeps_in name first count) answered) name object
agree-woken first count answered space kernel name object agree =
    agree-noted _ _ space (faults_over kernel (sleeps_in name first count) answered) name object
    (agree-over (sleeps_in name first count) answered space kernel name object (λ fault seen. spared (eqb fault.object name) (in_range first count fault.page) (is_seen fault.phase) seen) agree)

made : (made : Bool) (features : ℕ) → is_some (features_of made features) ≡ made
made true features = refl
made false features = refl

pub is-enabled : {space : Space} {kernel : Kernel} {name : ℕ} {object : Object} → Agree space kernel name object → is_enabled object ≡ space.object.enabled
is-enabled {space = space} agree = ap is_some agree.features ∙ made space.object.enabled space.object.features
