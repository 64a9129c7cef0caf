-- UFFDIO_WAKE.
use Rattle.std.proofs.lemmas.Bool.Decides.{nat_tests}
use Rattle.std.proofs.Common.{◌≡◌, ℕ, ◌/◌, ◌&&◌, ◌||◌, Bool, true, false, not, [], ◌∷◌, arith, refl}
use Rattle.mig_base.specs.declared.command.Errno.{Errno}
use Rattle.mig_base.specs.declared.wake.Wake.{Wake}
use Rattle.foundation.specs.Tests.{first_holding}
use Rattle.mig_model.specs.Ioctls.{answered_by, is_bad_range, wake_answer}
use Rattle.mig_model.specs.Space.{Space}
use Rattle.kernel_rules.specs.declared.object.Object.{Object}
use Rattle.kernel_rules.specs.Faults.{sleeps_in, woken}
use Rattle.kernel_rules.specs.Ioctls.{waked}
use Rattle.kernel_rules.specs.State.{Kernel, allowed, is_enabled, is_range, may_be_outside}
use Rattle.kernel_laws.specs.Agreement.{Agree, Takes, answer_of_wake, is_inside}
use Rattle.kernel_laws.proofs.Calls.{refused}
use Rattle.kernel_laws.proofs.Kernels.{agree-woken, bad_range, good_range, is-enabled}

unenabled : (e r o : Bool) → e ≡ false → (not (e && r) || o) ≡ true
unenabled e r o is = grind (arith, nat_tests)

wrong : (e r o : Bool) → (not r || o) ≡ true → (not (e && r) || o) ≡ true
wrong e r o is = grind (arith, nat_tests)

wakes : (space : Space) (kernel : Kernel) (name : ℕ) (object : Object) (start len : ℕ) (e bad : Bool) → Agree space kernel name object → is_inside start len ≡ true → is_enabled object ≡ e → is_bad_range start len ≡ bad →
    Takes (waked kernel name object start len (answer_of_wake (answered_by (first_holding ((not e, Errno.Einval) ∷ (bad, Errno.Einval) ∷ [])) (Wake.Range start len)))) space name
wakes space kernel name object start len false bad agree inside enabled is =
    refused space kernel name object (not (is_enabled object && is_range start len) || may_be_outside start len) agree (unenabled (is_enabled object) (is_range start len) (may_be_outside start len) enabled)
wakes space kernel name object start len true true agree inside enabled is =
    refused space kernel name object (not (is_enabled object && is_range start len) || may_be_outside start len) agree (wrong (is_enabled object) (is_range start len) (may_be_outside start len) (bad_range start len inside is))
wakes space kernel name object start len true false agree inside enabled is =
    let test = sleeps_in name (start / 4096) (len / 4096) in
    record {
      kernel = woken kernel test true;
      object = object;
      taken = λ i. allowed (enabled i && good_range start len inside is i) (woken kernel test true);
      agree = agree-woken (start / 4096) (len / 4096) true space kernel name object agree;
    }

pub wake-taken : (space : Space) (kernel : Kernel) (name : ℕ) (object : Object) (start len : ℕ) → Agree space kernel name object → is_inside start len ≡ true → Takes (waked kernel name object start len (answer_of_wake (wake_answer space start len))) space name
wake-taken space kernel name object start len agree inside = wakes space kernel name object start len space.object.enabled (is_bad_range start len) agree inside (is-enabled agree) refl
