-- A source that goes back to pre-copy, or is released, is in order; and when all pages of a set are present.
use Rattle.std.proofs.Common.{◌≡◌, ℕ, ◌≤◌, ◌&&◌, Bool, eqb, ltb, not, true, false, refl, sym, ap, ◌∙◌, arith}
use Rattle.std.specs.FinSet as finset
use Rattle.std.specs.FinSet.{FinSet, contains}
use Rattle.std.specs.Ordering.{nat_cmp}
use Rattle.std.proofs.lemmas.Bool.{false≢true, false_from_ne_true, not-false}
use Rattle.std.proofs.lemmas.Bool.Decides.{nat_tests}
use Rattle.mig_base.specs.declared.TheConstants.{HIGH_PAGE}
use Rattle.mig_base.specs.declared.phase.SourcePhase.{SourcePhase}
use Rattle.mig_base.proofs.SetLemmas.{member_below}
use Rattle.mig_base.proofs.SetSizes.{len-some}
use Rattle.foundation.proofs.TestLemmas.{and_false}
use Rattle.mig_model.specs.Guest.{is_present}
use Rattle.mig_model.specs.Log.{Log, empty_log, forgotten, less, present}
use Rattle.mig_model.specs.Source.{is_released}
use Rattle.mig_model.specs.Space.{IsSoundSpace, Space, fresh_space}
use Rattle.mig_model.proofs.delivery.FrameFaults.{none_empty, present_below}
use Rattle.mig_model.proofs.invariant.Stopping.{member_less}
use Rattle.dirty_log.proofs.KeptLemmas.{none_clean}
use Rattle.precopy.specs.Order.{IsInOrder}
use Rattle.precopy.proofs.TodoLemmas.{none_todo}

-- a source that has not switched is not released
not_released : (phase : SourcePhase) (switched : Bool) (space : Space) (log : Log) → switched ≡ false → IsInOrder phase switched space log → is_released phase ≡ false
not_released phase switched space log is old = false_from_ne_true (is_released phase) (λ h. false≢true (sym is ∙ old.released h))

pub precopy_order : (phase : SourcePhase) (switched : Bool) (space : Space) (log now : Log) → switched ≡ false → now ≡ forgotten log → IsInOrder phase switched space log → IsInOrder SourcePhase.Precopy switched space now
precopy_order phase switched space log now is forgot old =
    record {
      lent = λ h. old.lent (not_released phase switched space log is old);
      clean = rw forgot (none_clean (forgotten log) space refl);
      todo = rw forgot (none_todo (forgotten log) space refl);
      stopped = λ h. absurd (false≢true h);
      released = λ h. absurd (false≢true h);
    }

-- a source that has switched is in order when it is released and has no memory left
pub released_order : (switched : Bool) → switched ≡ true → IsInOrder SourcePhase.Released switched fresh_space empty_log
released_order switched is =
    record {
      lent = λ h. absurd (false≢true (sym h));
      clean = none_clean empty_log fresh_space refl;
      todo = none_todo empty_log fresh_space refl;
      stopped = λ h. absurd (false≢true h);
      released = λ h. is;
    }

-- Pages that are present

out_by : (a b : Bool) → (a ≡ true → b ≡ true) → (a && not b) ≡ false
out_by a b h = grind (arith, nat_tests)

pub all_present : (space : Space) (pages : FinSet nat_cmp) → IsSoundSpace space → ((q : ℕ) → contains pages q ≡ true → is_present space q ≡ true) → eqb (finset.len (less pages (present space))) 0 ≡ true
all_present space pages sound h =
    not-false _ (none_empty (less pages (present space)) (λ q. member_less pages (present space) q ∙ out_by (contains pages q) (contains (present space) q) (λ is. present_below space sound q (h q is))))

some_left : (n : ℕ) → 1 ≤ n → eqb n 0 ≡ false
some_left n h = grind (arith, nat_tests)

absent : (space : Space) (q : ℕ) → is_present space q ≡ false → contains (present space) q ≡ false
absent space q h = member_below _ HIGH_PAGE q ∙ ap (λ b. ltb q HIGH_PAGE && b) h ∙ and_false (ltb q HIGH_PAGE)

pub one_missing : (space : Space) (pages : FinSet nat_cmp) (q : ℕ) → contains pages q ≡ true → is_present space q ≡ false → eqb (finset.len (less pages (present space))) 0 ≡ false
one_missing space pages q here gone =
    some_left _ (len-some (less pages (present space)) q (member_less pages (present space) q ∙ ap (λ b. b && not (contains (present space) q)) here ∙ ap not (absent space q gone)))
