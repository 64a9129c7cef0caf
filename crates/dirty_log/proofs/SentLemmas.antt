-- The pages that were sent may be mapped.
use Rattle.std.proofs.Common.{◌≡◌, ℕ, true, None, sym, ◌∙◌, ⊎_elim, arith}
use Rattle.std.specs.Ordering.{nat_cmp}
use Rattle.std.specs.FinSet.{FinSet, contains}
use Rattle.std.proofs.lemmas.Bool.{or_cases}
use Rattle.foundation.specs.Ranges.{in_range}
use Rattle.mig_base.specs.Sets.{with_range}
use Rattle.mig_base.proofs.SetLemmas.{member_with_range}
use Rattle.mig_model.specs.Bounds.{ArePages}
use Rattle.mig_model.specs.Log.{no_pages}
use Rattle.mig_model.specs.Space.{Space, IsSoundSpace}
use Rattle.mig_model.proofs.invariant.SourceKept.{no_page_absurd}
use Rattle.uffd_ioctl.specs.Lent.{IsLent}
use Rattle.dirty_log.specs.Answers.{send_refusal}
use Rattle.dirty_log.specs.Rounds.{HasComeTo}
use Rattle.dirty_log.proofs.KeptLemmas.{in_from, in_to}
use Rattle.dirty_log.proofs.SendLemmas.{page_of_present, page_there}

-- nothing was sent, and a round begins
pub begun : (todo sent : FinSet nat_cmp) → sent ≡ no_pages → HasComeTo todo 0 × ArePages sent
begun todo sent none = (record { inside = omega arith; none = λ page l. absurd (omega (arith, l)) }, λ page h. no_page_absurd sent page none h)

-- pages that can be sent
pub run_sent : (space : Space) (sent : FinSet nat_cmp) (first count : ℕ) → IsLent space → IsSoundSpace space → send_refusal space first count ≡ None → ArePages sent → ArePages (with_range sent first count)
run_sent space sent first count lent sound told old page h =
    ⊎_elim (λ (here : in_range first count page ≡ true). page_of_present space page lent sound (page_there space first count page told (in_from first count page here) (in_to first count page here))) (old page)
    (or_cases (in_range first count page) (contains sent page) (sym (member_with_range sent first count page) ∙ h))
