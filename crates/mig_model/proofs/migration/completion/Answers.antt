use Rattle.std.proofs.Common.{IsOk, subst, sym}
use Rattle.mig_model.specs.Migration.{after_steps, next, outcome}
use Rattle.mig_model.specs.Promises.{IsComplete}
use Rattle.mig_model.proofs.steps.EveryStep.{kept-reached, urgent-reached, kept-after_steps, complete-after_steps}
use Rattle.mig_model.proofs.delivery.WirePromises.{completes_by, completes_only}
use Rattle.mig_model.proofs.transcript.PromiseLemmas.{is_alone}
use Rattle.mig_model.proofs.migration.completion.Goals as goal

pub returns-clause-alone : goal.returns-clause-alone
returns-clause-alone c world reached done = is_alone world (kept-reached world reached) done

pub returns-clause-stays : goal.returns-clause-stays
returns-clause-stays c world steps reached done =
    let kept = kept-reached world reached in
    let urgent = urgent-reached world reached in
    let still = complete-after_steps world steps kept urgent done in
    (still, is_alone (after_steps world steps) (kept-after_steps world steps kept urgent) still)

pub returns-clause-taken : goal.returns-clause-taken
returns-clause-taken c world step ok done =
    subst (λ it. IsOk (outcome world it) → IsComplete (next world it)) (sym done.step_is) (λ accepted. completes_by world done.n done.sent done.rest accepted done.first done.full done.last) ok

pub returns-clause-only : goal.returns-clause-only
returns-clause-only c world step not done = completes_only world step not done
