-- End is refused exactly where a page remains.
use Rattle.std.proofs.lemmas.Bool.Decides.{nat_tests}
use Rattle.std.proofs.Common.{◌≡◌, ℕ, ◌||◌, Bool, true, false, not, eqb, is_some, if◌then◌else◌, [], ◌∷◌, ap, ◌∙◌, arith}
use Rattle.std.specs.Prelude.{Result, Ok, Err}
use Rattle.std.specs.FinSet.{contains}
use Rattle.mig_base.specs.declared.TheConstants.{HIGH_PAGE}
use Rattle.mig_base.specs.declared.effect.Effect.{Effect}
use Rattle.mig_base.specs.declared.refusal.Refusal.{Refusal}
use Rattle.mig_base.specs.declared.schedule.Step.{Step}
use Rattle.foundation.proofs.RangeLemmas.{least_below-none, least_below-some}
use Rattle.mig_model.specs.Log.{least_of}
use Rattle.mig_model.specs.Source.{Source, end_sent as ending, is_stopped, space_of}
use Rattle.mig_model.specs.Migration.{World, outcome, outcome_by, source_sends}
use Rattle.mig_model.specs.NodeSteps.{Sends, sent, unless}
use Rattle.mig_model.specs.SourceSteps as source
use Rattle.mig_model.specs.Wire.Frame.{End}
use Rattle.mig_model.proofs.steps.StepLemmas.{is-up}
use Rattle.mig_model.specs.Invariant.{IsSoundWorld}
use Rattle.mig_model.proofs.delivery.FrameFaults.{sound_below}

by_tests : (stopped unended left : Bool) (result : Result (Sends Source) Refusal) → stopped ≡ true → unended ≡ false → unless ((not stopped || unended, Refusal.Phase) ∷ (left, Refusal.PagesLeft) ∷ []) result ≡ (if left then Err Refusal.PagesLeft else result)
unfolding unless
by_tests stopped unended left result s o = grind (arith, nat_tests)

end_by : (world : World) (left : Bool) → is_stopped world.source.phase ≡ true → eqb world.source.end_epoch world.source.epoch ≡ false → world.up ≡ true → is_some (least_of world.source.remaining) ≡ left →
    outcome world Step.End ≡ (if left then Err Refusal.PagesLeft else Ok Effect.EndSent)
unfolding outcome
end_by world left stopped unended up is =
    let ends = by_tests (is_stopped world.source.phase) (eqb world.source.end_epoch world.source.epoch) (is_some (least_of world.source.remaining)) _ stopped unended in
    ap (λ r. outcome_by (source_sends world r)) (is-up world.up (source.end world.source) up ∙ ends) ∙ ended left (is_some (least_of world.source.remaining)) is
  where
    ended : (other test : Bool) → test ≡ other → outcome_by (source_sends world (if test then Err Refusal.PagesLeft else sent Effect.EndSent (End world.source.urgent_sent ∷ []) (ending world.source))) ≡ (if other then Err Refusal.PagesLeft else Ok Effect.EndSent)
    ended other test same = grind (arith, nat_tests)

pub end_left : (world : World) (q : ℕ) → IsSoundWorld world → is_stopped world.source.phase ≡ true → eqb world.source.end_epoch world.source.epoch ≡ false → world.up ≡ true → contains world.source.remaining q ≡ true → outcome world Step.End ≡ Err Refusal.PagesLeft
end_left world q kept stopped unended up left =
    end_by world true stopped unended up
    (least_below-some (contains world.source.remaining) HIGH_PAGE q (sound_below (space_of world.source) kept.spaces.source_space q (kept.pushing.remaining_present q left)) left)

pub end_sent : (world : World) → is_stopped world.source.phase ≡ true → eqb world.source.end_epoch world.source.epoch ≡ false → world.up ≡ true → ((q : ℕ) → contains world.source.remaining q ≡ false) → outcome world Step.End ≡ Ok Effect.EndSent
end_sent world stopped unended up none =
    end_by world false stopped unended up (ap is_some (least_below-none (contains world.source.remaining) HIGH_PAGE (λ q low. none q)))
