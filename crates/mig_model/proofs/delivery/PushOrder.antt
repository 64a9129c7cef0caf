-- After a Push no Switch of its epoch is made, and no Recv of its epoch is taken.
use Rattle.std.proofs.lemmas.Bool.Decides.{nat_tests}
use Rattle.std.proofs.Common.{◌≡◌, ℕ, ◌<◌, Bool, true, false, not, List, ◌∷◌, refl, ◌⊎◌, inr, arith, IsOk}
use Rattle.mig_base.specs.declared.phase.SourcePhase.{SourcePhase}
use Rattle.mig_base.specs.declared.schedule.Step.{Step}
use Rattle.mig_base.specs.declared.schedule.Ticket.{Ticket}
use Rattle.mig_model.specs.Wire.{Sent}
use Rattle.mig_model.specs.Invariant.{IsSoundWorld, SwitchedAt, AreSoundUrgent}
use Rattle.mig_model.proofs.steps.EveryStep.{by_steps, kept-next}
use Rattle.mig_model.proofs.invariant.SourceRounds.{precopy_unswitched}
use Rattle.mig_model.proofs.steps.WokenSteps.{stopped_switched}
use Rattle.mig_model.specs.Source.{Source, is_source_idle, is_source_paused, is_stopped}
use Rattle.mig_model.specs.Migration.{World, after_steps, next, outcome}
use Rattle.mig_model.specs.Promises.{is_recv}
use Rattle.mig_model.proofs.steps.StepCases.{MakesWorld, made-next, made-ok}
use Rattle.mig_model.proofs.invariant.UrgentSteps.{urgent-next}

-- what holds after a push in an epoch: a later epoch has begun, or the source has switched in that epoch, and is not paused while the
-- link is up, so that it takes no Recv
abbrev HasPushed : ℕ → ℕ → Bool → SourcePhase → Bool → Type 0
HasPushed pushed epoch switched phase up = (pushed < epoch) ⊎ ((epoch ≡ pushed) × (switched ≡ true) × (up ≡ true → is_source_paused phase ≡ false))

abbrev PushedIn : ℕ → World → Type 0
PushedIn pushed world = HasPushed pushed world.source.epoch world.source.switched world.source.phase world.up

-- the parts of a source that tell it
record IsAlike (old new : Source) : Type 0 where
  epoch : new.epoch ≡ old.epoch
  switched : new.switched ≡ old.switched
  phase : new.phase ≡ old.phase

pub idle_unswitched : (phase : SourcePhase) (switched : Bool) → is_source_idle phase ≡ true → SwitchedAt phase switched → switched ≡ false
idle_unswitched phase switched h at = grind (arith, nat_tests)

-- a later epoch alone is left, where the source has not switched
later : {A : Type 0} (pushed epoch : ℕ) (switched : Bool) (phase : SourcePhase) (up : Bool) → switched ≡ false → HasPushed pushed epoch switched phase up → (pushed < epoch → A) → A
later pushed epoch switched phase up not h more = grind (arith, nat_tests)

pushed_answer : (pushed : ℕ) (world : World) (step : Step) → IsSoundWorld world → PushedIn pushed world → MakesWorld (PushedIn pushed) world step
pushed_answer pushed world step kept h = grind (arith, nat_tests)

pushed_steps : (pushed : ℕ) (world : World) (steps : List Step) → IsSoundWorld world → AreSoundUrgent world → PushedIn pushed world → PushedIn pushed (after_steps world steps)
pushed_steps pushed world steps = by_steps (PushedIn pushed) (λ old step kept urgent h. made-next (PushedIn pushed) old step h (pushed_answer pushed old step kept h)) world steps

stopped_not_paused : (phase : SourcePhase) → is_stopped phase ≡ true → is_source_paused phase ≡ false
stopped_not_paused phase h = grind (arith, nat_tests)

-- an accepted Push, and any steps after it
pub pushed_before : (world : World) (ticket : Ticket) (steps : List Step) → IsSoundWorld world → AreSoundUrgent world → IsOk (outcome world (Step.Push ticket)) → PushedIn world.source.epoch (after_steps (next world (Step.Push ticket)) steps)
pushed_before world ticket steps kept urgent ok =
    pushed_steps world.source.epoch (next world (Step.Push ticket)) steps (kept-next world (Step.Push ticket) kept urgent) (urgent-next world (Step.Push ticket) kept urgent)
    (made-ok (PushedIn world.source.epoch) world (Step.Push ticket)
    (λ stopped up own present remains.
    inr (refl, stopped_switched world.source.phase world.source.switched stopped kept.phases.source_phase, λ u. stopped_not_paused world.source.phase stopped)) ok)

-- an accepted PushUrgent, and any steps after it
pub urgent_before : (world : World) (ticket : Ticket) (steps : List Step) → IsSoundWorld world → AreSoundUrgent world → IsOk (outcome world (Step.PushUrgent ticket)) → PushedIn world.source.epoch (after_steps (next world (Step.PushUrgent ticket)) steps)
urgent_before world ticket steps kept urgent ok =
    pushed_steps world.source.epoch (next world (Step.PushUrgent ticket)) steps (kept-next world (Step.PushUrgent ticket) kept urgent) (urgent-next world (Step.PushUrgent ticket) kept urgent)
    (made-ok (PushedIn world.source.epoch) world (Step.PushUrgent ticket)
    (λ stopped up own present remains.
    inr (refl, stopped_switched world.source.phase world.source.switched stopped kept.phases.source_phase, λ u. stopped_not_paused world.source.phase stopped)) ok)

not_later : (pushed epoch : ℕ) → epoch ≡ pushed → pushed < epoch → ⊥
not_later pushed epoch same more = omega (arith, same, more)

-- so no Switch is accepted in that epoch
pub no_switch : (pushed : ℕ) (world : World) → IsSoundWorld world → PushedIn pushed world → world.source.epoch ≡ pushed → IsOk (outcome world Step.Switch) → ⊥
no_switch pushed world kept h same ok =
    made-ok (λ new. ⊥) world Step.Switch
    (λ precopy up quiet.
    later pushed world.source.epoch world.source.switched world.source.phase world.up (precopy_unswitched world.source.phase world.source.switched precopy kept.phases.source_phase) h (not_later pushed world.source.epoch same)) ok

-- and no Recv is on the wire back
pub no_recv_taken : (pushed : ℕ) (world : World) (sent : Sent) (rest : List Sent) → IsSoundWorld world → PushedIn pushed world → world.source.epoch ≡ pushed → world.up ≡ true → world.back.frames ≡ sent ∷ rest → is_recv sent.frame ≡ true → ⊥
no_recv_taken pushed world sent rest kept h same up first is = grind (arith, nat_tests)
