-- The phase of a world is Complete exactly where the migration is complete, and a new world is a first world.
use Rattle.std.proofs.lemmas.Bool.Decides.{nat_tests}
use Rattle.std.proofs.Common.{◌≡◌, ℕ, ◌||◌, Bool, true, false, eqb, ltb, [], sym, ap, ◌∙◌, if◌then◌else◌, arith}
use Rattle.std.specs.Prelude.{Ok, Err}
use Rattle.std.specs.Ordering.{nat_cmp}
use Rattle.std.specs.FinMap.{len, len-empty}
use Rattle.mig_base.specs.declared.TheConstants.{MAX_CPUS}
use Rattle.mig_base.specs.declared.phase.SourcePhase.{SourcePhase}
use Rattle.mig_base.specs.declared.refusal.Refusal.{Refusal}
use Rattle.mig_base.specs.declared.phase.WorldPhase.{WorldPhase}
use Rattle.mig_model.specs.Migration.{World, first_world_with}
use Rattle.mig_model.specs.Source.{is_released}
use Rattle.mig_model.specs.Views.{new_world_with, owed_left, phase_by, phase_of}
use Rattle.mig_model.specs.Promises.{IsReached, IsComplete}
use Rattle.mig_model.proofs.steps.EveryStep.{kept-reached}
use Rattle.mig_model.proofs.transcript.PromiseLemmas.{complete_ran, is_alone}

is_complete : WorldPhase → Bool
is_complete WorldPhase.Complete = true
is_complete _ = false

told_by : (phase : SourcePhase) (switched ran : Bool) → is_complete (phase_by phase switched ran) ≡ is_released phase
unfolding is_complete
told_by phase switched ran = grind (arith, nat_tests)

released_is : (phase : SourcePhase) (switched ran : Bool) → is_released phase ≡ true → phase_by phase switched ran ≡ WorldPhase.Complete
released_is phase switched ran h = grind (arith, nat_tests)

pub phase_complete : (world : World) → (phase_of world ≡ WorldPhase.Complete → IsComplete world) × (IsComplete world → phase_of world ≡ WorldPhase.Complete)
unfolding is_complete
phase_complete world = (
  λ h. sym (told_by world.source.phase world.source.switched world.destination.has_run) ∙ ap is_complete h,
  λ done. released_is world.source.phase world.source.switched world.destination.has_run done,
)

made_new : (wrong : Bool) (cpus epoch rounds : ℕ) (world : World) → (if wrong then Err Refusal.NoCpu else Ok (first_world_with cpus epoch rounds)) ≡ Ok world → world ≡ first_world_with cpus epoch rounds
made_new wrong cpus epoch rounds world h = grind (arith, nat_tests)

pub new_reached : (cpus epoch rounds : ℕ) (world : World) → new_world_with cpus epoch rounds ≡ Ok world → IsReached world
new_reached cpus epoch rounds world h = record { cpus = cpus; epoch = epoch; rounds = rounds; steps = []; is = made_new (eqb cpus 0 || ltb MAX_CPUS cpus) cpus epoch rounds world h }

-- a migration that is complete has nothing left
pub complete_left : (world : World) → IsReached world → IsComplete world → owed_left world ≡ 0
complete_left world reached done =
    let kept = kept-reached world reached in
    ap (λ b. if b then len world.destination.owed else world.source.packaged) (complete_ran world kept done) ∙ ap len (is_alone world kept done).none_owed ∙ len-empty nat_cmp ℕ
