-- Every world that some list of steps leads to is within its bounds.
use Rattle.std.proofs.lemmas.Bool.Decides.{nat_tests}
use Rattle.std.proofs.Common.{◌≡◌, ℕ, Bool, false, List, [], ◌∷◌, sym, ◌∙◌, subst, length, arith}
use Rattle.std.proofs.lemmas.List.{length-replicate}
use Rattle.mig_base.specs.declared.cpu_state.CpuState.{CpuState}
use Rattle.mig_base.specs.declared.schedule.Step.{Step}
use Rattle.mig_model.specs.Migration.{World, after_steps, first_world_with, guest_by, next}
use Rattle.mig_model.specs.Space.{Space}
use Rattle.mig_model.specs.Guest.{Guest}
use Rattle.mig_model.specs.Invariant.{AreSoundUrgent, IsSoundWorld}
use Rattle.mig_model.specs.Promises.{IsReached}
use Rattle.mig_model.specs.Bounds.{AreUrgentFew, HasBoundedMemory, IsMapping}
use Rattle.mig_model.proofs.invariant.CpuCount.{as_many_next}
use Rattle.mig_model.proofs.steps.EveryStep.{kept-next}
use Rattle.mig_model.proofs.steps.FirstWorld.{kept-first}
use Rattle.mig_model.proofs.memory.MappingLemmas.{IsMapping-empty, IsMapping-guest, flat_within}
use Rattle.mig_model.proofs.invariant.OpenObjects.{HasOpenObjects, open-first, open-next}
use Rattle.mig_model.proofs.transcript.RightCommands.{AreRight, right-first, right-next}
use Rattle.mig_model.proofs.invariant.SourceMapped.{IsMapped, mapped-next}
use Rattle.mig_model.proofs.invariant.UrgentFew.{few-first, few-next}
use Rattle.mig_model.proofs.invariant.UrgentSteps.{urgent-first, urgent-next}

-- what is kept of processors and frames
pub record IsReady (cpus : ℕ) (world : World) : Type 0 where
  pub kept : IsSoundWorld world
  pub few : AreUrgentFew world
  pub right : AreRight world
  pub many : length world.source.guest.cpus ≡ cpus

-- all that is kept together
pub record IsBounded (cpus : ℕ) (world : World) : Type 0 where
  pub ready : IsReady cpus world
  pub urgent : AreSoundUrgent world
  pub mapped : IsMapped world.source
  pub opened : HasOpenObjects world

pub bounded-first : (cpus epoch rounds : ℕ) → IsBounded cpus (first_world_with cpus epoch rounds)
bounded-first cpus epoch rounds =
    record {
      ready = record {
        kept = kept-first cpus epoch rounds;
        few = few-first cpus epoch rounds;
        right = right-first cpus epoch rounds;
        many = length-replicate cpus CpuState.Idle;
      };
      urgent = urgent-first cpus epoch rounds;
      mapped = IsMapping-empty;
      opened = open-first cpus epoch rounds;
    }

pub bounded-next : (cpus : ℕ) (world : World) (step : Step) → IsBounded cpus world → IsBounded cpus (next world step)
bounded-next cpus world step old =
    let ready = old.ready in
    record {
      ready = record {
        kept = kept-next world step ready.kept old.urgent;
        few = few-next world step ready.kept old.urgent ready.few;
        right = right-next world step ready.kept ready.right;
        many = as_many_next world step ready.kept ∙ ready.many;
      };
      urgent = urgent-next world step ready.kept old.urgent;
      mapped = mapped-next world step ready.kept old.mapped;
      opened = open-next world step ready.kept old.opened;
    }

bounded-after_steps : (cpus : ℕ) (world : World) (steps : List Step) → IsBounded cpus world → IsBounded cpus (after_steps world steps)
bounded-after_steps cpus world [] old = old
bounded-after_steps cpus world (step ∷ steps) old = bounded-after_steps cpus (next world step) steps (bounded-next cpus world step old)

pub bounded-reached : (world : World) (reached : IsReached world) → IsBounded reached.cpus world
bounded-reached world reached =
    subst (IsBounded reached.cpus) (sym reached.is)
    (bounded-after_steps reached.cpus (first_world_with reached.cpus reached.epoch reached.rounds) reached.steps (bounded-first reached.cpus reached.epoch reached.rounds))

-- Memory

-- the destination has nothing mapped until it has run, and runs the guest from then on
destination_by : (ran : Bool) (from to : Guest) → (ran ≡ false → IsMapping to.space.host.areas) → IsMapping (guest_by ran from to).space.host.areas → IsMapping to.space.host.areas
destination_by ran from to bare runs = grind (arith, nat_tests)

pub has_memory : (cpus : ℕ) (world : World) → IsBounded cpus world → HasBoundedMemory world
has_memory cpus world all =
    let kept = all.ready.kept in
    record {
      source = all.mapped;
      destination = destination_by world.destination.has_run world.source.guest world.destination.guest
          (λ bare. subst (λ (space : Space). IsMapping space.host.areas) (sym (kept.owing.not_run bare).1) IsMapping-empty) (IsMapping-guest world kept);
      flat = flat_within world.transcript;
    }

pub memory_bounded : (world : World) → IsReached world → HasBoundedMemory world
memory_bounded world reached = has_memory reached.cpus world (bounded-reached world reached)
