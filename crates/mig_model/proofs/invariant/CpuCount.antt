-- No step changes how many processors the source has.
use Rattle.std.proofs.Common.{◌≡◌, ℕ, Bool, true, false, refl, length}
use Rattle.mig_base.specs.declared.command.Command.{Command}
use Rattle.mig_base.specs.declared.schedule.Step.{Step}
use Rattle.mig_base.specs.Commands.{is_access}
use Rattle.mig_model.specs.Guest.{tried}
use Rattle.mig_model.specs.Migration.{World, guest_by, next, with_guest_by}
use Rattle.mig_model.proofs.steps.StepCases.{made-next}
use Rattle.mig_model.proofs.steps.WokenSteps.{wakes-next, woken_many}
use Rattle.mig_base.specs.declared.cpu_state.CpuState.{CpuState}
use Rattle.mig_model.specs.Invariant.{IsSoundWorld}
use lib.ListN.{length-set}
use Rattle.mig_model.proofs.transcript.WaitingAccesses.{read_many}

abbrev HasAsMany : World → World → Type 0
HasAsMany old new = length new.source.guest.cpus ≡ length old.source.guest.cpus

guest_many : (ran : Bool) (world : World) (cpu : ℕ) (command : Command) → HasAsMany world (with_guest_by ran world (tried (is_access command) (guest_by ran world.source.guest world.destination.guest) cpu command))
guest_many true world cpu command = refl
guest_many false world cpu command = length-set {A = CpuState} world.source.guest.cpus cpu _

pub as_many_next : (world : World) (step : Step) → IsSoundWorld world → length (next world step).source.guest.cpus ≡ length world.source.guest.cpus
as_many_next world (Step.Issue cpu command) kept = made-next (HasAsMany world) world (Step.Issue cpu command) refl (λ there idle may. guest_many world.destination.has_run world cpu command)
as_many_next world (Step.Retry cpu) kept = made-next (HasAsMany world) world (Step.Retry cpu) refl (λ command waits woken may. guest_many world.destination.has_run world cpu command)
as_many_next world Step.SourceRead kept = made-next (HasAsMany world) world Step.SourceRead refl (λ noted is started unswitched. read_many world.source.guest noted.cpu noted.message)
as_many_next world Step.DestRead kept = made-next (HasAsMany world) world Step.DestRead refl (λ noted is ran. refl)
as_many_next world (Step.Deliver n) kept = made-next (HasAsMany world) world (Step.Deliver n) refl ((λ sent rest is short. refl), (λ sent rest is full started up free early. refl))
as_many_next world step kept = woken_many _ _ (wakes-next world step kept refl).source.woken
