-- The pages that the source has mapped lie in the address space, and there are not too many, after every step.
use Rattle.std.proofs.lemmas.Bool.Decides.{nat_tests}
use Rattle.std.proofs.Common.{◌≡◌, ℕ, Bool, true, false, refl, sym, subst, arith}
use Rattle.mig_base.specs.declared.command.Command.{Command}
use Rattle.mig_base.specs.declared.message.Message.{Message}
use Rattle.mig_base.specs.declared.schedule.Side.{Side}
use Rattle.mig_base.specs.declared.schedule.Step.{Step}
use Rattle.mig_base.specs.Commands.{is_access}
use Rattle.mig_base.specs.declared.act.Act.{Act}
use Rattle.mig_model.specs.Guest.{Guest, read_guest, tried}
use Rattle.mig_model.specs.Wire.{Frame}
use Rattle.mig_model.specs.Source.{Source, source_acted_by, source_took, space_of}
use Rattle.mig_model.specs.Migration.{World, guest_by, next, with_guest_by}
use Rattle.mig_model.specs.Invariant.{IsSoundWorld}
use Rattle.mig_model.specs.Bounds.{IsMapping}
use Rattle.mig_model.proofs.memory.MappingLemmas.{IsMapping-after, IsMapping-empty, host_tried}
use Rattle.mig_model.proofs.invariant.SourceKept.{source_holds}
use Rattle.mig_model.proofs.steps.StepCases.{MakesWorld, made-next}

abbrev pub IsMapped : Source → Type 0
IsMapped node = IsMapping (space_of node).host.areas

-- the source holds the flat memory until the destination has run
command_mapped : (ran : Bool) (world : World) (cpu : ℕ) (command : Command) → world.destination.has_run ≡ ran → IsSoundWorld world → IsMapped world.source →
    IsMapped (with_guest_by ran world (tried (is_access command) (guest_by ran world.source.guest world.destination.guest) cpu command)).source
command_mapped true world cpu command is kept h = h
command_mapped false world cpu command is kept h =
    host_tried (λ host. IsMapping host.areas) (is_access command) (space_of world.source) cpu command h
    (IsMapping-after (space_of world.source).host world.transcript cpu command kept.spaces.source_space.host (source_holds world kept is))

pub read_host : (guest : Guest) (cpu : ℕ) (message : Message) → (read_guest guest cpu message).space.host ≡ guest.space.host
read_host guest cpu message = grind (arith, nat_tests)

acted_mapped : (act : Act) (node : Source) (page : ℕ) → IsMapped node → IsMapped (source_acted_by act node page)
acted_mapped act node page h = grind (arith, nat_tests)

took_mapped : (frame : Frame) (switched : Bool) (node : Source) → IsMapped node → IsMapped (source_took (record node { switched = switched }) frame)
took_mapped frame switched node h = grind (arith, nat_tests, IsMapping-empty)

mapped-answer : (world : World) (step : Step) → IsSoundWorld world → IsMapped world.source → MakesWorld (λ new. IsMapped new.source) world step
mapped-answer world (Step.Issue cpu command) kept h = λ there idle may. command_mapped world.destination.has_run world cpu command refl kept h
mapped-answer world (Step.Retry cpu) kept h = λ command waits woken may. command_mapped world.destination.has_run world cpu command refl kept h
mapped-answer world Step.SourceRead kept h = λ noted is started unswitched. subst (λ host. IsMapping host.areas) (sym (read_host world.source.guest noted.cpu noted.message)) h
mapped-answer world Step.SourceAct kept h = λ fault rest is started unswitched quiet. acted_mapped _ world.source fault.page h
mapped-answer world (Step.Deliver n) kept h = ((λ sent rest is short. h), (λ sent rest is full started up free early. h))
mapped-answer world (Step.DeliverBack n) kept h = ((λ sent rest is short. h), (λ sent rest is full started up. took_mapped sent.frame world.source.switched world.source h))
mapped-answer world (Step.DeliverUrgent n) kept h = ((λ sent rest is short. h), (λ sent rest is full ran up. h))
mapped-answer world (Step.Notice Side.Source) kept h = λ started unreleased down. h
mapped-answer world _ kept h = assumption

pub mapped-next : (world : World) (step : Step) → IsSoundWorld world → IsMapped world.source → IsMapped (next world step).source
mapped-next world step kept h = made-next (λ new. IsMapped new.source) world step h (mapped-answer world step kept h)
