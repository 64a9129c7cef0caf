-- A command that waits is a load or a store.
use Rattle.std.proofs.lemmas.Bool.Decides.{nat_tests}
use Rattle.std.proofs.Common.{◌≡◌, ℕ, zero, suc, Bool, true, false, Some, List, [], ◌∷◌, refl, sym, ap, ◌∙◌, subst, arith}
use Rattle.std.specs.Prelude.{map, set, length}
use Rattle.std.proofs.lemmas.Option.{none-some}
use lib.ListN.{length-map, length-set}
use Rattle.mig_base.specs.declared.cpu_state.CpuState.{CpuState}
use Rattle.mig_base.specs.declared.schedule.Step.{Step}
use Rattle.mig_base.specs.declared.command.Command.{Command}
use Rattle.mig_base.specs.declared.message.Message.{Message}
use Rattle.mig_base.specs.declared.message.Message.TheVariants.{PageFault}
use Rattle.mig_base.specs.Commands.{is_access}
use Rattle.mig_model.specs.Space.{Space}
use Rattle.mig_model.specs.Guest.{Guest, read_guest, took_by, tried}
use Rattle.mig_model.specs.Wire.{Frame, Sent}
use Rattle.mig_model.specs.Wire.Frame.{Package}
use Rattle.mig_model.specs.Migration.{World, next, guest_by, with_guest_by}
use Rattle.mig_model.proofs.steps.StepWorlds.{after_deliver, after_command}
use Rattle.mig_model.specs.Invariant.{IsSoundWorld}
use Rattle.mig_model.specs.Promises.{IsReached, AllAccess, AreAccesses}
use Rattle.mig_model.proofs.transcript.WaitingCommands.{idle_at, package_next, taken_keeps, waits_read, woken_waits}
use Rattle.mig_model.proofs.steps.WokenSteps.{takes, wakes-next, woken_many}
use Rattle.mig_model.proofs.steps.EveryStep.{by_reached}
use Rattle.mig_model.proofs.steps.StepCases.{made-next}
use Rattle.mig_model.specs.Cpus.{idle_processors, outstanding, processor_after, processor_at, taken_over}
use Rattle.mig_model.specs.Source.{commands_of}

-- A command that is tried

tried_access : (access : Bool) (space : Space) (command other : Command) → access ≡ is_access command → outstanding (processor_after command (took_by access space command)) ≡ Some other → is_access other ≡ true
tried_access access space command other is h = grind (arith, nat_tests)

set_access : (processors : List CpuState) (i : ℕ) (new : CpuState) → ((command : Command) → outstanding new ≡ Some command → is_access command ≡ true) → AllAccess processors → AllAccess (set processors i new)
set_access [] i new one all k command h = all k command h
set_access (p ∷ ps) zero new one all zero command h = one command h
set_access (p ∷ ps) zero new one all (suc k) command h = all (suc k) command h
set_access (p ∷ ps) (suc i) new one all zero command h = all zero command h
set_access (p ∷ ps) (suc i) new one all (suc k) command h = set_access ps i new one (λ j c e. all (suc j) c e) k command h

guest_access : (guest : Guest) (cpu : ℕ) (command : Command) → AllAccess guest.cpus → AllAccess (tried (is_access command) guest cpu command).cpus
guest_access guest cpu command all = set_access guest.cpus cpu _ (λ other h. tried_access (is_access command) guest.space command other refl h) all

-- only loads and stores wait, and the nodes have as many processors
record Wait (world : World) : Type 0 where
  source : AllAccess world.source.guest.cpus
  destination : AllAccess world.destination.guest.cpus
  many : length world.destination.guest.cpus ≡ length world.source.guest.cpus

by_guest : (ran : Bool) (world : World) (cpu : ℕ) (command : Command) → Wait world → Wait (with_guest_by ran world (tried (is_access command) (guest_by ran world.source.guest world.destination.guest) cpu command))
by_guest true world cpu command all =
    record { source = all.source; destination = guest_access world.destination.guest cpu command all.destination; many = length-set {A = CpuState} world.destination.guest.cpus cpu _ ∙ all.many }
by_guest false world cpu command all =
    record { source = guest_access world.source.guest cpu command all.source; destination = all.destination; many = all.many ∙ sym (length-set {A = CpuState} world.source.guest.cpus cpu _) }

tried_all : (world : World) (cpu : ℕ) (command : Command) → Wait world → Wait (after_command world cpu command)
tried_all world cpu command all = let new = by_guest world.destination.has_run world cpu command all in record { source = new.source; destination = new.destination; many = new.many }

all_like : (old new : List CpuState) → ((k : ℕ) → outstanding (processor_at new k) ≡ outstanding (processor_at old k)) → AllAccess old → AllAccess new
all_like old new like all k command h = all k command (sym (like k) ∙ h)

pub read_many : (guest : Guest) (cpu : ℕ) (message : Message) → length (read_guest guest cpu message).cpus ≡ length guest.cpus
read_many guest cpu (PageFault addr write wp tid) = refl
read_many guest cpu _ = simp (length-map, length-set)

-- the commands of a Package are those that wait at the source
taken_all : (frame : Frame) (epoch : ℕ) (rest : List Sent) (world : World) → IsSoundWorld world → world.up ≡ true → world.forward.frames ≡ record { epoch = epoch; frame = frame } ∷ rest → Wait world →
    Wait (after_deliver world (record { epoch = epoch; frame = frame }) rest)
taken_all (Package areas owed commands) epoch rest world kept up first all =
    let told = (package_next epoch areas owed commands rest world up first kept).0 in
    let processors = world.source.guest.cpus in
    record {
      source = all.source;
      destination = subst (λ cs. AllAccess (map taken_over cs)) (sym told) (all_like processors _ (taken_keeps processors) all.source);
      many = ap (λ cs. length (map taken_over cs)) told ∙ length-map (commands_of processors) taken_over ∙ length-map processors outstanding;
    }
taken_all frame epoch rest world kept up first all = grind (arith, nat_tests, takes, all_like, woken_waits, woken_many)

next_all : (world : World) (step : Step) → IsSoundWorld world → Wait world → Wait (next world step)
next_all world (Step.Issue cpu command) kept all = made-next Wait world (Step.Issue cpu command) all (λ there idle may. tried_all world cpu command all)
next_all world (Step.Retry cpu) kept all = made-next Wait world (Step.Retry cpu) all (λ command waits woken may. tried_all world cpu command all)
next_all world Step.SourceRead kept all =
    made-next Wait world Step.SourceRead all (λ noted is started unswitched.
    let guest = world.source.guest in
    record { source = all_like guest.cpus _ (waits_read guest noted.cpu noted.message) all.source; destination = all.destination; many = all.many ∙ sym (read_many guest noted.cpu noted.message) })
next_all world Step.DestRead kept all =
    made-next Wait world Step.DestRead all (λ noted is ran.
    let guest = world.destination.guest in
    record { source = all.source; destination = all_like guest.cpus _ (waits_read guest noted.cpu noted.message) all.destination; many = read_many guest noted.cpu noted.message ∙ all.many })
next_all world (Step.Deliver n) kept all = made-next Wait world (Step.Deliver n) all ((assumption), (λ sent rest is full started up free early. taken_all sent.frame sent.epoch rest world kept up is all))
next_all world step kept all =
    let wakes = wakes-next world step kept refl in
    record {
      source = all_like _ _ (woken_waits _ _ wakes.source.woken) all.source;
      destination = all_like _ _ (woken_waits _ _ wakes.node.guest.woken) all.destination;
      many = woken_many _ _ wakes.node.guest.woken ∙ all.many ∙ sym (woken_many _ _ wakes.source.woken);
    }

idle_all : (count : ℕ) → AllAccess (idle_processors count)
idle_all count k command h = absurd (none-some command (sym (ap outstanding (idle_at count k)) ∙ h))

waits : (world : World) → IsReached world → Wait world
waits world reached =
    by_reached Wait (λ old step kept urgent all. next_all old step kept all) (λ cpus epoch rounds. record { source = idle_all cpus; destination = idle_all cpus; many = refl }) world reached

pub are_accesses : (world : World) → IsReached world → AreAccesses world
are_accesses world reached = let all = waits world reached in record { source = all.source; destination = all.destination }

-- both nodes have as many processors
pub as_many : (world : World) → IsReached world → length world.destination.guest.cpus ≡ length world.source.guest.cpus
as_many world reached = (waits world reached).many
