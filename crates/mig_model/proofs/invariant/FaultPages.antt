-- The pages of faults, unread and held, are pages that may be mapped.
use Rattle.std.proofs.lemmas.Bool.Decides.{nat_tests}
use Rattle.std.proofs.Common.{◌≡◌, ℕ, ◌*◌, ◌/◌, Bool, true, Option, Some, List, [], ◌∷◌, ◌++◌, refl, sym, ap, ◌∙◌, arith}
use Rattle.foundation.specs.declared.TheConstants.{PAGE_SIZE}
use Rattle.mig_base.specs.declared.command.Access.{Access}
use Rattle.mig_base.specs.declared.command.Access.TheVariants.{Answered, Missing, Protected}
use Rattle.mig_base.specs.declared.command.Command.{Command}
use Rattle.mig_base.specs.declared.message.Message.{Message}
use Rattle.mig_base.specs.declared.message.Message.TheVariants.{PageFault}
use Rattle.mig_base.specs.declared.schedule.Side.{Side}
use Rattle.mig_base.specs.declared.schedule.Step.{Step}
use Rattle.mig_base.specs.Commands.{is_access, page_of}
use Rattle.mig_base.specs.Userfault.{Noted, Object, fault_queued, next_message, next_of}
use Rattle.mig_model.specs.Space.{Space, access_of, accessed_by}
use Rattle.mig_model.specs.Cpus.{access_took}
use Rattle.mig_base.specs.declared.act.Act.{Act}
use Rattle.mig_model.specs.Guest.{Fault, held_after, space_by, tried}
use Rattle.mig_model.specs.Owed.{home}
use Rattle.mig_model.specs.Wire.{Copy, Frame}
use Rattle.mig_model.specs.Source.{source_act, source_acted_by, source_took, space_of}
use Rattle.mig_model.specs.Destination.{destination_act, destination_acted_by, destination_took, install_by, urgent_took}
use Rattle.mig_model.specs.Migration.{World, after_steps, answer, guest_by, next, with_guest_by}
use Rattle.mig_model.proofs.steps.StepWorlds.{after_dest_read, after_source_read}
use Rattle.mig_model.specs.Invariant.{AreWholeEvents, IsSoundWorld}
use Rattle.mig_model.specs.Promises.{IsReached}
use Rattle.mig_model.specs.Bounds.{IsMapping, IsPage}
use Rattle.mig_model.proofs.invariant.Bounded.{IsBounded, bounded-first, bounded-next, has_memory}
use Rattle.mig_model.proofs.memory.Registering.{pages_again}
use Rattle.mig_model.proofs.transcript.RightCommands.{right_slept, IsInside}
use Rattle.mig_model.proofs.steps.StepCases.{holds-made}
use Rattle.mig_model.proofs.steps.StepLemmas.{Leaves, leaves-next}

-- a message that waits, if it is of a page fault
abbrev pub IsFaultPage : Message → Type 0
IsFaultPage (PageFault addr write wp tid) = IsPage (addr / PAGE_SIZE)
IsFaultPage message = Unit {0}

abbrev pub AreFaultPages : List Noted → Type 0
AreFaultPages [] = Unit {0}
AreFaultPages (noted ∷ rest) = IsFaultPage noted.message × AreFaultPages rest

-- faults that a handler has read
abbrev pub AreHeldPages : List Fault → Type 0
AreHeldPages [] = Unit {0}
AreHeldPages (fault ∷ rest) = IsPage fault.page × AreHeldPages rest

-- Commands

pub access_page : (command : Command) → IsInside command → IsPage (page_of command)
access_page command is = grind (arith, nat_tests)

pages-push : (faults : List Noted) (noted : Noted) → AreFaultPages faults → IsFaultPage noted.message → AreFaultPages (faults ++ noted ∷ [])
pages-push [] noted are is = (is, tt)
pages-push (first ∷ faults) noted are is = (are.0, pages-push faults noted are.1 is)

fault_pages : (object : Object) (page : ℕ) (write wp : Bool) (cpu : ℕ) → IsPage page → AreFaultPages object.faults → AreFaultPages (fault_queued object (4096 * page) write wp cpu).faults
fault_pages object page write wp cpu is are = grind (arith, nat_tests, pages-push, pages_again)

slept_page : (space : Space) (command : Command) (access : Access) → access_of space command ≡ access → access_took access ≡ access_took Missing → is_access command ≡ true → IsMapping space.host.areas → IsPage (page_of command)
slept_page space command access is sleeps accesses mapping = access_page command (right_slept true space command (sym accesses) mapping (ap access_took is ∙ sleeps))

accessed_pages : (access : Access) (space : Space) (cpu : ℕ) (command : Command) → access_of space command ≡ access → is_access command ≡ true → IsMapping space.host.areas → AreFaultPages space.object.faults →
    AreFaultPages (accessed_by access space cpu command).object.faults
accessed_pages (Answered reply) space cpu command is accesses mapping are = are
accessed_pages Missing space cpu command is accesses mapping are = fault_pages space.object (page_of command) _ _ cpu (slept_page space command Missing is refl accesses mapping) are
accessed_pages Protected space cpu command is accesses mapping are = fault_pages space.object (page_of command) _ _ cpu (slept_page space command Protected is refl accesses mapping) are

tried_pages : (access : Bool) (space : Space) (cpu : ℕ) (command : Command) → is_access command ≡ access → IsMapping space.host.areas → AreFaultPages space.object.faults → AreFaultPages (space_by access space cpu command).object.faults
tried_pages access space cpu command is mapping are = grind (arith, nat_tests, accessed_pages)

-- Messages that are read

held-push : (held : List Fault) (fault : Fault) → AreHeldPages held → IsPage fault.page → AreHeldPages (held ++ fault ∷ [])
held-push [] fault are is = (is, tt)
held-push (first ∷ held) fault are is = (are.0, held-push held fault are.1 is)

held_pages : (message : Message) (held : List Fault) → IsFaultPage message → AreHeldPages held → AreHeldPages (held_after held message)
held_pages message held is are = grind (arith, nat_tests, held-push)

-- the message that is read next is of a page that may be mapped, if it is of a fault
next_page : (faults events : List Noted) (noted : Noted) → next_of faults events ≡ Some noted → AreFaultPages faults → AreWholeEvents events → IsFaultPage noted.message
next_page faults events noted is are right = grind (arith, nat_tests)

-- Both nodes

pub record AreInside (from : List Noted) (from_held : List Fault) (to : List Noted) (to_held : List Fault) : Type 0 where
  pub source : AreFaultPages from
  pub source_held : AreHeldPages from_held
  pub destination : AreFaultPages to
  pub destination_held : AreHeldPages to_held

abbrev pub HasFaultsInside : World → Type 0
HasFaultsInside world = AreInside (space_of world.source).object.faults world.source.log.held world.destination.guest.space.object.faults world.destination.held

with_source : {from : List Noted} {from_held : List Fault} {to : List Noted} {to_held : List Fault} (faults : List Noted) (held : List Fault) → AreFaultPages faults → AreHeldPages held →
    AreInside from from_held to to_held → AreInside faults held to to_held
with_source faults held queued read h = record { source = queued; source_held = read; destination = h.destination; destination_held = h.destination_held }

guest_inside : (ran : Bool) (world : World) (cpu : ℕ) (command : Command) → IsMapping (space_of world.source).host.areas → IsMapping world.destination.guest.space.host.areas → HasFaultsInside world →
    HasFaultsInside (with_guest_by ran world (tried (is_access command) (guest_by ran world.source.guest world.destination.guest) cpu command))
guest_inside ran world cpu command from to h = grind (arith, nat_tests, tried_pages)

acted_inside : (act : Act) (world : World) (page : ℕ) → HasFaultsInside world → HasFaultsInside (record world { source = source_acted_by act world.source page })
acted_inside act world page h = grind (arith, nat_tests)

handled_inside : (act : Act) (world : World) (page : ℕ) → HasFaultsInside world → HasFaultsInside (record world { destination = destination_acted_by act world.destination page })
handled_inside act world page h = grind (arith, nat_tests)

installed_inside : (o : Option ℕ) (world : World) (copy : Copy) (rest : List Copy) → HasFaultsInside world → HasFaultsInside (record world { destination = install_by o world.destination copy rest })
installed_inside o world copy rest h = grind (arith, nat_tests)

took_inside : (frame : Frame) (epoch : ℕ) (world : World) → HasFaultsInside world → HasFaultsInside (record world { destination = destination_took world.destination epoch frame })
took_inside frame epoch world h = grind (arith, nat_tests)

urgent_inside : (frame : Frame) (world : World) → HasFaultsInside world → HasFaultsInside (record world { destination = urgent_took world.destination frame })
urgent_inside frame world h = grind (arith, nat_tests)

back_inside : (frame : Frame) (world : World) → HasFaultsInside world → HasFaultsInside (record world { source = source_took world.source frame })
back_inside frame world h = grind (arith, nat_tests)

source_read_inside : (world : World) (noted : Noted) → IsSoundWorld world → next_message (space_of world.source).object ≡ Some noted → HasFaultsInside world → HasFaultsInside (after_source_read world noted)
source_read_inside world noted kept is h = grind (arith, nat_tests, held_pages, next_page)

dest_read_inside : (world : World) (noted : Noted) → IsSoundWorld world → next_message world.destination.guest.space.object ≡ Some noted → HasFaultsInside world → HasFaultsInside (after_dest_read world noted)
dest_read_inside world noted kept is h = grind (arith, nat_tests, held_pages, next_page)

-- Steps

inside-answer : (cpus : ℕ) (world : World) (step : Step) → IsBounded cpus world → HasFaultsInside world → Leaves HasFaultsInside (answer world step)
inside-answer cpus world (Step.Issue cpu command) all h = holds-made _ world (Step.Issue cpu command) (λ there idle may. guest_inside world.destination.has_run world cpu command all.mapped (has_memory cpus world all).destination h)
inside-answer cpus world (Step.Retry cpu) all h = holds-made _ world (Step.Retry cpu) (λ command waits woken may. guest_inside world.destination.has_run world cpu command all.mapped (has_memory cpus world all).destination h)
inside-answer cpus world Step.Start all h = holds-made _ world Step.Start (λ idle unused. h)
inside-answer cpus world Step.Round all h = holds-made _ world Step.Round (λ precopy quiet. h)
inside-answer cpus world Step.Send all h = holds-made _ world Step.Send (λ page is precopy up quiet. h)
inside-answer cpus world (Step.SendRun count) all h = holds-made _ world (Step.SendRun count) (λ first number is many precopy up quiet. h)
inside-answer cpus world Step.SourceRead all h = holds-made _ world Step.SourceRead (λ noted is started unswitched. source_read_inside world noted all.ready.kept is h)
inside-answer cpus world Step.SourceAct all h = holds-made _ world Step.SourceAct (λ fault rest is started unswitched quiet. acted_inside (source_act world.source fault) world fault.page h)
inside-answer cpus world Step.Switch all h = holds-made _ world Step.Switch (λ precopy up quiet. with_source [] [] tt tt h)
inside-answer cpus world (Step.Deliver n) all h = holds-made _ world (Step.Deliver n) ((λ sent rest is short. h), (λ sent rest is full started up free early. took_inside sent.frame sent.epoch world h))
inside-answer cpus world (Step.DeliverBack n) all h = holds-made _ world (Step.DeliverBack n) ((λ sent rest is short. h), (λ sent rest is full started up. back_inside sent.frame world h))
inside-answer cpus world Step.DestRead all h = holds-made _ world Step.DestRead (λ noted is ran. dest_read_inside world noted all.ready.kept is h)
inside-answer cpus world Step.DestAct all h = holds-made _ world Step.DestAct (λ fault rest is ran quiet. handled_inside (destination_act world.destination fault) world fault.page h)
inside-answer cpus world Step.Install all h = holds-made _ world Step.Install (λ copy rest is ran quiet. installed_inside (home world.destination.owed copy.page) world copy rest h)
inside-answer cpus world (Step.Push ticket) all h = holds-made _ world (Step.Push ticket) (λ stopped up own present remains. h)
inside-answer cpus world (Step.PushUrgent ticket) all h = holds-made _ world (Step.PushUrgent ticket) (λ stopped up own present remains. h)
inside-answer cpus world (Step.DeliverUrgent n) all h = holds-made _ world (Step.DeliverUrgent n) ((λ sent rest is short. h), (λ sent rest is full ran up. urgent_inside sent.frame world h))
inside-answer cpus world Step.Serve all h = holds-made _ world Step.Serve (λ page pages is stopped up. h)
inside-answer cpus world Step.End all h = holds-made _ world Step.End (λ stopped other up none. h)
inside-answer cpus world Step.Break all h = holds-made _ world Step.Break (λ started unreleased up. h)
inside-answer cpus world (Step.Notice Side.Source) all h = holds-made _ world (Step.Notice Side.Source) (λ started unreleased down. h)
inside-answer cpus world (Step.Notice Side.Destination) all h = holds-made _ world (Step.Notice Side.Destination) (λ started unreleased down. h)
inside-answer cpus world Step.Resume all h = holds-made _ world Step.Resume (λ from to down unused. h)

inside-after_steps : (cpus : ℕ) (world : World) (steps : List Step) → IsBounded cpus world → HasFaultsInside world → HasFaultsInside (after_steps world steps)
inside-after_steps cpus world [] all h = h
inside-after_steps cpus world (step ∷ steps) all h = grind (arith, nat_tests, bounded-next, leaves-next, inside-answer, inside-after_steps cpus (next world step) steps (bounded-next cpus world step all) (leaves-next HasFaultsInside world step h (inside-answer cpus world step all h)))

pub inside-reached : (world : World) → IsReached world → HasFaultsInside world
inside-reached world reached = grind (arith, nat_tests, inside-after_steps, bounded-first)
