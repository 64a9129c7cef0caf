-- What each step does to the settled relation: a map call changes it as it changes the pages, an install takes away its own pair, and
-- no other step changes it.
use Rattle.std.proofs.lemmas.Bool.Decides.{nat_tests}
use Rattle.std.proofs.Common.{◌≡◌, ℕ, ◌/◌, ◌*◌, Bool, true, false, cond, eqb, Option, Some, None, List, [], ◌∷◌, refl, sym, ap, ◌∙◌, if◌then◌else◌, IsOk, arith}
use Rattle.std.specs.Prelude.{Ok}
use Rattle.std.specs.Ordering.{nat_cmp}
use Rattle.std.specs.Cmp.{nat_cmp_total, unsigned_tied}
use Rattle.std.specs.FinMap as finmap
use Rattle.std.specs.FinMap.{FinMap, get}
use Rattle.std.proofs.lemmas.Bool.{false≢true}
use Rattle.mig_base.specs.declared.effect.Effect.{Effect}
use Rattle.mig_base.specs.declared.schedule.Side.{Side}
use Rattle.mig_base.specs.declared.schedule.Step.{Step}
use Rattle.mig_base.specs.declared.command.Command.{Command}
use Rattle.mig_base.specs.declared.command.Access.{Access}
use Rattle.mig_base.specs.Flat.{reply_of}
use Rattle.mig_base.specs.Commands.{is_access}
use Rattle.mig_model.specs.Host.{memory}
use Rattle.mig_base.specs.Userfault.{Noted, next_of}
use Rattle.mig_model.specs.Space.{Space, accessed_by}
use Rattle.mig_base.specs.declared.act.Act.{Act}
use Rattle.mig_model.specs.Guest.{tried}
use Rattle.mig_model.specs.Wire.{Frame, Sent, Copy}
use Rattle.mig_model.specs.Migration.{World, with_guest_by, guest_by, next, outcome, guest_of, runs}
use Rattle.mig_model.specs.Effects.{install_effect}
use Rattle.mig_model.proofs.steps.StepWorlds.{after_command, after_dest_read}
use Rattle.mig_model.specs.Promises.{AreFaults}
use Rattle.mig_model.specs.Invariant.{IsSoundWorld, AreWholeEvents}
use Rattle.mig_model.specs.Promises.{owed_changed, leaves_settled, AreAccesses}
use Rattle.mig_model.proofs.owed.SettledLemmas.{settled_by-applied}
use Rattle.mig_model.proofs.owed.TriedLemmas.{settled_then}
use Rattle.mig_model.proofs.steps.WokenSteps.{TakesFrame, takes_urgent}
use Rattle.mig_model.proofs.steps.StepCases.{MakesWorld, made-next, made-ok, made-effect}
use Rattle.mig_model.proofs.invariant.DestinationRead.{ready_of}
use Rattle.mig_model.specs.Cpus.{outstanding, processor_at}
use Rattle.mig_model.specs.Owed.{home, settled_by}
use Rattle.mig_model.specs.Destination.{Destination, destination_act, destination_acted_by, destination_took, install_by, settled}
use Rattle.mig_model.proofs.memory.Facts.{some_is, dropped_not, page_again, no_event}

-- A map call at the destination

called_by : (ran access : Bool) (world : World) (cpu : ℕ) (command : Command) → ran ≡ true → access ≡ false → IsSoundWorld world → (page : ℕ) →
    settled (with_guest_by ran world (tried access (guest_by ran world.source.guest world.destination.guest) cpu command)).destination page
    ≡ owed_changed (settled world.destination) command (reply_of (memory world.destination.guest.space.host) command) page
called_by ran access world cpu command runs is kept page = grind (arith, nat_tests, settled_then, ready_of)

pub settled_call : (world : World) (cpu : ℕ) (command : Command) → IsSoundWorld world → world.destination.has_run ≡ true → is_access command ≡ false → (page : ℕ) →
    IsOk (outcome world (Step.Issue cpu command)) → settled (next world (Step.Issue cpu command)).destination page ≡ owed_changed (settled world.destination) command (reply_of (memory world.destination.guest.space.host) command) page
settled_call world cpu command kept ran is page ok =
    made-ok (λ new. settled new.destination page ≡ owed_changed (settled world.destination) command (reply_of (memory world.destination.guest.space.host) command) page) world (Step.Issue cpu command)
    (λ there idle may. called_by world.destination.has_run (is_access command) world cpu command ran is kept page) ok

-- A message that is read

abbrev at_queues : List Noted → List Noted → World → World
at_queues faults events world =
    record world {
      destination = record world.destination {
        guest = record world.destination.guest { space = record world.destination.guest.space { object = record world.destination.guest.space.object { faults = faults; events = events } } };
      };
    }

read_settled : (faults events : List Noted) (noted : Noted) (world : World) → next_of faults events ≡ Some noted → AreFaults faults → AreWholeEvents events → (page : ℕ) →
    settled (after_dest_read (at_queues faults events world) noted).destination page ≡ settled (at_queues faults events world).destination page
read_settled faults events noted world is are right page = grind (arith, nat_tests, some_is, settled_by-applied)

-- A load or store

pub accessed_events : (access : Access) (space : Space) (cpu : ℕ) (command : Command) → (accessed_by access space cpu command).object.events ≡ space.object.events
accessed_events access space cpu command = grind (arith, nat_tests)

settled_try : (world : World) (cpu : ℕ) (command : Command) → world.destination.has_run ≡ true → is_access command ≡ true → (page : ℕ) → settled (after_command world cpu command).destination page ≡ settled world.destination page
settled_try world cpu command ran is page = grind (arith, nat_tests)

-- the relation is what it was
abbrev SettledAs : World → ℕ → World → Type 0
SettledAs world page new = settled new.destination page ≡ settled world.destination page

pub settled_access : (world : World) (cpu : ℕ) (command : Command) → world.destination.has_run ≡ true → is_access command ≡ true → (page : ℕ) → settled (next world (Step.Issue cpu command)).destination page ≡ settled world.destination page
settled_access world cpu command ran is page = made-next (SettledAs world page) world (Step.Issue cpu command) refl (λ there idle may. settled_try world cpu command ran is page)

-- An install takes away its own pair

same_installed : (a b c d : ℕ) → Effect.Installed a b ≡ Effect.Installed c d → a ≡ c
same_installed a b c d h = cc

without_pair : (owed : FinMap nat_cmp ℕ) (page q : ℕ) → get (finmap.remove owed page) q ≡ (if eqb q page then None else get owed q)
without_pair owed page q = finmap.get-remove nat_cmp_total owed page q ∙ ap (λ b. cond b None (get owed q)) (unsigned_tied q page)

installed_by : (o : Option ℕ) (copy : Copy) (rest : List Copy) (world : World) (addr source : ℕ) → world.destination.guest.space.object.events ≡ [] → install_effect o copy.page ≡ Effect.Installed addr source → (page : ℕ) →
    settled (install_by o world.destination copy rest) page ≡ (if eqb page (addr / 4096) then None else settled world.destination page)
installed_by None copy rest world addr source quiet same page = absurd (dropped_not (4096 * copy.page) addr source same)
installed_by (Some here) copy rest world addr source quiet same page =
    let at = page_again here addr (same_installed (4096 * here) (4096 * copy.page) addr source same) in
    ap (λ events. settled_by events (get (finmap.remove world.destination.owed here)) page) quiet
    ∙ without_pair world.destination.owed here page
    ∙ ap (λ p. if eqb page p then None else get world.destination.owed page) at
    ∙ ap (λ o. if eqb page (addr / 4096) then None else o) (sym (ap (λ events. settled_by events (get world.destination.owed) page) quiet))

pub settled_install : (world : World) (addr source : ℕ) → outcome world Step.Install ≡ Ok (Effect.Installed addr source) → (page : ℕ) →
    settled (next world Step.Install).destination page ≡ (if eqb page (addr / 4096) then None else settled world.destination page)
settled_install world addr source answered page =
    made-effect (λ effect new. effect ≡ Effect.Installed addr source → settled new.destination page ≡ (if eqb page (addr / 4096) then None else settled world.destination page)) world Step.Install (Effect.Installed addr source)
    (λ copy rest first ran quiet same.
    installed_by (home world.destination.owed copy.page) copy rest world addr source (no_event world.destination.guest.space.object.events quiet) same page) answered refl

-- Any other step

waits_here : (world : World) (cpu : ℕ) (command : Command) → AreAccesses world → world.destination.has_run ≡ true → outstanding (processor_at (guest_of world).cpus cpu) ≡ Some command → is_access command ≡ true
waits_here world cpu command waits ran is = grind (arith, nat_tests)

acted_settled : (act : Act) (node : Destination) (fault page : ℕ) → settled (destination_acted_by act node fault) page ≡ settled node page
acted_settled act node fault page = grind (arith, nat_tests)

taken_settled : (old new : Destination) (page : ℕ) → TakesFrame old new → settled new page ≡ settled old page
taken_settled old new page is = ap (λ events. settled_by events (get new.owed) page) is.node.guest.events ∙ ap (λ owed. settled_by old.guest.space.object.events (get owed) page) is.owed

-- a destination that has run takes no Package
frame_settled : (frame : Frame) (epoch : ℕ) (rest : List Sent) (world : World) → IsSoundWorld world → world.up ≡ true → world.destination.has_run ≡ true → world.forward.frames ≡ record { epoch = epoch; frame = frame } ∷ rest → (page : ℕ) →
    settled (destination_took world.destination epoch frame) page ≡ settled world.destination page
frame_settled frame epoch rest world kept up ran first page = grind (arith, nat_tests)

settled_answer : (world : World) (step : Step) → IsSoundWorld world → AreAccesses world → world.destination.has_run ≡ true → leaves_settled step ≡ true → (page : ℕ) → MakesWorld (SettledAs world page) world step
settled_answer world (Step.Issue cpu command) kept waits ran leaves page = λ there idle may. settled_try world cpu command ran leaves page
settled_answer world (Step.Retry cpu) kept waits ran leaves page = grind (arith, nat_tests, settled_try, waits_here)
settled_answer world Step.Install kept waits ran leaves page = absurd (false≢true leaves)
settled_answer world (Step.Deliver n) kept waits ran leaves page = ((λ sent rest is short. refl), (λ sent rest is full started up free early. frame_settled sent.frame sent.epoch rest world kept up ran is page))
settled_answer world Step.DestRead kept waits ran leaves page =
    λ noted is runs. read_settled world.destination.guest.space.object.faults world.destination.guest.space.object.events noted world is kept.spaces.destination_faults kept.spaces.destination_events page
settled_answer world Step.DestAct kept waits ran leaves page = λ fault rest is runs quiet. acted_settled (destination_act world.destination fault) world.destination fault.page page
settled_answer world (Step.DeliverUrgent n) kept waits ran leaves page = ((λ sent rest is short. refl), (λ sent rest is full runs up. taken_settled _ _ page (takes_urgent sent.frame world.destination)))
settled_answer world (Step.Notice Side.Source) kept waits ran leaves page = assumption
settled_answer world _ kept waits ran leaves page = assumption

pub settled_else : (world : World) (step : Step) → IsSoundWorld world → AreAccesses world → world.destination.has_run ≡ true → leaves_settled step ≡ true → (page : ℕ) → settled (next world step).destination page ≡ settled world.destination page
settled_else world step kept waits ran leaves page = made-next (SettledAs world page) world step refl (settled_answer world step kept waits ran leaves page)

-- A copy that is dropped leaves the relation as it is

dropped_by : (o : Option ℕ) (copy : Copy) (rest : List Copy) (world : World) (source page : ℕ) → install_effect o copy.page ≡ Effect.Dropped source → settled (install_by o world.destination copy rest) page ≡ settled world.destination page
dropped_by o copy rest world source page same = grind (arith, nat_tests)

pub settled_dropped : (world : World) (source page : ℕ) → outcome world Step.Install ≡ Ok (Effect.Dropped source) → settled (next world Step.Install).destination page ≡ settled world.destination page
settled_dropped world source page answered =
    made-effect (λ effect new. effect ≡ Effect.Dropped source → settled new.destination page ≡ settled world.destination page) world Step.Install (Effect.Dropped source)
    (λ copy rest first ran quiet same. dropped_by (home world.destination.owed copy.page) copy rest world source page same) answered refl
