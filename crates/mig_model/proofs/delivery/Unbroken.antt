-- Without a break the Package that is taken is that of the Switch, and what is kept then is what was clean at the source.
use Rattle.std.proofs.lemmas.Bool.Decides.{nat_tests}
use Rattle.std.proofs.Common.{◌≡◌, true, false, cond, not, ℕ, Option, Some, None, is_some, List, [], ◌∷◌, ◌++◌, refl, sym, ap, ◌∙◌, IsOk, if◌then◌else◌, arith}
use Rattle.std.specs.Prelude.{Ok}
use Rattle.std.specs.FinMap.{get}
use Rattle.std.specs.FinSet.{contains}
use Rattle.std.proofs.lemmas.Bool.{false≢true}
use Rattle.mig_base.specs.declared.command.Command.{Command}
use Rattle.mig_base.specs.declared.effect.Effect.{Effect}
use Rattle.mig_base.specs.declared.phase.DestPhase.{DestPhase}
use Rattle.mig_base.specs.declared.phase.SourcePhase.{SourcePhase}
use Rattle.mig_base.specs.declared.schedule.Side.{Side}
use Rattle.mig_base.specs.declared.schedule.Step.{Step}
use Rattle.mig_model.specs.Host.{Host}
use Rattle.mig_model.specs.Wire.{Frame, Sent}
use Rattle.mig_model.specs.Wire.Frame.{Package}
use Rattle.mig_model.specs.Source.{Source, commands_of, is_precopy, is_stopped, not_clean, space_of}
use Rattle.mig_model.specs.Migration.{World, after_steps, next, outcome, runs}
use Rattle.mig_model.proofs.steps.StepWorlds.{after_command, after_deliver}
use Rattle.mig_model.specs.Effects.{frame_effect}
use Rattle.mig_model.specs.Guest.{is_changing}
use Rattle.mig_model.specs.Whereabouts.{is_package, package_in}
use Rattle.mig_model.specs.Invariant.{IsSoundWorld}
use Rattle.mig_model.specs.Promises.{IsReached}
use Rattle.mig_model.specs.Unbroken.{StaysUp, KeepsClean}
use Rattle.mig_model.proofs.steps.EveryStep.{kept-reached}
use Rattle.mig_model.proofs.memory.Facts.{no_event}
use Rattle.mig_model.proofs.invariant.FirstFrame.{empty_not}
use Rattle.mig_model.proofs.delivery.FlightPromises.{none_precopy, owed_at}
use Rattle.mig_model.proofs.steps.ReachedLemmas.{reached-after_steps, reached-next}
use Rattle.mig_model.proofs.steps.StepCases.{MakesWorld, made-next, made-ok, made-effect}
use Rattle.mig_model.proofs.invariant.Stopping.{in_phases}
use Rattle.mig_model.proofs.invariant.UrgentWire.{idle_unstopped, not_stopped, precopy_unstopped}
use Rattle.mig_model.proofs.steps.WokenSteps.{handles, installs, takes_urgent}
use Rattle.mig_model.proofs.invariant.WireLemmas.{package_in-append, has_package}

-- From the Switch until the destination runs

-- the source is stopped with the pages that it had, and its Package is in flight
record HasSwitched (host : Host) (frame_sent : Frame) (world : World) : Type 0 where
  stopped : is_stopped world.source.phase ≡ true
  host_is : (space_of world.source).host ≡ host
  package_is : package_in world.forward.frames ≡ Some frame_sent

-- until the destination runs
abbrev Awaits : Host → Frame → World → Type 0
Awaits host frame_sent world = world.destination.has_run ≡ false → HasSwitched host frame_sent world

abbrev AwaitsUp : Host → Frame → World → Type 0
AwaitsUp host frame_sent world = world.up ≡ true → Awaits host frame_sent world

unstopped : {A : Type 0} (host : Host) (frame_sent : Frame) (world : World) → HasSwitched host frame_sent world → is_stopped world.source.phase ≡ false → A
unstopped host frame_sent world now not = absurd (false≢true (sym not ∙ now.stopped))

-- no command is tried
no_command : (host : Host) (frame_sent : Frame) (world : World) (cpu : ℕ) (command : Command) → IsSoundWorld world → runs world ≡ true → Awaits host frame_sent world → Awaits host frame_sent (after_command world cpu command)
no_command host frame_sent world cpu command kept may h ran = grind (arith, nat_tests)

-- a frame is taken: with the Package the destination runs
taken_awaits : (host : Host) (frame_sent : Frame) (epoch : ℕ) (frame : Frame) (rest : List Sent) (world : World) → world.forward.frames ≡ record { epoch = epoch; frame = frame } ∷ rest → Awaits host frame_sent world →
    Awaits host frame_sent (after_deliver world (record { epoch = epoch; frame = frame }) rest)
taken_awaits host frame_sent epoch frame rest world first h ran = grind (arith, nat_tests)

-- nothing comes back
no_back : (from : SourcePhase) (to : DestPhase) (world : World) → is_stopped from ≡ true → world.up ≡ true → world.destination.has_run ≡ false → IsSoundWorld (in_phases from to world) → world.back.frames ≡ []
no_back from to world stopped up ran kept = grind (arith, nat_tests)

-- more frames after the Package
sent_more : (host : Host) (frame_sent : Frame) (world : World) (more : List Sent) → HasSwitched host frame_sent world → package_in (world.forward.frames ++ more) ≡ Some frame_sent
sent_more host frame_sent world more now = (has_package world.destination.kept world.forward.frames more frame_sent now.package_is).same ∙ now.package_is

awaits_answer : (host : Host) (frame_sent : Frame) (world : World) (step : Step) → IsSoundWorld world → world.up ≡ true → Awaits host frame_sent world → MakesWorld (AwaitsUp host frame_sent) world step
awaits_answer host frame_sent world (Step.Issue cpu command) kept linked h = λ there idle may up. no_command host frame_sent world cpu command kept may h
awaits_answer host frame_sent world (Step.Retry cpu) kept linked h = λ command is woken may up. no_command host frame_sent world cpu command kept may h
awaits_answer host frame_sent world Step.Start kept linked h = λ idle unused up ran. unstopped host frame_sent world (h ran) (idle_unstopped world.source.phase idle)
awaits_answer host frame_sent world Step.Round kept linked h = λ precopy quiet up ran. unstopped host frame_sent world (h ran) (precopy_unstopped world.source.phase precopy)
awaits_answer host frame_sent world Step.Send kept linked h = λ page is precopy link quiet up ran. unstopped host frame_sent world (h ran) (precopy_unstopped world.source.phase precopy)
awaits_answer host frame_sent world (Step.SendRun count) kept linked h = λ first number is many precopy link quiet up ran. unstopped host frame_sent world (h ran) (precopy_unstopped world.source.phase precopy)
awaits_answer host frame_sent world Step.SourceRead kept linked h = grind (arith, nat_tests, unstopped, not_stopped)
awaits_answer host frame_sent world Step.SourceAct kept linked h = grind (arith, nat_tests, unstopped, not_stopped)
awaits_answer host frame_sent world Step.Switch kept linked h = λ precopy link quiet up ran. unstopped host frame_sent world (h ran) (precopy_unstopped world.source.phase precopy)
awaits_answer host frame_sent world (Step.Deliver n) kept linked h = grind (arith, nat_tests, taken_awaits)
awaits_answer host frame_sent world (Step.DeliverBack n) kept linked h = grind (arith, nat_tests, empty_not, no_back)
awaits_answer host frame_sent world Step.DestRead kept linked h = λ noted is runs up ran. absurd (false≢true (sym ran ∙ runs))
awaits_answer host frame_sent world Step.DestAct kept linked h = grind (arith, nat_tests, handles)
awaits_answer host frame_sent world Step.Install kept linked h = grind (arith, nat_tests, installs)
awaits_answer host frame_sent world (Step.Push ticket) kept linked h =
    λ stopped link own present remains up ran. let now = h ran in record { stopped = now.stopped; host_is = now.host_is; package_is = sent_more host frame_sent world _ now }
awaits_answer host frame_sent world (Step.PushUrgent ticket) kept linked h = grind (arith, nat_tests)
awaits_answer host frame_sent world (Step.DeliverUrgent n) kept linked h = grind (arith, nat_tests, takes_urgent)
awaits_answer host frame_sent world Step.Serve kept linked h = grind (arith, nat_tests)
awaits_answer host frame_sent world Step.End kept linked h =
    λ stopped other link none up ran. let now = h ran in record { stopped = now.stopped; host_is = now.host_is; package_is = sent_more host frame_sent world _ now }
awaits_answer host frame_sent world Step.Break kept linked h = λ started unreleased link up. absurd (false≢true up)
awaits_answer host frame_sent world (Step.Notice Side.Source) kept linked h = λ started unreleased down. absurd (false≢true (sym down ∙ linked))
awaits_answer host frame_sent world (Step.Notice Side.Destination) kept linked h = λ started unreleased down. absurd (false≢true (sym down ∙ linked))
awaits_answer host frame_sent world Step.Resume kept linked h = λ from to down unused. absurd (false≢true (sym down ∙ linked))

awaits_steps : (host : Host) (frame_sent : Frame) (world : World) (steps : List Step) → IsReached world → world.up ≡ true → StaysUp world steps → Awaits host frame_sent world →
    ((after_steps world steps).up ≡ true) × Awaits host frame_sent (after_steps world steps)
awaits_steps host frame_sent world [] reached linked stays h = (linked, h)
awaits_steps host frame_sent world (step ∷ steps) reached linked stays h =
    awaits_steps host frame_sent (next world step) steps (reached-next world step reached) stays.0 stays.1
    (made-next (AwaitsUp host frame_sent) world step (λ up. h) (awaits_answer host frame_sent world step (kept-reached world reached) linked h) stays.0)

-- The Switch

no_package_by : (o : Option Frame) → (is_some o ≡ true → ⊥) → o ≡ None
no_package_by o not = grind (arith, nat_tests)

none_before : (from : SourcePhase) (to : DestPhase) (world : World) → is_precopy from ≡ true → world.up ≡ true → IsSoundWorld (in_phases from to world) → is_some (package_in world.forward.frames) ≡ true → ⊥
none_before from to world precopy up kept there = grind (arith, nat_tests, none_precopy)

-- a frame after a wire with no Package
sent_first : (wire : List Sent) (sent : Sent) → package_in wire ≡ None → package_in (wire ++ sent ∷ []) ≡ package_in (sent ∷ [])
sent_first wire sent none = package_in-append wire (sent ∷ []) ∙ ap (λ o. if is_some o then o else package_in (sent ∷ [])) none

-- the Package of a Switch
abbrev package_of : Source → Frame
package_of source = Package (space_of source).host.areas (not_clean source) (commands_of source.guest.cpus)

switch_awaits : (world : World) → IsSoundWorld world → IsOk (outcome world Step.Switch) → Awaits (space_of world.source).host (package_of world.source) (next world Step.Switch)
switch_awaits world kept ok =
    made-ok (Awaits (space_of world.source).host (package_of world.source)) world Step.Switch
    (λ precopy up quiet ran.
    let before = no_package_by (package_in world.forward.frames) (none_before world.source.phase world.destination.phase world precopy up kept) in
    record { stopped = refl; host_is = refl; package_is = sent_first (world.forward.frames ++ _ ∷ []) _ (sent_first world.forward.frames _ before) }) ok

-- what an accepted Switch was asked
switch_free : (world : World) → IsOk (outcome world Step.Switch) → (is_precopy world.source.phase ≡ true) × (world.up ≡ true) × (is_changing world.source.guest ≡ false)
switch_free world ok =
    made-ok (λ new. (is_precopy world.source.phase ≡ true) × (world.up ≡ true) × (is_changing world.source.guest ≡ false)) world Step.Switch (λ precopy up quiet. (precopy, up, quiet)) ok

switch_up : (world : World) → IsOk (outcome world Step.Switch) → (next world Step.Switch).up ≡ true
switch_up world ok = made-ok (λ new. new.up ≡ true) world Step.Switch (λ precopy up quiet. up) ok

-- The Package is taken

record IsPackageFirst (world : World) : Type 0 where
  sent : Sent
  rest : List Sent
  first : world.forward.frames ≡ sent ∷ rest
  is : is_package sent.frame ≡ true

takes_package : (frame : Frame) (owed : ℕ) → frame_effect frame ≡ Effect.TookPackage owed → is_package frame ≡ true
takes_package frame owed h = grind (arith, nat_tests)

package_first : (world : World) (n owed : ℕ) → outcome world (Step.Deliver n) ≡ Ok (Effect.TookPackage owed) → IsPackageFirst world
package_first world n owed answered =
    made-effect (λ effect new. effect ≡ Effect.TookPackage owed → IsPackageFirst world) world (Step.Deliver n) (Effect.TookPackage owed)
    ((λ sent rest is short h. absurd (cc)), (λ sent rest is full started up free early h. record { sent = sent; rest = rest; first = is; is = takes_package sent.frame owed h })) answered refl

-- what is kept where the Package of a source comes next
kept_then : (source : Source) (now : World) → IsSoundWorld now → now.up ≡ true → IsPackageFirst now → Awaits (space_of source).host (package_of source) now → (page : ℕ) →
    get now.destination.kept page ≡ cond (contains (not_clean source) page) None (get (space_of source).host.bytes page)
kept_then source now sound up first awaits page = grind (arith, nat_tests)

keeps_by : (world now : World) → IsSoundWorld world → is_precopy world.source.phase ≡ true → is_changing world.source.guest ≡ false →
    ((page : ℕ) → get now.destination.kept page ≡ cond (contains (not_clean world.source) page) None (get (space_of world.source).host.bytes page)) → KeepsClean world now
keeps_by world now kept precopy quiet all = grind (arith, nat_tests, owed_at, no_event)

pub keeps_clean : (world : World) (steps : List Step) (n owed : ℕ) → IsReached world → IsOk (outcome world Step.Switch) → StaysUp (next world Step.Switch) steps →
    outcome (after_steps (next world Step.Switch) steps) (Step.Deliver n) ≡ Ok (Effect.TookPackage owed) → KeepsClean world (after_steps (next world Step.Switch) steps)
keeps_clean world steps n owed reached ok stays answered =
    let kept = kept-reached world reached in
    let free = switch_free world ok in
    let start = next world Step.Switch in
    let started = reached-next world Step.Switch reached in
    let told = awaits_steps (space_of world.source).host (package_of world.source) start steps started (switch_up world ok) stays (switch_awaits world kept ok) in
    keeps_by world (after_steps start steps) kept free.0 free.2
    (kept_then world.source (after_steps start steps) (kept-reached (after_steps start steps) (reached-after_steps start steps started)) told.0 (package_first (after_steps start steps) n owed answered) told.1)
