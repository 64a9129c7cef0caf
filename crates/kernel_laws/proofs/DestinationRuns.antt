-- The log of a destination has a run, step by step.
use Rattle.std.proofs.lemmas.Bool.Decides.{nat_tests}
use Rattle.std.proofs.lemmas.Bool.{false≢true}
use Rattle.std.proofs.Common.{◌≡◌, ℕ, ◌*◌, Bool, true, false, Option, Some, None, List, [], ◌∷◌, ◌++◌, map, arith, refl, sym, ap, subst, ◌∙◌}
use Rattle.std.specs.Prelude.{Result, Ok, Err}
use Rattle.mig_base.specs.declared.act.Act.{Act}
use Rattle.mig_base.specs.declared.command.Command.{Command}
use Rattle.mig_base.specs.declared.effect.Effect.{Effect}
use Rattle.mig_base.specs.declared.phase.DestPhase.{DestPhase}
use Rattle.mig_base.specs.declared.refusal.Refusal.{Refusal}
use Rattle.mig_base.specs.declared.schedule.Side.{Side}
use Rattle.mig_base.specs.declared.schedule.Step.{Step}
use Rattle.mig_base.specs.Acts.{act_effect}
use Rattle.foundation.specs.Bits.{is_one}
use Rattle.mig_base.specs.Commands.{is_access, page_of}
use Rattle.foundation.proofs.TestLemmas.{and_first, and_second}
use Rattle.mig_base.specs.Userfault.{Noted, message_read, next_message}
use Rattle.mig_model.specs.Cpus.{outstanding, processor_at}
use Rattle.mig_model.specs.Destination.{Destination, destination_acted_by, destination_took, install_by, urgent_took}
use Rattle.mig_model.specs.Effects.{install_effect}
use Rattle.mig_model.specs.Faults.{is_in_place}
use Rattle.mig_model.specs.Guest.{Guest, is_changing, space_by, tried}
use Rattle.mig_model.specs.Ioctls.{event_features}
use Rattle.mig_model.specs.Invariant.{RanAt}
use Rattle.mig_model.specs.Migration.{World, guest_by, guest_of, next, outcome, with_guest_by}
use Rattle.mig_model.specs.Promises.{IsReached}
use Rattle.mig_model.specs.Space.{Space, accessed, called}
use Rattle.mig_model.specs.Wire.{Copy, Frame}
use Rattle.mig_model.specs.Whereabouts.{is_package}
use Rattle.mig_model.proofs.delivery.FramesTaken.{is_taken}
use Rattle.mig_model.proofs.invariant.Bounded.{bounded-reached, memory_bounded}
use Rattle.mig_model.proofs.invariant.FaultPages.{inside-reached}
use Rattle.mig_model.proofs.memory.HandlerCalls.{copy_installed, destination_forgets, destination_wakes, destination_zeroes}
use Rattle.mig_model.proofs.steps.PartsChanged.{changes_parts}
use Rattle.mig_model.proofs.steps.ReachedLemmas.{reached-next}
use Rattle.mig_model.proofs.steps.StepCases.{made-effect, made-next}
use Rattle.mig_model.proofs.steps.StepLemmas.{next-refused}
use Rattle.mig_model.proofs.transcript.WaitingAccesses.{are_accesses, as_many}
use Rattle.uffd_log.specs.declared.call.Descriptor.{Descriptor}
use Rattle.kernel_rules.specs.State.{may_be_outside}
use Rattle.kernel_laws.specs.Agreement.{Counterparts}
use Rattle.kernel_laws.specs.Logs.{AreFollowed, AreLogged, IsFollowed, Open, Running, act_call, calls_written, destination, destination_writes, install_call, is_followed, issue_written, keeps_off_all, lines_of_calls, log_of, map_call, read_written, space_after, under_way}
use Rattle.kernel_laws.proofs.Followed.{followed-copy, followed-wake, followed-zeropage, has-copy}
use Rattle.kernel_laws.proofs.LogRuns.{AreAll, Goes, Writes, copy-logged, no_thread_ids, stays, wake-logged, writes-calls, zeropage-logged, seen-quiet}
use Rattle.kernel_laws.proofs.Moves.{Kept, held-changing, held-next, idle, kept-by, makes, reads, tries, wrote-next}
use Rattle.kernel_laws.proofs.States.{Ends, Free, Next, State, counterpart, every-ends, free, held, log_begun, logged-from, run_world}
use Rattle.kernel_laws.proofs.DiscardRuns.{pending_for}
use Rattle.kernel_laws.proofs.MapRuns.{has_events_in, no-map-call}
use Rattle.kernel_laws.proofs.OpenCalls.{HasCalls, Pending, open_of}
use Rattle.kernel_laws.proofs.GuestCalls.{IsReady, free-changing, free-kept}

-- The state of a destination that runs, and a kernel whose object agrees, while no map call is under way
pub record At : Type 0 where
  pub world : World
  pub reached : IsReached world
  pub ran : world.destination.has_run ≡ true
  pub one : Counterparts
  pub same : one.space ≡ world.destination.guest.space
  pub told : HasCalls [] one
  pub on : Descriptor
  pub own : on.object ≡ one.name
  pub from : ℕ
  pub source : may_be_outside from 4096 ≡ false

-- DestAct
acted-space : (on : Descriptor) (act : Act) (node : Destination) (page addr : ℕ) → act_call on (act_effect act addr) ≡ [] → (destination_acted_by act node page).guest.space ≡ node.guest.space
acted-space on Act.Unprotected node page addr none = refl
acted-space on Act.Zeroed node page addr none = absurd (cc)
acted-space on Act.Woke node page addr none = refl
acted-space on Act.Forgot node page addr none = refl
acted-space on (Act.Requested origin) node page addr none = refl

no-act : (world : World) (on : Descriptor) (effect : Effect) → outcome world Step.DestAct ≡ Ok effect → act_call on effect ≡ [] → (next world Step.DestAct).destination.guest.space ≡ world.destination.guest.space
no-act world on effect is =
    made-effect (λ effect new. act_call on effect ≡ [] → new.destination.guest.space ≡ world.destination.guest.space) world Step.DestAct effect
    (λ fault rest first ran quiet. acted-space on _ world.destination fault.page (4096 * fault.page)) is

act-logged : (at : At) (key : ℕ) (effect : Effect) → outcome at.world Step.DestAct ≡ Ok effect →
    Goes [] [] at.one (lines_of_calls key (act_call at.on effect)) (next at.world Step.DestAct).destination.guest.space
act-logged at key (Effect.Zeroed addr) is =
    let world = at.world in
    let all = bounded-reached world at.reached in
    let new = (next world Step.DestAct).destination.guest in
    zeropage-logged at.one key at.on addr new.space tt at.own at.told (followed-zeropage at.one world.destination.guest new key addr at.same (destination_zeroes at.reached.cpus world addr all is))
act-logged at key (Effect.Woke addr) is =
    let world = at.world in
    let all = bounded-reached world at.reached in
    let new = (next world Step.DestAct).destination.guest in
    wake-logged at.one key at.on addr 4096 new.space tt at.own at.told (followed-wake at.one world.destination.guest new addr at.same (destination_wakes at.reached.cpus world addr all (inside-reached world at.reached) is))
act-logged at key (Effect.Forgot addr) is =
    let world = at.world in
    let all = bounded-reached world at.reached in
    let new = (next world Step.DestAct).destination.guest in
    wake-logged at.one key at.on addr 4096 new.space tt at.own at.told (followed-wake at.one world.destination.guest new addr at.same (destination_forgets at.reached.cpus world addr all (inside-reached world at.reached) is))
act-logged at key effect is =
    let world = at.world in
    stays at.one (next world Step.DestAct).destination.guest.space (at.same ∙ sym (no-act world at.on effect is refl)) at.told

-- Install
installed-space : (on : Descriptor) (from : ℕ) (home : Option ℕ) (node : Destination) (copy : Copy) (rest : List Copy) (origin : ℕ) → install_call on from (install_effect home origin) ≡ [] → (install_by home node copy rest).guest.space ≡ node.guest.space
installed-space on from None node copy rest origin none = refl
installed-space on from (Some page) node copy rest origin none = absurd (cc)

no-install : (world : World) (on : Descriptor) (from : ℕ) (effect : Effect) → outcome world Step.Install ≡ Ok effect → install_call on from effect ≡ [] → (next world Step.Install).destination.guest.space ≡ world.destination.guest.space
no-install world on from effect is =
    made-effect (λ effect new. install_call on from effect ≡ [] → new.destination.guest.space ≡ world.destination.guest.space) world Step.Install effect
    (λ copy rest first ran quiet. installed-space on from _ world.destination copy rest copy.page) is

install-logged : (at : At) (key : ℕ) (effect : Effect) →
    outcome at.world Step.Install ≡ Ok effect → Goes [] [] at.one (lines_of_calls key (install_call at.on at.from effect)) (next at.world Step.Install).destination.guest.space
install-logged at key (Effect.Installed addr origin) is =
    let world = at.world in
    let all = bounded-reached world at.reached in
    let has = has-copy world addr origin is in
    let new = (next world Step.Install).destination.guest in
    copy-logged at.one key at.from at.on addr new.space tt at.own at.told
    (followed-copy at.one world.destination.guest new key at.from addr has.0.bytes at.same (copy_installed at.reached.cpus world has.0 has.1 addr origin all has.2 is).0 at.source)
install-logged at key effect is =
    let world = at.world in
    stays at.one (next world Step.Install).destination.guest.space (at.same ∙ sym (no-install world at.on at.from effect is refl)) at.told

-- DestRead
is-read : (world : World) (effect : Effect) → outcome world Step.DestRead ≡ Ok effect →
    (noted : Noted) × (next_message world.destination.guest.space.object ≡ Some noted) × ((next world Step.DestRead).destination.guest.space ≡ record world.destination.guest.space { object = message_read world.destination.guest.space.object })
is-read world effect is =
    made-effect (λ effect new. (noted : Noted) × (next_message world.destination.guest.space.object ≡ Some noted) × (new.destination.guest.space ≡ record world.destination.guest.space { object = message_read world.destination.guest.space.object }))
    world Step.DestRead effect (λ noted next ran. (noted, next, refl)) is

-- Frames

no-package : (phase : DestPhase) (frame : Frame) (ran ended : Bool) → RanAt phase ran ended → ran ≡ true → is_in_place phase frame ≡ true → is_package frame ≡ false
no-package phase frame ran ended at is place = grind (arith, nat_tests)

took-guest : (node : Destination) (epoch : ℕ) (frame : Frame) → node.has_run ≡ true → is_package frame ≡ false → (destination_took node epoch frame).guest ≡ node.guest
took-guest node epoch frame ran none = grind (arith, nat_tests)

urgent-guest : (node : Destination) (frame : Frame) → (urgent_took node frame).guest ≡ node.guest
urgent-guest node frame = grind (arith, nat_tests)

delivered-guest : (world : World) → IsReached world → world.destination.has_run ≡ true → (n : ℕ) → (next world (Step.Deliver n)).destination.guest ≡ world.destination.guest
delivered-guest world reached ran n =
    let all = bounded-reached world reached in
    let kept = all.ready.kept in
    made-next (λ new. new.destination.guest ≡ world.destination.guest) world (Step.Deliver n) refl (
      (λ sent rest first short. refl),
      (λ sent rest first full started up free early.
          took-guest world.destination sent.epoch sent.frame ran
          (no-package world.destination.phase sent.frame world.destination.has_run world.destination.ended kept.phases.destination_phase ran
          (is_taken world sent rest kept all.urgent (as_many world reached) up first).in_place)),
    )

urgently-delivered : (world : World) (n : ℕ) → (next world (Step.DeliverUrgent n)).destination.guest ≡ world.destination.guest
urgently-delivered world n =
    made-next (λ new. new.destination.guest ≡ world.destination.guest) world (Step.DeliverUrgent n) refl
    ((λ sent rest first short. refl), (λ sent rest first full ran up. urgent-guest world.destination sent.frame))

-- Commands

command-space : (ran : Bool) (world : World) (cpu : ℕ) (command : Command) → ran ≡ true → is_access command ≡ true →
    (with_guest_by ran world (tried (is_access command) (guest_by ran world.source.guest world.destination.guest) cpu command)).destination.guest.space ≡ accessed world.destination.guest.space cpu command
command-space true world cpu command ran access = ap (λ b. space_by b world.destination.guest.space cpu command) access
command-space false world cpu command ran access = absurd (false≢true ran)

retried-access : (ran : Bool) (world : World) (cpu : ℕ) (command : Command) → IsReached world → ran ≡ true → outstanding (processor_at (guest_by ran world.source.guest world.destination.guest).cpus cpu) ≡ Some command → is_access command ≡ true
retried-access true world cpu command reached ran waits = (are_accesses world reached).destination cpu command waits
retried-access false world cpu command reached ran waits = absurd (false≢true ran)

-- Map calls

called-space : (ran : Bool) (world : World) (cpu : ℕ) (command : Command) → ran ≡ true → is_access command ≡ false →
    (with_guest_by ran world (tried (is_access command) (guest_by ran world.source.guest world.destination.guest) cpu command)).destination.guest.space ≡ called world.destination.guest.space cpu command
called-space true world cpu command ran access = ap (λ b. space_by b world.destination.guest.space cpu command) access
called-space false world cpu command ran access = absurd (false≢true ran)

asked-events : has_events_in event_features ≡ true
unfolding is_one
asked-events = refl

-- Every step

-- the steps in which the handler makes calls on pages
abbrev IsHandled : Step → Type 0
IsHandled Step.DestAct = Unit {0}
IsHandled Step.Install = Unit {0}
IsHandled step = ⊥

-- the guest of the destination has no part in a step
abbrev IsPassive : Step → Type 0
IsPassive (Step.Issue cpu command) = ⊥
IsPassive (Step.Retry cpu) = ⊥
IsPassive Step.DestRead = ⊥
IsPassive Step.DestAct = ⊥
IsPassive Step.Install = ⊥
IsPassive step = Unit {0}

passive : (world : World) (step : Step) → IsPassive step → IsReached world → world.destination.has_run ≡ true → (next world step).destination.guest ≡ world.destination.guest
passive world (Step.Deliver n) is reached ran = delivered-guest world reached ran n
passive world (Step.DeliverUrgent n) is reached ran = urgently-delivered world n
passive world (Step.Notice Side.Source) is reached ran = ap (λ (w : World). w.destination.guest) (changes_parts world (Step.Notice Side.Source)).is
passive world (Step.Notice Side.Destination) is reached ran = ap (λ (w : World). w.destination.guest) (changes_parts world (Step.Notice Side.Destination)).is
passive world Step.Start is reached ran = ap (λ (node : Destination). node.guest) (changes_parts world Step.Start).destination
passive world Step.Round is reached ran = ap (λ (node : Destination). node.guest) (changes_parts world Step.Round).destination
passive world Step.Send is reached ran = ap (λ (node : Destination). node.guest) (changes_parts world Step.Send).destination
passive world (Step.SendRun count) is reached ran = ap (λ (node : Destination). node.guest) (changes_parts world (Step.SendRun count)).destination
passive world Step.SourceRead is reached ran = ap (λ (node : Destination). node.guest) (changes_parts world Step.SourceRead).destination
passive world Step.SourceAct is reached ran = ap (λ (node : Destination). node.guest) (changes_parts world Step.SourceAct).destination
passive world Step.Switch is reached ran = ap (λ (node : Destination). node.guest) (changes_parts world Step.Switch).destination
passive world (Step.DeliverBack n) is reached ran = ap (λ (node : Destination). node.guest) (changes_parts world (Step.DeliverBack n)).destination
passive world (Step.Push ticket) is reached ran = ap (λ (node : Destination). node.guest) (changes_parts world (Step.Push ticket)).destination
passive world (Step.PushUrgent ticket) is reached ran = ap (λ (node : Destination). node.guest) (changes_parts world (Step.PushUrgent ticket)).destination
passive world Step.Serve is reached ran = ap (λ (node : Destination). node.guest) (changes_parts world Step.Serve).destination
passive world Step.End is reached ran = ap (λ (node : Destination). node.guest) (changes_parts world Step.End).destination
passive world Step.Break is reached ran = ap (λ (node : Destination). node.guest) (changes_parts world Step.Break).destination
passive world Step.Resume is reached ran = ap (λ (node : Destination). node.guest) (changes_parts world Step.Resume).destination
passive world step is reached ran = absurd is

-- Every list of steps

took-run : (node : Destination) (epoch : ℕ) (frame : Frame) → node.has_run ≡ true → (destination_took node epoch frame).has_run ≡ true
took-run node epoch frame ran = grind (arith, nat_tests)

urgent-run : (node : Destination) (frame : Frame) → (urgent_took node frame).has_run ≡ node.has_run
urgent-run node frame = grind (arith, nat_tests)

acted-run : (act : Act) (node : Destination) (page : ℕ) → (destination_acted_by act node page).has_run ≡ node.has_run
acted-run act node page = grind (arith, nat_tests)

installed-run : (home : Option ℕ) (node : Destination) (copy : Copy) (rest : List Copy) → (install_by home node copy rest).has_run ≡ node.has_run
installed-run home node copy rest = grind (arith, nat_tests)

runs-on : (world : World) (step : Step) → world.destination.has_run ≡ true → (next world step).destination.has_run ≡ true
runs-on world (Step.Issue cpu command) ran = ap (λ (node : Destination). node.has_run) (changes_parts world (Step.Issue cpu command)).destination_guest ∙ ran
runs-on world (Step.Retry cpu) ran = ap (λ (node : Destination). node.has_run) (changes_parts world (Step.Retry cpu)).destination_guest ∙ ran
runs-on world (Step.Deliver n) ran =
    made-next (λ new. new.destination.has_run ≡ true) world (Step.Deliver n) ran ((λ sent rest first short. ran), (λ sent rest first full started up free early. took-run world.destination sent.epoch sent.frame ran))
runs-on world (Step.DeliverUrgent n) ran =
    made-next (λ new. new.destination.has_run ≡ true) world (Step.DeliverUrgent n) ran ((λ sent rest first short. ran), (λ sent rest first full runs up. urgent-run world.destination sent.frame ∙ ran))
runs-on world Step.DestRead ran = made-next (λ new. new.destination.has_run ≡ true) world Step.DestRead ran (λ noted first runs. ran)
runs-on world Step.DestAct ran = made-next (λ new. new.destination.has_run ≡ true) world Step.DestAct ran (λ fault rest first runs quiet. acted-run _ world.destination fault.page ∙ ran)
runs-on world Step.Install ran = made-next (λ new. new.destination.has_run ≡ true) world Step.Install ran (λ copy rest first runs quiet. installed-run _ world.destination copy rest ∙ ran)
runs-on world (Step.Notice Side.Source) ran = ap (λ (w : World). w.destination.has_run) (changes_parts world (Step.Notice Side.Source)).is ∙ ran
runs-on world (Step.Notice Side.Destination) ran = ap (λ (w : World). w.destination.has_run) (changes_parts world (Step.Notice Side.Destination)).is ∙ ran
runs-on world Step.Start ran = ap (λ (node : Destination). node.has_run) (changes_parts world Step.Start).destination ∙ ran
runs-on world Step.Round ran = ap (λ (node : Destination). node.has_run) (changes_parts world Step.Round).destination ∙ ran
runs-on world Step.Send ran = ap (λ (node : Destination). node.has_run) (changes_parts world Step.Send).destination ∙ ran
runs-on world (Step.SendRun count) ran = ap (λ (node : Destination). node.has_run) (changes_parts world (Step.SendRun count)).destination ∙ ran
runs-on world Step.SourceRead ran = ap (λ (node : Destination). node.has_run) (changes_parts world Step.SourceRead).destination ∙ ran
runs-on world Step.SourceAct ran = ap (λ (node : Destination). node.has_run) (changes_parts world Step.SourceAct).destination ∙ ran
runs-on world Step.Switch ran = ap (λ (node : Destination). node.has_run) (changes_parts world Step.Switch).destination ∙ ran
runs-on world (Step.DeliverBack n) ran = ap (λ (node : Destination). node.has_run) (changes_parts world (Step.DeliverBack n)).destination ∙ ran
runs-on world (Step.Push ticket) ran = ap (λ (node : Destination). node.has_run) (changes_parts world (Step.Push ticket)).destination ∙ ran
runs-on world (Step.PushUrgent ticket) ran = ap (λ (node : Destination). node.has_run) (changes_parts world (Step.PushUrgent ticket)).destination ∙ ran
runs-on world Step.Serve ran = ap (λ (node : Destination). node.has_run) (changes_parts world Step.Serve).destination ∙ ran
runs-on world Step.End ran = ap (λ (node : Destination). node.has_run) (changes_parts world Step.End).destination ∙ ran
runs-on world Step.Break ran = ap (λ (node : Destination). node.has_run) (changes_parts world Step.Break).destination ∙ ran
runs-on world Step.Resume ran = ap (λ (node : Destination). node.has_run) (changes_parts world Step.Resume).destination ∙ ran

-- a reached world whose destination runs
abbrev HasRun : World → Type 0
HasRun world = IsReached world × (world.destination.has_run ≡ true)

all-run : (world : World) (steps : List Step) → HasRun world → AreAll HasRun world steps
all-run world [] it = it
all-run world (step ∷ steps) it = (it, all-run (next world step) steps (reached-next world step it.0, runs-on world step it.1))

-- a step of the handler while no map call is under way

refused-writes : (at : At) (key : ℕ) (step : Step) (refusal : Refusal) → outcome at.world step ≡ Err refusal → Writes [] at.one (calls_written key [] []) (next at.world step).destination.guest.space
refused-writes at key step refusal is =
    let space = (next at.world step).destination.guest.space in
    writes-calls at.one key [] space (stays at.one space (at.same ∙ sym (ap (λ (w : World). w.destination.guest.space) (next-refused at.world step refusal is))) at.told)

act-writes : (at : At) (home key : ℕ) (result : Result Effect Refusal) → outcome at.world Step.DestAct ≡ result → Writes [] at.one (destination_writes at.on at.from home key [] at.world Step.DestAct result) (next at.world Step.DestAct).destination.guest.space
act-writes at home key (Ok effect) is = writes-calls at.one key (act_call at.on effect) (next at.world Step.DestAct).destination.guest.space (act-logged at key effect is)
act-writes at home key (Err refusal) is = refused-writes at key Step.DestAct refusal is

install-writes : (at : At) (home key : ℕ) (result : Result Effect Refusal) → outcome at.world Step.Install ≡ result → Writes [] at.one (destination_writes at.on at.from home key [] at.world Step.Install result) (next at.world Step.Install).destination.guest.space
install-writes at home key (Ok effect) is = writes-calls at.one key (install_call at.on at.from effect) (next at.world Step.Install).destination.guest.space (install-logged at key effect is)
install-writes at home key (Err refusal) is = refused-writes at key Step.Install refusal is

-- Any other step, and one while map calls are under way: then nothing is put, and the messages are read

abbrev space_of : World → Space
space_of world = world.destination.guest.space

tried-kept : {on : Descriptor} {home key : ℕ} {begun : List Open} (world : World) (cpu : ℕ) (command : Command) → HasRun world → is_access command ≡ true → keeps_off_all (space_of world) command begun ≡ true →
    Kept on home key begun (calls_written key begun []) (space_of world) (with_guest_by world.destination.has_run world (tried (is_access command) (guest_of world) cpu command)).destination.guest.space
tried-kept world cpu command it access off =
    let all = bounded-reached world it.0 in
    let opened = all.opened.destination it.1 in
    tries cpu command access off refl (command-space world.destination.has_run world cpu command it.1 access) (ap (λ n. is_one n 8) opened.asked ∙ no_thread_ids)
    (λ protect. absurd (false≢true (sym (all.ready.kept.spaces.only_missing (page_of command)) ∙ protect)))

-- by whether it is an access
issued-kept : {on : Descriptor} {home key : ℕ} {begun : List Open} (world : World) (cpu : ℕ) (command : Command) (access : Bool) → HasRun world → is_access command ≡ access → is_followed command ≡ true → keeps_off_all (space_of world) command begun ≡ true →
    Kept on home key begun (issue_written home key begun (space_of world) cpu command (map_call command)) (space_of world) (with_guest_by world.destination.has_run world (tried (is_access command) (guest_of world) cpu command)).destination.guest.space
issued-kept {on = on} {home = home} {key = key} {begun = begun} world cpu command true it access followed off =
    subst (λ o. Kept on home key begun (issue_written home key begun (space_of world) cpu command o) (space_of world) (with_guest_by world.destination.has_run world (tried (is_access command) (guest_of world) cpu command)).destination.guest.space)
    (sym (no-map-call command access)) (tried-kept world cpu command it access off)
issued-kept world cpu command false it access followed off =
    makes cpu command access followed off refl (called-space world.destination.has_run world cpu command it.1 access) (memory_bounded world it.0).destination

destination-kept : (on : Descriptor) (from home key : ℕ) (begun : List Open) (world : World) (step : Step) → HasRun world → (IsHandled step → is_changing world.destination.guest ≡ true) → IsFollowed (space_of world) begun world step →
    Kept on home key begun (destination_writes on from home key begun world step (outcome world step)) (space_of world) (space_of (next world step))
destination-kept on from home key begun world (Step.Issue cpu command) it changing followed =
    kept-by space_of world (Step.Issue cpu command) (destination_writes on from home key begun world (Step.Issue cpu command)) (outcome world (Step.Issue cpu command)) (λ refusal. refl) refl
    (λ effect is.
    made-effect (λ effect new. Kept on home key begun (issue_written home key begun (space_of world) cpu command (map_call command)) (space_of world) (space_of new)) world (Step.Issue cpu command) effect
    (λ there idle runs.
    issued-kept world cpu command (is_access command) it refl (and_first (is_followed command) (keeps_off_all (space_of world) command begun) followed) (and_second (is_followed command) (keeps_off_all (space_of world) command begun) followed)) is)
destination-kept on from home key begun world (Step.Retry cpu) it changing followed =
    made-next (λ new. Kept on home key begun (calls_written key begun []) (space_of world) (space_of new)) world (Step.Retry cpu) (idle refl refl)
    (λ command waits woken runs. tried-kept world cpu command it (retried-access world.destination.has_run world cpu command it.0 it.1 waits) (followed command waits))
destination-kept on from home key begun world Step.DestRead it changing followed =
    kept-by space_of world Step.DestRead (destination_writes on from home key begun world Step.DestRead) (outcome world Step.DestRead) (λ refusal. refl) refl
    (λ effect is. let read = is-read world effect is in reads read.0 read.1 (ap (read_written on key begun) read.1) read.2)
destination-kept on from home key begun world Step.DestAct it changing followed =
    kept-by space_of world Step.DestAct (destination_writes on from home key begun world Step.DestAct) (outcome world Step.DestAct) (λ refusal. refl) refl
    (λ effect is.
    made-effect (λ effect new. Kept on home key begun (calls_written key begun (act_call on effect)) world.destination.guest.space new.destination.guest.space) world Step.DestAct effect
    (λ fault rest first ran quiet. absurd (false≢true (sym quiet ∙ changing tt))) is)
destination-kept on from home key begun world Step.Install it changing followed =
    kept-by space_of world Step.Install (destination_writes on from home key begun world Step.Install) (outcome world Step.Install) (λ refusal. refl) refl
    (λ effect is.
    made-effect (λ effect new. Kept on home key begun (calls_written key begun (install_call on from effect)) world.destination.guest.space new.destination.guest.space) world Step.Install effect
    (λ copy rest first ran quiet. absurd (false≢true (sym quiet ∙ changing tt))) is)
destination-kept on from home key begun world step it changing followed = idle refl (ap (λ (guest : Guest). guest.space) (sym (passive world step tt it.0 it.1)))

-- Each state

-- what the next step needs of the destination's object
is-ready : (world : World) → HasRun world → IsReady world.destination.guest.space
is-ready world it =
    let opened = (bounded-reached world it.0).opened.destination it.1 in
    record { enabled = opened.enabled; asked = ap has_events_in opened.asked ∙ asked-events }

kept-next : {name home key : ℕ} {calls : List Pending} {one : Counterparts} (on : Descriptor) (from : ℕ) (world : World) (its : Free name home key (space_of world) calls one) (step : Step) → on.object ≡ name → HasRun world → (IsHandled step → is_changing world.destination.guest ≡ true) →
    IsFollowed (space_of world) (map open_of calls) world step →
    Next name home (under_way one.kernel (map open_of calls)) one (destination_writes on from home key (map open_of calls) world step (outcome world step)) (space_of (next world step))
kept-next {home = home} {key = key} {calls = calls} on from world its step own it changing followed =
    free-kept its on (destination_writes on from home key (map open_of calls) world step (outcome world step)) (space_of (next world step)) own (is-ready world it) (destination-kept on from home key (map open_of calls) world step it changing followed)

free-next : {home key : ℕ} {calls : List Pending} {one : Counterparts} (on : Descriptor) (from : ℕ) → may_be_outside from 4096 ≡ false → (world : World) (its : Free on.object home key (space_of world) calls one) (step : Step) → HasRun world → IsFollowed (space_of world) (map open_of calls) world step →
    Next on.object home (under_way one.kernel (map open_of calls)) one (destination_writes on from home key (map open_of calls) world step (outcome world step)) (space_of (next world step))
free-next {calls = first ∷ calls} on from source world its step it followed = kept-next on from world its step refl it (λ handled. free-changing its) followed
free-next {home = home} {key = key} {calls = []} {one = one} on from source world its Step.DestAct it followed =
    wrote-next _ _ its (act-writes (record { world = world; reached = it.0; ran = it.1; one = one; same = sym (seen-quiet one its.told) ∙ its.same; told = its.told; on = on; own = its.own; from = from; source = source }) home key (outcome world Step.DestAct) refl)
free-next {home = home} {key = key} {calls = []} {one = one} on from source world its Step.Install it followed =
    wrote-next _ _ its (install-writes (record { world = world; reached = it.0; ran = it.1; one = one; same = sym (seen-quiet one its.told) ∙ its.same; told = its.told; on = on; own = its.own; from = from; source = source }) home key (outcome world Step.Install) refl)
free-next {calls = []} on from source world its step it followed = kept-next on from world its step refl it (λ handled. absurd handled) followed

state-next : (on : Descriptor) (from home : ℕ) → may_be_outside from 4096 ≡ false → (world : World) (key : ℕ) (state : State on.object home key world.destination.guest.space) (step : Step) → HasRun world → IsFollowed world.destination.guest.space (log_begun state) world step →
    Next on.object home (run_world state) (counterpart state) (destination_writes on from home key (log_begun state) world step (outcome world step)) (next world step).destination.guest.space
state-next on from home source world key (free calls one its) step it followed = free-next on from source world its step it followed
state-next on from home source world key (held clearing calls one its) step it followed =
    held-next its on (destination_writes on from home key (log_begun (held clearing calls one its)) world step (outcome world step)) (next world step).destination.guest.space refl (bounded-reached world it.0).ready.kept.spaces.destination_space
    (destination-kept on from home key (map open_of calls ++ open_of (pending_for clearing) ∷ []) world step it (λ handled. held-changing its) followed)

pub steps-end : (on : Descriptor) (from home : ℕ) → may_be_outside from 4096 ≡ false → (world : World) (key : ℕ) (one : Counterparts) (steps : List Step) → HasRun world → HasCalls [] one → one.space ≡ world.destination.guest.space → on.object ≡ one.name → home ≡ one.object.space →
    AreFollowed (destination on from home) key [] world steps → Ends on.object (under_way one.kernel []) one (log_of (destination on from home) key [] world steps) (space_after (destination on from home) world steps)
steps-end on from home source world key one steps it told same own there followed =
    every-ends (destination on from home) on.object home HasRun (λ world key state step it then follows. state-next on from home source world key state step it follows) world key (free [] one (record { same = seen-quiet one told ∙ same; told = told; below = tt; own = own; there = there })) steps (all-run world steps it) followed

pub steps-logged : (at : Running) (key : ℕ) (steps : List Step) → AreFollowed (destination at.on at.from at.one.object.space) key [] at.world steps → AreLogged (destination at.on at.from at.one.object.space) at.one key at.world steps
steps-logged at key steps followed =
    logged-from at.one at.on.object _ _ at.own
    (steps-end at.on at.from at.one.object.space at.source at.world key at.one steps (at.reached, at.ran) at.quiet at.same at.own refl followed)
