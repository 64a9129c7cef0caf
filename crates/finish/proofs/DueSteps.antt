-- Each step of the strategy until the source has stopped: it is made, and fewer steps are left after it.
use Rattle.std.proofs.Common.{◌≡◌, ℕ, suc, ◌+◌, ◌<◌, ◌≤◌, Bool, true, false, not, eqb, ltb, Some, List, [], ◌∷◌, ◌++◌, length, length-append, refl, sym, ap, ◌∙◌, subst, arith, if◌then◌else◌}
use Rattle.std.specs.Option.{IfSome}
use Rattle.std.specs.Prelude.{IsOk, None, ◌≢◌}
use Rattle.std.specs.FinMap.{contains_key}
use Rattle.std.specs.FinSet.{len}
use Rattle.std.proofs.lemmas.Bool.Decides.{nat_tests}
use Rattle.mig_base.specs.Sets.{pages_where}
use Rattle.mig_base.specs.declared.effect.Effect.{Effect}
use Rattle.mig_base.specs.declared.phase.DestPhase.{DestPhase}
use Rattle.mig_base.specs.declared.phase.SourcePhase.{SourcePhase}
use Rattle.mig_base.specs.declared.schedule.Side.{Side}
use Rattle.mig_base.specs.declared.schedule.Step.{Step}
use Rattle.mig_base.specs.declared.message.Message.{Message}
use Rattle.mig_model.specs.Bounds.{AreUrgentFew}
use Rattle.mig_model.specs.Guest.{Guest, read_guest}
use Rattle.mig_model.specs.Host.{Host}
use Rattle.mig_model.specs.Log.{less, present}
use Rattle.mig_model.specs.Migration.{World, answer, made, next, next_by, outcome, outcome_by}
use Rattle.mig_model.proofs.steps.StepWorlds.{after_notice, after_resume, after_source_read, after_start, after_switch}
use Rattle.mig_model.specs.NodeSteps.{is_used}
use Rattle.mig_model.specs.Source.{Source, commands_of, is_precopy, is_released, is_source_idle, is_source_paused, is_stopped, not_clean, space_of}
use Rattle.mig_model.specs.Destination.{Destination, is_dest_paused}
use Rattle.mig_base.specs.Userfault.{Noted, Object, message_read, next_message}
use Rattle.mig_model.specs.Wire.{Sent}
use Rattle.mig_model.specs.Wire.Frame.{Advise, Discard, Package}
use Rattle.mig_model.specs.Space.{Space}
use Rattle.mig_model.specs.Promises.{IsReached}
use Rattle.mig_model.proofs.steps.ReachedLemmas.{reached-next}
use Rattle.mig_model.proofs.invariant.UrgentFew.{few-reached}
use Rattle.mig_model.specs.Invariant.{IsSoundWorld, PrecopyWires, SwitchedAt}
use Rattle.mig_model.proofs.completion.CompletionStopped.{IsUpAt, next_some, read_object, wires_at}
use Rattle.finish.specs.Finishing.{IsDue, before_push, down_left, down_step, lacks_epoch, one_if, precopy_step, reported, steps_left, unread, up_left, left_to_handle}
use Rattle.mig_model.proofs.steps.StepAnswers.{answers-notice, answers-resume, answers-source_read, answers-start, answers-switch}
use Rattle.mig_model.proofs.invariant.SourceMapped.{read_host}
use Rattle.mig_base.proofs.SetSizes.{only_where}
use Rattle.mig_model.proofs.invariant.UrgentWire.{is_paused}

-- the step is due that leads to a new world
pub due_by : (world new : World) (step : Step) (effect : Effect) → answer world step ≡ made effect new → steps_left new < steps_left world → (lacks_epoch world ≡ false → lacks_epoch new ≡ false) → IsDue world step
unfolding next outcome
due_by world new step effect is fewer goes =
    let there : next world step ≡ new = ap (next_by world) is in
    record {
      made = subst (λ a. IsOk (outcome_by a)) (sym is) refl;
      fewer = subst (λ w. steps_left w < steps_left world) (sym there) fewer;
      goes = λ h. subst (λ w. lacks_epoch w ≡ false) (sym there) (goes h);
    }

-- How many steps are left in a phase

pub left_up : (world : World) (from : SourcePhase) → world.up ≡ true → world.source.phase ≡ from → steps_left world ≡ up_left from world
left_up world from up is = ap (λ b. if b then up_left world.source.phase world else down_left world) up ∙ ap (λ p. up_left p world) is

pub left_down : (world : World) → world.up ≡ false → steps_left world ≡ down_left world
left_down world down = ap (λ b. if b then up_left world.source.phase world else down_left world) down

-- an epoch is left while the link is up and the migration has begun
pub goes_up : (world : World) → world.up ≡ true → is_source_idle world.source.phase ≡ false → lacks_epoch world ≡ false
goes_up world up started = grind (arith, nat_tests)

pub one_if-most : (test : Bool) → one_if test ≤ 1
one_if-most test = grind (arith, nat_tests)

pub sent_one : (frames : List Sent) (sent : Sent) → length (frames ++ sent ∷ []) ≡ length frames + 1
sent_one frames sent = length-append frames (sent ∷ [])

-- Start

pub start_due : (world : World) → IsUpAt SourcePhase.Idle world → is_used world.source.epoch ≡ false → IsDue world Step.Start
start_due world at free =
    let new = after_start world in
    let old_left = left_up world SourcePhase.Idle at.up at.phase in
    let new_left = left_up new SourcePhase.Precopy at.up refl in
    let none = ap length (wires_at SourcePhase.Idle world.destination.phase world refl at).1 in
    let one = sent_one world.forward.frames (record { epoch = world.source.epoch + 1; frame = Advise }) in
    due_by world new Step.Start _ (answers-start world (ap is_source_idle at.phase) free) (omega (arith, old_left, new_left, none, one)) (λ _. goes_up new at.up refl)

-- A message is read

less_unread : (object : Object) (noted : Noted) → next_message object ≡ Some noted → (length (message_read object).faults + length (message_read object).events) + 1 ≡ length object.faults + length object.events
less_unread object noted is = grind (arith, nat_tests)

pub read_unread : (guest : Guest) (noted : Noted) → next_message guest.space.object ≡ Some noted → unread (read_guest guest noted.cpu noted.message) + 1 ≡ unread guest
read_unread guest noted is = ap (λ (object : Object). (length object.faults + length object.events) + 1) (read_object guest noted.cpu noted.message) ∙ less_unread guest.space.object noted is

read_present : (guest : Guest) (cpu : ℕ) (message : Message) → len (present (read_guest guest cpu message).space) ≡ len (present guest.space)
read_present guest cpu message = ap (λ (host : Host). len (pages_where (λ page. contains_key host.bytes page))) (read_host guest cpu message)

-- a source that makes rounds has not switched
unswitched : (world : World) → IsUpAt SourcePhase.Precopy world → world.source.switched ≡ false
unswitched world at = subst (λ p. SwitchedAt p world.source.switched) at.phase at.order.kept.phases.source_phase

source_read_by : (world : World) (event : Noted) (events : List Noted) → (space_of world.source).object.events ≡ event ∷ events → IsUpAt SourcePhase.Precopy world → IsDue world Step.SourceRead
source_read_by world event events unquiet at =
    let found = next_some (space_of world.source).object event events unquiet in
    let new = after_source_read world found.0 in
    let old_left = left_up world SourcePhase.Precopy at.up at.phase in
    let new_left = left_up new SourcePhase.Precopy at.up at.phase in
    let less = read_unread world.source.guest found.0 found.1 in
    let pages = read_present world.source.guest found.0.cpu found.0.message in
    due_by world new Step.SourceRead _ (answers-source_read world found.0 (ap is_source_idle at.phase) (unswitched world at) found.1) (omega (arith, old_left, new_left, less, pages))
    (λ _. goes_up new at.up (ap is_source_idle at.phase))

-- Switch

-- before the switch nothing comes back
precopy_back : (to : DestPhase) (source : Source) (destination : Destination) (forward back : List Sent) → PrecopyWires source (record destination { phase = to }) forward back → back ≡ []
precopy_back to source destination forward back wires = grind (arith, nat_tests)

-- a destination that has not run has nothing to read or to install
pub none_waits : (world : World) → IsSoundWorld world → world.destination.has_run ≡ false → left_to_handle world ≡ 0
none_waits world kept ran =
    let none = kept.owing.not_run ran in
    let copies = ap length none.2 in
    let messages = ap (λ (space : Space). length space.object.faults + length space.object.events) none.1 in
    omega (arith, copies, messages)

-- what remains and what was sent urgently are pages of the source
pub few_next : (world new : World) (step : Step) (effect : Effect) → IsReached world → answer world step ≡ made effect new → AreUrgentFew new
unfolding next
few_next world new step effect reached is = subst AreUrgentFew (ap (next_by world) is) (few-reached (next world step) (reached-next world step reached))

switch_due : (world : World) → IsReached world → (space_of world.source).object.events ≡ [] → IsUpAt SourcePhase.Precopy world → IsDue world Step.Switch
switch_due world reached quiet at =
    let new = after_switch world in
    let old_left = left_up world SourcePhase.Precopy at.up at.phase in
    let new_left = left_up new SourcePhase.Stopped at.up refl in
    let is = answers-switch world (ap is_precopy at.phase) at.up (ap (λ events. ltb 0 (length events)) quiet) in
    let few = (few_next world new Step.Switch _ reached is).few refl refl in
    let unended = one_if-most (not (eqb world.source.end_epoch world.source.epoch)) in
    let urgent = ap length (at.order.urgent.stopped (ap is_stopped at.phase)) in
    let waits = none_waits world at.order.kept (only_where world.destination.has_run world.source.switched at.order.kept.phases.ran_after_switch (unswitched world at)) in
    let back = ap length (precopy_back world.destination.phase (record world.source { phase = SourcePhase.Precopy }) world.destination world.forward.frames world.back.frames (wires_at SourcePhase.Precopy world.destination.phase world refl at)) in
    let one = sent_one world.forward.frames (record { epoch = world.source.epoch; frame = Discard (less world.source.log.sent world.source.log.clean) }) in
    let two = sent_one (world.forward.frames ++ record { epoch = world.source.epoch; frame = Discard (less world.source.log.sent world.source.log.clean) } ∷ []) (record { epoch = world.source.epoch; frame = Package (space_of world.source).host.areas (not_clean world.source) (commands_of world.source.guest.cpus) }) in
    due_by world new Step.Switch _ is (omega (arith, old_left, new_left, few, unended, urgent, waits, back, one, two)) (λ _. goes_up new at.up refl)

some_there : (count : ℕ) → ltb 0 (suc count) ≡ true
some_there count = grind (arith, nat_tests)

-- pre-copy: the messages are read until no event is unread
precopy_by : (events : List Noted) (world : World) → IsReached world → (space_of world.source).object.events ≡ events → IsUpAt SourcePhase.Precopy world → IsDue world (precopy_step world)
precopy_by [] world reached is at = subst (λ b. IsDue world (if b then Step.SourceRead else Step.Switch)) (sym (ap (λ events. ltb 0 (length events)) is)) (switch_due world reached is at)
precopy_by (event ∷ events) world reached is at = subst (λ b. IsDue world (if b then Step.SourceRead else Step.Switch)) (sym (ap (λ events. ltb 0 (length events)) is ∙ some_there (length events))) (source_read_by world event events is at)

pub precopy_due : (world : World) → IsReached world → IsUpAt SourcePhase.Precopy world → IsDue world (precopy_step world)
precopy_due world reached at = precopy_by (space_of world.source).object.events world reached refl at

-- The link is down

-- what is known while it is
pub record IsDown (world : World) : Type 0 where
  pub kept : IsSoundWorld world
  pub down : world.up ≡ false

-- an epoch is left
free_by : (world : World) → world.up ≡ false → lacks_epoch world ≡ false → is_used world.source.epoch ≡ false
free_by world down h = grind (arith, nat_tests)

still_free : (world : World) → is_used world.source.epoch ≡ false → lacks_epoch world ≡ false
still_free world free = grind (arith, nat_tests)

not_idle : (from : SourcePhase) → from ≢ SourcePhase.Idle → is_source_idle from ≡ false
not_idle from not = grind (arith, nat_tests)

not_released : (from : SourcePhase) → from ≢ SourcePhase.Released → is_released from ≡ false
not_released from not = grind (arith, nat_tests)

notice_source_due : (world : World) → IsDown world → is_source_paused world.source.phase ≡ false → IsDue world (Step.Notice Side.Source)
notice_source_due world at unpaused =
    let new = after_notice world Side.Source in
    let flight = at.kept.flight.down at.down in
    let old_left = left_down world at.down in
    let new_left = left_down new at.down in
    let one = ap (λ b. one_if (not b)) unpaused in
    due_by world new (Step.Notice Side.Source) _ (answers-notice world Side.Source (not_idle world.source.phase flight.2) (not_released world.source.phase flight.3) unpaused at.down) (omega (arith, old_left, new_left, one))
    (λ h. still_free new (free_by world at.down h))

notice_destination_due : (world : World) → IsDown world → is_dest_paused world.destination.phase ≡ false → IsDue world (Step.Notice Side.Destination)
notice_destination_due world at unpaused =
    let new = after_notice world Side.Destination in
    let flight = at.kept.flight.down at.down in
    let old_left = left_down world at.down in
    let new_left = left_down new at.down in
    let one = ap (λ b. one_if (not b)) unpaused in
    due_by world new (Step.Notice Side.Destination) _ (answers-notice world Side.Destination (not_idle world.source.phase flight.2) (not_released world.source.phase flight.3) unpaused at.down) (omega (arith, old_left, new_left, one))
    (λ h. still_free new (free_by world at.down h))

resume_due : (world : World) → IsDown world → is_source_paused world.source.phase ≡ true → is_dest_paused world.destination.phase ≡ true → is_used world.source.epoch ≡ false → IsDue world Step.Resume
resume_due world at from to free =
    let new = after_resume world in
    let phase = is_paused world.source.phase from in
    let old_left = left_down world at.down in
    let new_left = left_up new SourcePhase.Paused refl phase ∙ ap (λ b. if b then reported new + 10 else before_push new + (left_to_handle new + length new.back.frames) + 8) to in
    due_by world new Step.Resume _ (answers-resume world from to at.down free) (omega (arith, old_left, new_left)) (λ _. goes_up new refl (ap is_source_idle phase))

down_by : (from to used : Bool) (world : World) → IsDown world → is_source_paused world.source.phase ≡ from → is_dest_paused world.destination.phase ≡ to → is_used world.source.epoch ≡ used →
    IfSome (if not from then Some (Step.Notice Side.Source) else if not to then Some (Step.Notice Side.Destination) else if used then None else Some Step.Resume) (IsDue world)
down_by false to used world at from_is to_is used_is = notice_source_due world at from_is
down_by true false used world at from_is to_is used_is = notice_destination_due world at to_is
down_by true true true world at from_is to_is used_is = tt
down_by true true false world at from_is to_is used_is = resume_due world at from_is to_is used_is

pub down_due : (world : World) → IsDown world → IfSome (down_step world) (IsDue world)
down_due world at = down_by (is_source_paused world.source.phase) (is_dest_paused world.destination.phase) (is_used world.source.epoch) world at refl refl refl
