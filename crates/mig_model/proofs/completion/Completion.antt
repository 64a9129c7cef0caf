-- A migration can be completed from every world in which it can continue: each phase of the source leads to a later one.
use Rattle.std.proofs.lemmas.Bool.Decides.{nat_tests}
use Rattle.std.proofs.Common.{◌≡◌, ℕ, zero, suc, ◌<◌, Bool, true, false, List, [], ◌∷◌, refl, sym, ap, subst, arith}
use Rattle.std.specs.Ordering.{nat_cmp}
use Rattle.std.specs.FinSet.{FinSet}
use Rattle.std.proofs.lemmas.Bool.{not-true}
use Rattle.mig_base.specs.declared.phase.DestPhase.{DestPhase}
use Rattle.mig_base.specs.declared.phase.Received.{Received}
use Rattle.mig_base.specs.declared.phase.SourcePhase.{SourcePhase}
use Rattle.mig_base.specs.declared.schedule.Side.{Side}
use Rattle.mig_base.specs.Userfault.{Noted}
use Rattle.mig_model.specs.Source.{Source, is_released, is_source_idle, is_source_paused, source_rebuilt, space_of}
use Rattle.mig_model.specs.Destination.{is_dest_paused}
use Rattle.mig_model.specs.Wire.{Sent}
use Rattle.mig_model.specs.Wire.Frame.{Recv, Resume}
use Rattle.mig_model.specs.Migration.{World, has_started}
use Rattle.mig_model.specs.NodeSteps.{is_used}
use Rattle.mig_model.proofs.steps.StepWorlds.{after_deliver, after_deliver_back, after_notice, after_source_read, after_start}
use Rattle.mig_model.specs.Invariant.{SwitchedAt}
use Rattle.mig_model.specs.Promises.{CanComplete, IsReached}
use Rattle.mig_model.proofs.memory.Facts.{none_absurd}
use Rattle.mig_model.proofs.invariant.FirstFrame.{empty_not}
use Rattle.mig_model.proofs.steps.EveryStep.{kept-reached, urgent-reached}
use Rattle.mig_model.proofs.steps.AcceptedSteps.{IsInOrder, by_deliver, by_deliver_back, by_notice, by_resume, by_source_read, by_start, by_switch}
use Rattle.mig_model.proofs.completion.CompletionStopped.{IsUpAt, next_some, read-less, read_object, stopped_completes, unread, wires_at}

-- Pre-copy: the messages are read, until no event is unread, and the source switches

switch_step : (world : World) → (space_of world.source).object.events ≡ [] → IsUpAt SourcePhase.Precopy world → CanComplete world
switch_step world quiet at = grind (arith, nat_tests, by_switch, stopped_completes)

precopy_by : (n : ℕ) (events : List Noted) (world : World) → (space_of world.source).object.events ≡ events → unread (space_of world.source).object < n → IsUpAt SourcePhase.Precopy world → CanComplete world
precopy_by n [] world quiet few at = switch_step world quiet at
precopy_by zero (event ∷ events) world unquiet few at = absurd (omega (arith, few))
precopy_by (suc n) (event ∷ events) world unquiet few at =
    let next = next_some (space_of world.source).object event events unquiet in
    let less = read-less (space_of world.source).object next.0 next.1 in
    let object = ap unread (read_object world.source.guest next.0.cpu next.0.message) in
    let unswitched = subst (λ p. SwitchedAt p world.source.switched) at.phase at.order.kept.phases.source_phase in
    by_source_read world next.0 (ap is_source_idle at.phase) unswitched next.1 at.order (λ order.
    precopy_by n (space_of (after_source_read world next.0).source).object.events (after_source_read world next.0) refl (omega (arith, few, less, object)) (record { order = order; up = at.up; phase = at.phase }))

-- Paused, with the link up: the destination takes Resume, and the source its answer

-- the phases in which the source neither waits for a start nor for an answer
abbrev is_going : SourcePhase → Bool
is_going SourcePhase.Precopy = true
is_going SourcePhase.Stopped = true
is_going SourcePhase.Released = true
is_going phase = false

going_by : (from : SourcePhase) (world : World) → world.source.phase ≡ from → is_going from ≡ true → world.up ≡ true → IsInOrder world → CanComplete world
going_by from world is going up order = grind (arith, nat_tests, precopy_by, stopped_completes, none_absurd)

rebuilt_going : (state : Received) (owed : FinSet nat_cmp) (node : Source) → is_going (source_rebuilt state owed node).phase ≡ true
rebuilt_going state owed node = grind (arith, nat_tests)

recv_step : (world : World) (state : Received) (owed : FinSet nat_cmp) (epoch : ℕ) (rest : List Sent) → world.back.frames ≡ record { epoch = epoch; frame = Recv state owed } ∷ rest → IsUpAt SourcePhase.Paused world → CanComplete world
recv_step world state owed epoch rest first at =
    let sent : Sent = record { epoch = epoch; frame = Recv state owed } in
    by_deliver_back world sent rest first (ap is_source_idle at.phase) at.up at.order (λ order.
    going_by (after_deliver_back world sent rest).source.phase (after_deliver_back world sent rest) refl (rebuilt_going state owed world.source) at.up order)

-- where the destination has noticed too, it takes Resume first
paused_by : (to : DestPhase) (world : World) → world.destination.phase ≡ to → (to ≡ DestPhase.Paused → CanComplete world) → IsUpAt SourcePhase.Paused world → CanComplete world
paused_by to world is resumes at = grind (arith, nat_tests, recv_step)

resume_taken : (world : World) → world.destination.phase ≡ DestPhase.Paused → IsUpAt SourcePhase.Paused world → CanComplete world
resume_taken world is at =
    let first = (wires_at SourcePhase.Paused DestPhase.Paused world is at).0 in
    let sent : Sent = record { epoch = world.source.epoch; frame = Resume } in
    let new = after_deliver world sent [] in
    by_deliver world sent [] first (ap is_source_idle at.phase) at.up refl refl at.order (λ order.
    let new_at : IsUpAt SourcePhase.Paused new = record { order = order; up = at.up; phase = at.phase } in
    paused_by new.destination.phase new refl (λ again. absurd (empty_not sent [] (sym (wires_at SourcePhase.Paused DestPhase.Paused new again new_at).0))) new_at)

-- The link is up, and the migration has begun

link_up_by : (from : SourcePhase) (world : World) → world.source.phase ≡ from → is_source_idle from ≡ false → world.up ≡ true → IsInOrder world → CanComplete world
link_up_by from world is started up order = grind (arith, nat_tests, paused_by, resume_taken, going_by)

-- The link is down: both sides notice it, and the source resumes in its next epoch

record IsDown (world : World) : Type 0 where
  order : IsInOrder world
  down : world.up ≡ false
  free : is_used world.source.epoch ≡ false

resume_step : (world : World) → world.source.phase ≡ SourcePhase.Paused → is_dest_paused world.destination.phase ≡ true → IsDown world → CanComplete world
resume_step world from to at = grind (arith, nat_tests, by_resume, link_up_by)

notice_destination : (paused : Bool) (world : World) → is_dest_paused world.destination.phase ≡ paused → world.source.phase ≡ SourcePhase.Paused → IsDown world → CanComplete world
notice_destination true world is from at = resume_step world from is at
notice_destination false world is from at =
    by_notice world Side.Destination (ap is_source_idle from) (ap is_released from) is at.down at.order (λ order.
    resume_step (after_notice world Side.Destination) from refl (record { order = order; down = at.down; free = at.free }))

link_down_by : (from : SourcePhase) (world : World) → world.source.phase ≡ from → IsDown world → CanComplete world
link_down_by SourcePhase.Idle world is at = absurd ((at.order.kept.flight.down at.down).2 is)
link_down_by SourcePhase.Released world is at = absurd ((at.order.kept.flight.down at.down).3 is)
link_down_by SourcePhase.Paused world is at = notice_destination (is_dest_paused world.destination.phase) world refl is at
link_down_by from world is at =
    by_notice world Side.Source (ap is_source_idle is) (ap is_released is) (ap is_source_paused is) at.down at.order (λ order.
    notice_destination (is_dest_paused world.destination.phase) (after_notice world Side.Source) refl refl (record { order = order; down = at.down; free = at.free }))

-- The migration has not begun, or has

start_step : (world : World) → is_source_idle world.source.phase ≡ true → is_used world.source.epoch ≡ false → world.up ≡ true → IsInOrder world → CanComplete world
start_step world idle free up order = by_start world idle free order (λ new. link_up_by SourcePhase.Precopy (after_start world) refl refl up new)

pub in_order : (world : World) → IsReached world → IsInOrder world
in_order world reached = record { kept = kept-reached world reached; urgent = urgent-reached world reached }

-- while the epoch of the source is not its last
pub epoch_left-completes : (world : World) → IsReached world → is_used world.source.epoch ≡ false → CanComplete world
epoch_left-completes world reached free = grind (arith, nat_tests, in_order, link_down_by, start_step, link_up_by)

-- while the link is up and the migration has begun
pub link_up-completes : (world : World) → IsReached world → has_started world ≡ true → world.up ≡ true → CanComplete world
link_up-completes world reached started up = link_up_by world.source.phase world refl (not-true (is_source_idle world.source.phase) started) up (in_order world reached)
