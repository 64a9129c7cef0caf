-- Each step of the strategy from a stopped source, and from one that waits for a report: it is made, and fewer steps are left after it.
use Rattle.std.proofs.Common.{◌≡◌, ℕ, ◌+◌, ◌-◌, ◌^◌, ◌<◌, ◌≤◌, ◌&&◌, Bool, true, false, not, eqb, ltb, Option, Some, None, is_some, List, [], ◌∷◌, ◌++◌, length, refl, sym, ap, ◌∙◌, subst, arith, if◌then◌else◌}
use Rattle.std.specs.Prelude.{◌≢◌}
use Rattle.std.specs.Option.{option_and_then}
use Rattle.std.specs.Ordering.{nat_cmp}
use Rattle.std.specs.FinSet.{FinSet, contains, len}
use Rattle.std.proofs.lemmas.Bool.{false≢true, not-true, not-false}
use Rattle.std.proofs.lemmas.Bool.Decides.{nat_tests}
use Rattle.std.proofs.lemmas.List.{length-map}
use Rattle.foundation.specs.Tests.{is_empty}
use Rattle.mig_base.specs.declared.TheConstants.{HIGH_PAGE}
use Rattle.mig_base.specs.declared.phase.DestPhase.{DestPhase}
use Rattle.mig_base.specs.declared.phase.Received.{Received}
use Rattle.mig_base.specs.declared.phase.SourcePhase.{SourcePhase}
use Rattle.mig_base.specs.declared.schedule.Step.{Step}
use Rattle.foundation.proofs.RangeLemmas.{least_below_tells}
use Rattle.mig_model.specs.Destination.{Destination, destination_answers, destination_took, is_dest_paused, received_of, recv_by, resumed_by}
use Rattle.mig_model.specs.Guest.{is_changing}
use Rattle.mig_model.specs.Invariant.{AreTold, Flow, are_requests_and_done, RanAt, flow_after, flow_next, flow_of}
use Rattle.mig_model.specs.Invariant.Flow.{AfterEnd, Pushed}
use Rattle.mig_model.specs.Lengths.{text_len}
use Rattle.mig_model.specs.Log.{forgotten, least_of, no_pages, present}
use Rattle.mig_model.specs.Migration.{World, answer, made}
use Rattle.mig_model.specs.Effects.{frame_effect}
use Rattle.mig_model.specs.Faults.{is_early, is_end}
use Rattle.mig_model.proofs.steps.StepWorlds.{after_deliver, after_deliver_back, after_deliver_urgent, after_dest_read, after_end, after_install, after_push}
use Rattle.mig_model.specs.Owed.{home}
use Rattle.mig_model.specs.Promises.{IsReached}
use Rattle.mig_model.specs.Source.{Source, bytes_of, is_released, is_source_idle, is_stopped, package_frames, rebuild_frames, released, source_rebuilt, space_of}
use Rattle.mig_base.specs.Userfault.{Noted, Object}
use Rattle.mig_model.specs.Whereabouts.{IsReceiving, is_request}
use Rattle.mig_model.specs.Wire.{Copy, Frame, Sent, page_frame, sending, sending_if, wire_behind, wire_with}
use Rattle.mig_model.specs.Wire.Frame.{Done, End, Recv, Request, Resume}
use Rattle.mig_model.proofs.completion.CompletionStopped.{IsUpAt, next_some, wires_at, running-has_run, one_more, none_more, pushed-next, urgent_took-next, install_by-next, none_early, not_at_end, is_waiting, waiting_flow, waiting-not_ended, waiting_wire}
use Rattle.mig_model.proofs.memory.Facts.{and_false, by_test, eqb-self}
use Rattle.mig_model.proofs.invariant.FirstFrame.{comes}
use Rattle.mig_base.proofs.SetSizes.{len-removed, len-some}
use Rattle.mig_model.proofs.invariant.UrgentWire.{placed}
use Rattle.page_stream.specs.Flight.{AreFrames, HasGoodFrames}
use Rattle.page_stream.proofs.LengthBounds.{text_short}
use Rattle.finish.specs.Finishing.{IsDue, all_bytes, before_push, one_if, paused_step, reported, running_step, steps_left, stopped_by, stopped_step, delivering_step, unread, left_to_handle}
use Rattle.finish.proofs.DueSteps.{due_by, few_next, goes_up, left_up, one_if-most, read_unread, sent_one}
use Rattle.mig_model.proofs.steps.StepAnswers.{answers-deliver, answers-deliver_back, answers-deliver_urgent, answers-dest_read, answers-end, answers-install, answers-push}

-- what is known while the source has stopped
pub record IsStopped (world : World) : Type 0 where
  pub reached : IsReached world
  pub at : IsUpAt SourcePhase.Stopped world
  pub good : HasGoodFrames world

-- Push

pub push_due : (world : World) (page : ℕ) → least_of world.source.remaining ≡ Some page → IsStopped world → IsDue world (Step.Push (record { epoch = world.source.epoch; page = page }))
push_due world page found is =
    let new = after_push world page in
    let at = is.at in
    let remains = least_below_tells (contains world.source.remaining) HIGH_PAGE page found in
    let old_left = left_up world SourcePhase.Stopped at.up at.phase in
    let new_left = left_up new SourcePhase.Stopped at.up at.phase in
    let less = len-removed world.source.remaining page remains in
    let some = len-some world.source.remaining page remains in
    let one = sent_one world.forward.frames (record { epoch = world.source.epoch; frame = page_frame page (bytes_of world.source page) }) in
    due_by world new (Step.Push (record { epoch = world.source.epoch; page = page })) _ (answers-push world page (ap is_stopped at.phase) at.up (at.order.kept.pushing.remaining_present page remains) remains)
    (omega (arith, old_left, new_left, less, some, one)) (λ _. goes_up new at.up (ap is_source_idle at.phase))

-- End

pub end_due : (world : World) → eqb world.source.end_epoch world.source.epoch ≡ false → least_of world.source.remaining ≡ None → IsStopped world → IsDue world Step.End
end_due world other none is =
    let new = after_end world in
    let at = is.at in
    let old_left = left_up world SourcePhase.Stopped at.up at.phase in
    let new_left = left_up new SourcePhase.Stopped at.up at.phase in
    let before = ap (λ b. one_if (not b)) other in
    let after = ap (λ b. one_if (not b)) (eqb-self world.source.epoch) in
    let one = sent_one world.forward.frames (record { epoch = world.source.epoch; frame = End world.source.urgent_sent }) in
    due_by world new Step.End _ (answers-end world (ap is_stopped at.phase) at.up other none) (omega (arith, old_left, new_left, before, after, one)) (λ _. goes_up new at.up (ap is_source_idle at.phase))

-- Deliveries

-- these bytes complete any frame
enough : (length held : ℕ) → length < 2 ^ 32 → ltb all_bytes (length - held) ≡ false
enough length held short = grind (arith, nat_tests)

deliver_answer : (world : World) (sent : Sent) (rest : List Sent) → world.forward.frames ≡ sent ∷ rest → HasGoodFrames world → is_source_idle world.source.phase ≡ false → world.up ≡ true → (is_end sent.frame && not (is_empty world.destination.arrivals)) ≡ false →
    is_early world.destination sent.frame ≡ false → answer world (Step.Deliver all_bytes) ≡ made (frame_effect sent.frame) (after_deliver world sent rest)
deliver_answer world sent rest first good = answers-deliver world all_bytes sent rest first (enough (text_len sent.frame) world.forward.held (text_short sent.frame (subst AreFrames first good.forward).1))

back_answer : (world : World) (sent : Sent) (rest : List Sent) → world.back.frames ≡ sent ∷ rest → HasGoodFrames world → is_source_idle world.source.phase ≡ false → world.up ≡ true →
    answer world (Step.DeliverBack all_bytes) ≡ made (frame_effect sent.frame) (after_deliver_back world sent rest)
back_answer world sent rest first good = answers-deliver_back world all_bytes sent rest first (enough (text_len sent.frame) world.back.held (text_short sent.frame (subst AreFrames first good.back).1))

urgent_answer : (world : World) (sent : Sent) (rest : List Sent) → world.urgent.frames ≡ sent ∷ rest → HasGoodFrames world → world.destination.has_run ≡ true → world.up ≡ true →
    answer world (Step.DeliverUrgent all_bytes) ≡ made (frame_effect sent.frame) (after_deliver_urgent world sent rest)
urgent_answer world sent rest first good = answers-deliver_urgent world all_bytes sent rest first (enough (text_len sent.frame) world.urgent.held (text_short sent.frame (subst AreFrames first good.urgent).1))

-- what is on a wire once more is sent
pub length-sending : (wire : List Sent) (epoch : ℕ) (frames : List Frame) → length (sending wire epoch frames) ≡ length wire + length frames
length-sending wire epoch [] = omega arith
length-sending wire epoch (frame ∷ frames) =
    let more = length-sending (wire ++ record { epoch = epoch; frame = frame } ∷ []) epoch frames in
    let one = sent_one wire (record { epoch = epoch; frame = frame }) in
    omega (arith, more, one)

sent_up : (up : Bool) (wire : List Sent) (epoch : ℕ) (frames : List Frame) → up ≡ true → length (sending_if up wire epoch frames) ≡ length wire + length frames
sent_up up wire epoch frames is = ap (λ b. length (sending_if b wire epoch frames)) is ∙ length-sending wire epoch frames

-- The destination has ended: its requests are taken, and then Done

ended_by : (epoch : ℕ) (frame : Frame) (rest : List Sent) (world : World) → world.back.frames ≡ record { epoch = epoch; frame = frame } ∷ rest → is_request frame ≡ true → IsStopped world → IsDue world (Step.DeliverBack all_bytes)
ended_by epoch (Request page) rest world first request is =
    let at = is.at in
    let sent : Sent = record { epoch = epoch; frame = Request page } in
    let new = after_deliver_back world sent rest in
    let old_left = left_up world SourcePhase.Stopped at.up at.phase in
    let new_left = left_up new SourcePhase.Stopped at.up at.phase in
    let taken = ap length first in
    due_by world new (Step.DeliverBack all_bytes) _ (back_answer world sent rest first is.good (ap is_source_idle at.phase) at.up) (omega (arith, old_left, new_left, taken)) (λ _. goes_up new at.up (ap is_source_idle at.phase))
ended_by epoch _ rest world first request is = absurd (false≢true request)

done_due : (epoch : ℕ) (rest : List Sent) (world : World) → world.back.frames ≡ record { epoch = epoch; frame = Done } ∷ rest → IsStopped world → IsDue world (Step.DeliverBack all_bytes)
done_due epoch rest world first is =
    let at = is.at in
    let sent : Sent = record { epoch = epoch; frame = Done } in
    let new = after_deliver_back world sent rest in
    let old_left = left_up world SourcePhase.Stopped at.up at.phase in
    let new_left = left_up new SourcePhase.Released at.up refl in
    let taken = ap length first in
    due_by world new (Step.DeliverBack all_bytes) _ (back_answer world sent rest first is.good (ap is_source_idle at.phase) at.up) (omega (arith, old_left, new_left, taken)) (λ _. goes_up new at.up refl)

ended_frame : (epoch : ℕ) (frame : Frame) (rest : List Sent) (world : World) → world.back.frames ≡ record { epoch = epoch; frame = frame } ∷ rest → are_requests_and_done (record { epoch = epoch; frame = frame } ∷ rest) ≡ true → IsStopped world → IsDue world (Step.DeliverBack all_bytes)
ended_frame epoch (Request page) rest world first right is = ended_by epoch (Request page) rest world first refl is
ended_frame epoch Done rest world first right is = done_due epoch rest world first is
ended_frame epoch _ rest world first right is = absurd (false≢true right)

ended_frames : (frames : List Sent) (world : World) → world.back.frames ≡ frames → are_requests_and_done frames ≡ true → IsStopped world → IsDue world (Step.DeliverBack all_bytes)
ended_frames [] world first right is = absurd (false≢true right)
ended_frames (sent ∷ rest) world first right is = ended_frame sent.epoch sent.frame rest world first right is

pub ended_due : (world : World) → world.destination.phase ≡ DestPhase.Ended → IsStopped world → IsDue world (Step.DeliverBack all_bytes)
ended_due world ended is = ended_frames world.back.frames world refl (wires_at SourcePhase.Stopped DestPhase.Ended world ended is.at).1 is

-- The destination runs

-- a copy came, or Done is answered
pushed_few : (node : Destination) (epoch : ℕ) (frame : Frame) → is_some (flow_next Pushed frame) ≡ true → length (destination_took node epoch frame).arrivals + length (destination_answers node frame) ≤ length node.arrivals + 1
pushed_few node epoch frame in_place = grind (arith, nat_tests, one_more, none_more)

-- the destination runs, and End was sent in this epoch
record IsDraining (world : World) : Type 0 where
  is : IsStopped world
  told : eqb world.source.end_epoch world.source.epoch ≡ true
  runs : world.destination.phase ≡ DestPhase.Running

urgent_due : (world : World) (sent : Sent) (rest : List Sent) → world.urgent.frames ≡ sent ∷ rest → IsDraining world → IsDue world (Step.DeliverUrgent all_bytes)
urgent_due world sent rest first draining =
    let at = draining.is.at in
    let new = after_deliver_urgent world sent rest in
    let old_left = left_up world SourcePhase.Stopped at.up at.phase in
    let new_left = left_up new SourcePhase.Stopped at.up at.phase in
    let node = urgent_took-next world.destination sent.frame in
    let taken = ap length first in
    let messages = ap unread node.guest in
    let arrived = node.arrived in
    due_by world new (Step.DeliverUrgent all_bytes) _ (urgent_answer world sent rest first draining.is.good (running-has_run world draining.is.at.order draining.runs) at.up) (omega (arith, old_left, new_left, taken, messages, arrived)) (λ _. goes_up new at.up (ap is_source_idle at.phase))

dest_read_due : (world : World) (event : Noted) (events : List Noted) → world.destination.guest.space.object.events ≡ event ∷ events → IsDraining world → IsDue world Step.DestRead
dest_read_due world event events unquiet draining =
    let at = draining.is.at in
    let found = next_some world.destination.guest.space.object event events unquiet in
    let new = after_dest_read world found.0 in
    let old_left = left_up world SourcePhase.Stopped at.up at.phase in
    let new_left = left_up new SourcePhase.Stopped at.up at.phase in
    let less = read_unread world.destination.guest found.0 found.1 in
    due_by world new Step.DestRead _ (answers-dest_read world found.0 (running-has_run world draining.is.at.order draining.runs) found.1) (omega (arith, old_left, new_left, less)) (λ _. goes_up new at.up (ap is_source_idle at.phase))

install_due : (world : World) (copy : Copy) (rest : List Copy) → world.destination.arrivals ≡ copy ∷ rest → is_changing world.destination.guest ≡ false → IsDraining world → IsDue world Step.Install
install_due world copy rest first quiet draining =
    let at = draining.is.at in
    let new = after_install world copy rest in
    let old_left = left_up world SourcePhase.Stopped at.up at.phase in
    let new_left = left_up new SourcePhase.Stopped at.up at.phase in
    let node = install_by-next (home world.destination.owed copy.page) world.destination copy rest in
    let waited = ap length first in
    let waits = ap length node.arrivals in
    let messages = ap (λ (object : Object). length object.faults + length object.events) node.object in
    due_by world new Step.Install _ (answers-install world copy rest (running-has_run world draining.is.at.order draining.runs) first quiet) (omega (arith, old_left, new_left, waited, waits, messages)) (λ _. goes_up new at.up (ap is_source_idle at.phase))

pushed_due : (world : World) (sent : Sent) (rest : List Sent) → world.forward.frames ≡ sent ∷ rest → world.urgent.frames ≡ [] → world.destination.arrivals ≡ [] → IsDraining world → IsDue world (Step.Deliver all_bytes)
pushed_due world sent rest first none free draining =
    let at = draining.is.at in
    let new = after_deliver world sent rest in
    let old_left = left_up world SourcePhase.Stopped at.up at.phase in
    let new_left = left_up new SourcePhase.Stopped at.up at.phase in
    let comes_so = placed world sent rest at.order.kept first at.up in
    let in_place : is_some (flow_next Pushed sent.frame) ≡ true = subst (λ p. comes SourcePhase.Stopped p sent.frame ≡ true) draining.runs (subst (λ p. comes p world.destination.phase sent.frame ≡ true) at.phase comes_so) in
    let node = pushed-next world.destination sent.epoch sent.frame in_place in
    let counted = at.order.urgent.counted at.up (λ paused. let h : DestPhase.Running ≡ DestPhase.Paused = sym draining.runs ∙ paused in cc) ∙ ap (λ frames. world.destination.urgent_taken + length frames) none in
    let told = subst (AreTold world.source.epoch world.source.end_epoch world.source.urgent_sent) first at.order.urgent.told in
    let taken = ap length first in
    let messages = ap unread node.guest in
    let arrived = node.arrived in
    let back = sent_up world.up world.back.frames (destination_took world.destination sent.epoch sent.frame).epoch (destination_answers world.destination sent.frame) at.up in
    let few = pushed_few world.destination sent.epoch sent.frame in_place in
    due_by world new (Step.Deliver all_bytes) _
    (deliver_answer world sent rest first draining.is.good (ap is_source_idle at.phase) at.up (ap (λ arrivals. is_end sent.frame && not (is_empty arrivals)) free ∙ and_false (is_end sent.frame))
    (none_early world.destination world.source.epoch world.source.end_epoch world.source.urgent_sent sent.frame told.0 counted))
    (omega (arith, old_left, new_left, taken, messages, arrived, back, few)) (λ _. goes_up new at.up (ap is_source_idle at.phase))

-- a source that has sent End is at the end of the flow
flow_at_end : (source : Source) → eqb source.end_epoch source.epoch ≡ true → flow_of source ≡ AfterEnd
flow_at_end source told = ap (λ b. if b then AfterEnd else Pushed) told

running_forward : (frames : List Sent) (world : World) → world.forward.frames ≡ frames → world.urgent.frames ≡ [] → world.destination.arrivals ≡ [] → IsDraining world → IsDue world (Step.Deliver all_bytes)
running_forward [] world first none free draining =
    absurd (not_at_end Pushed world.source world.forward.frames (λ h. let no = h in cc) (flow_at_end world.source draining.told) (wires_at SourcePhase.Stopped DestPhase.Running world draining.runs draining.is.at).0 first)
running_forward (sent ∷ rest) world first none free draining = pushed_due world sent rest first none free draining

-- By tests

by_if : (world : World) (test : Bool) (one other : Step) → (test ≡ true → IsDue world one) → (test ≡ false → IsDue world other) → IsDue world (if test then one else other)
by_if world true one other holds fails = holds refl
by_if world false one other holds fails = fails refl

record HasFirst {A : Type 0} (items : List A) : Type 0 where
  first : A
  rest : List A
  is : items ≡ first ∷ rest

first_of : {A : Type 0} (items : List A) → is_empty items ≡ false → HasFirst items
first_of [] some = absurd (false≢true (sym some))
first_of (first ∷ rest) some = record { first = first; rest = rest; is = refl }

none_of : {A : Type 0} (items : List A) → is_empty items ≡ true → items ≡ []
none_of [] none = refl
none_of (first ∷ rest) none = absurd (false≢true none)

event_of : (events : List Noted) → ltb 0 (length events) ≡ true → is_empty events ≡ false
event_of [] some = absurd (grind (arith, nat_tests))
event_of (event ∷ events) some = refl

running_due : (world : World) → IsDraining world → IsDue world (running_step world)
running_due world draining =
    by_if world (not (is_empty world.urgent.frames)) _ _
    (λ some. let urgent = first_of world.urgent.frames (not-true _ some) in urgent_due world urgent.first urgent.rest urgent.is draining)
    (λ none.
    let quiet = none_of world.urgent.frames (not-false _ none) in
    by_if world (is_empty world.destination.arrivals) _ _
    (λ free. running_forward world.forward.frames world refl quiet (none_of world.destination.arrivals free) draining)
    (λ waits.
    let copy = first_of world.destination.arrivals waits in
    by_if world (is_changing world.destination.guest) _ _
    (λ changing. let event = first_of world.destination.guest.space.object.events (event_of _ changing) in dest_read_due world event.first event.rest event.is draining)
    (λ settled. install_due world copy.first copy.rest copy.is settled draining)))

-- The destination has not run: the frames up to the Package are taken

ran_not : (to : DestPhase) (ran ended : Bool) → is_waiting to ≡ true → RanAt to ran ended → ran ≡ false
ran_not to ran ended waits at = grind (arith, nat_tests)

-- a destination that took such a frame: no copy waits to be installed, there is nothing to read, and nothing is answered
record IsQuiet (old new : Destination) (frame : Frame) : Type 0 where
  arrived : length new.arrivals ≤ length old.arrivals
  messages : unread new.guest ≤ unread old.guest
  silent : length (destination_answers old frame) ≡ 0
  other : is_end frame ≡ false
  late : is_early old frame ≡ false

same_or_less : (n : ℕ) → n ≤ n
same_or_less n = omega arith

none_or_less : (n : ℕ) → 0 ≤ n
none_or_less n = omega arith

quiet_took : (to : DestPhase) (node : Destination) (epoch : ℕ) (frame : Frame) → is_waiting to ≡ true → is_some (flow_next (waiting_flow to) frame) ≡ true → node.has_run ≡ false → IsQuiet node (destination_took node epoch frame) frame
unfolding waiting_flow
quiet_took to node epoch frame waits in_place ran = grind (arith, nat_tests, same_or_less, none_or_less)

in_place_by : (next : Option Flow) (rest : List Sent) (end : Flow) → option_and_then (λ next. flow_after next rest) next ≡ Some end → is_some next ≡ true
in_place_by (Some next) rest end h = refl
in_place_by None rest end h = absurd (let no = h in cc)

waiting_by : (frames : List Sent) (world : World) → world.forward.frames ≡ frames → is_waiting world.destination.phase ≡ true → eqb world.source.end_epoch world.source.epoch ≡ true → IsStopped world → IsDue world (Step.Deliver all_bytes)
waiting_by [] world first waits told is =
    absurd (not_at_end (waiting_flow world.destination.phase) world.source world.forward.frames (waiting-not_ended world.destination.phase) (flow_at_end world.source told) (waiting_wire world.destination.phase world waits refl is.at) first)
waiting_by (sent ∷ rest) world first waits told is =
    let at = is.at in
    let new = after_deliver world sent rest in
    let old_left = left_up world SourcePhase.Stopped at.up at.phase in
    let new_left = left_up new SourcePhase.Stopped at.up at.phase in
    let flow = ap (flow_after (waiting_flow world.destination.phase)) (sym first) ∙ waiting_wire world.destination.phase world waits refl at in
    let ran = ran_not world.destination.phase world.destination.has_run world.destination.ended waits at.order.kept.phases.destination_phase in
    let node = quiet_took world.destination.phase world.destination sent.epoch sent.frame waits (in_place_by (flow_next (waiting_flow world.destination.phase) sent.frame) rest (flow_of world.source) flow) ran in
    let taken = ap length first in
    let arrived = node.arrived in
    let messages = node.messages in
    let silent = node.silent in
    let back = sent_up world.up world.back.frames (destination_took world.destination sent.epoch sent.frame).epoch (destination_answers world.destination sent.frame) at.up in
    due_by world new (Step.Deliver all_bytes) _
    (deliver_answer world sent rest first is.good (ap is_source_idle at.phase) at.up (ap (λ b. b && not (is_empty world.destination.arrivals)) node.other) node.late)
    (omega (arith, old_left, new_left, taken, arrived, messages, silent, back)) (λ _. goes_up new at.up (ap is_source_idle at.phase))

waiting_due : (to : DestPhase) (world : World) → world.destination.phase ≡ to → is_waiting to ≡ true → eqb world.source.end_epoch world.source.epoch ≡ true → IsStopped world → IsDue world (Step.Deliver all_bytes)
waiting_due to world phase waits told is = waiting_by world.forward.frames world refl (ap is_waiting phase ∙ waits) told is

-- Once End is sent

told_due : (to : DestPhase) (world : World) → world.destination.phase ≡ to → eqb world.source.end_epoch world.source.epoch ≡ true → IsStopped world → IsDue world (delivering_step to world)
told_due DestPhase.Idle world phase told is = waiting_due DestPhase.Idle world phase refl told is
told_due DestPhase.Advised world phase told is = waiting_due DestPhase.Advised world phase refl told is
told_due DestPhase.Discarding world phase told is = waiting_due DestPhase.Discarding world phase refl told is
told_due DestPhase.Running world phase told is = running_due world (record { is = is; told = told; runs = phase })
told_due DestPhase.Paused world phase told is = absurd (wires_at SourcePhase.Stopped DestPhase.Paused world phase is.at)
told_due DestPhase.Ended world phase told is = ended_due world phase is

-- The source has stopped

stopped_at : (least : Option ℕ) (world : World) → least_of world.source.remaining ≡ least → IsStopped world → IsDue world (stopped_by least world)
stopped_at (Some page) world found is = push_due world page found is
stopped_at None world none is = by_if world (eqb world.source.end_epoch world.source.epoch) _ _ (λ told. told_due world.destination.phase world refl told is) (λ other. end_due world other none is)

pub stopped_due : (world : World) → IsStopped world → IsDue world (stopped_step world)
stopped_due world is = stopped_at (least_of world.source.remaining) world refl is

-- The source waits for a report

pub record IsWaiting (world : World) : Type 0 where
  pub reached : IsReached world
  pub at : IsUpAt SourcePhase.Paused world
  pub good : HasGoodFrames world

-- what a destination that takes Resume keeps, and how much it reports
record IsResumed (old new : Destination) (frames : List Frame) : Type 0 where
  awake : is_dest_paused new.phase ≡ false
  arrivals : new.arrivals ≡ old.arrivals
  guest : new.guest ≡ old.guest
  few : length frames ≤ 1 + length old.requests

resumed : (received : Received) (node : Destination) (epoch : ℕ) → IsResumed node (resumed_by received (record node { epoch = epoch; urgent_taken = 0 })) (recv_by received node)
resumed Received.NotRun node epoch = record { awake = refl; arrivals = refl; guest = refl; few = omega arith }
resumed Received.Running node epoch = record { awake = refl; arrivals = refl; guest = refl; few = let same = length-map node.requests Request in omega (arith, same) }
resumed Received.Ended node epoch = record { awake = refl; arrivals = refl; guest = refl; few = omega arith }

resume_due : (world : World) → world.destination.phase ≡ DestPhase.Paused → IsWaiting world → IsDue world (Step.Deliver all_bytes)
resume_due world phase is =
    let at = is.at in
    let wires = wires_at SourcePhase.Paused DestPhase.Paused world phase at in
    let sent : Sent = record { epoch = world.source.epoch; frame = Resume } in
    let new = after_deliver world sent [] in
    let node = resumed (received_of world.destination) world.destination world.source.epoch in
    let old_left = left_up world SourcePhase.Paused at.up at.phase ∙ ap (λ p. if is_dest_paused p then reported world + 10 else before_push world + (left_to_handle world + length world.back.frames) + 8) phase in
    let new_left = left_up new SourcePhase.Paused at.up at.phase ∙ ap (λ b. if b then reported new + 10 else before_push new + (left_to_handle new + length new.back.frames) + 8) node.awake in
    let none = ap length wires.1 in
    let copies = ap length node.arrivals in
    let messages = ap unread node.guest in
    let few = node.few in
    let back = sent_up world.up world.back.frames (destination_took world.destination world.source.epoch Resume).epoch (destination_answers world.destination Resume) at.up in
    due_by world new (Step.Deliver all_bytes) _ (deliver_answer world sent [] wires.0 is.good (ap is_source_idle at.phase) at.up refl refl) (omega (arith, old_left, new_left, none, copies, messages, few, back)) (λ _. goes_up new at.up (ap is_source_idle at.phase))

-- the report is taken: a frame Recv that is the first of the wire back
record HasReport (world : World) : Type 0 where
  waits : IsWaiting world
  awake : is_dest_paused world.destination.phase ≡ false
  forward : world.forward.frames ≡ []
  epoch : ℕ
  state : Received
  owed : FinSet nat_cmp
  rest : List Sent
  first : world.back.frames ≡ record { epoch = epoch; frame = Recv state owed } ∷ rest
  switched : state ≢ Received.NotRun → world.source.switched ≡ true

report_left : (world : World) → HasReport world → steps_left world ≡ before_push world + (left_to_handle world + length world.back.frames) + 8
report_left world has =
    left_up world SourcePhase.Paused has.waits.at.up has.waits.at.phase ∙ ap (λ b. if b then reported world + 10 else before_push world + (left_to_handle world + length world.back.frames) + 8) has.awake

report_answer : (world : World) (has : HasReport world) → answer world (Step.DeliverBack all_bytes) ≡ made (frame_effect (Recv has.state has.owed)) (after_deliver_back world (record { epoch = has.epoch; frame = Recv has.state has.owed }) has.rest)
report_answer world has = back_answer world (record { epoch = has.epoch; frame = Recv has.state has.owed }) has.rest has.first has.waits.good (ap is_source_idle has.waits.at.phase) has.waits.at.up

-- the world once the source has become this node, and has sent these frames
abbrev rebuilt_world : World → List Sent → Source → List Frame → World
rebuilt_world world rest node frames = record world { source = node; back = wire_behind rest; forward = wire_with world.forward node.epoch frames }

rebuilt_as : (world : World) (has : HasReport world) (node : Source) (frames : List Frame) → source_rebuilt has.state has.owed world.source ≡ node → rebuild_frames has.state world.source ≡ frames →
    answer world (Step.DeliverBack all_bytes) ≡ made (frame_effect (Recv has.state has.owed)) (rebuilt_world world has.rest node frames)
rebuilt_as world has node frames is sends = report_answer world has ∙ (λ i. made (frame_effect (Recv has.state has.owed)) (rebuilt_world world has.rest (is i) (sends i)))

-- the source continues as a stopped one: what remains are pages that it has
rebuilt_stopped : (world : World) (has : HasReport world) (node : Source) (frames : List Frame) → source_rebuilt has.state has.owed world.source ≡ node → rebuild_frames has.state world.source ≡ frames →
    node.phase ≡ SourcePhase.Stopped → node.switched ≡ true → len (present (space_of node)) ≡ len (present (space_of world.source)) → length frames ≤ 2 → IsDue world (Step.DeliverBack all_bytes)
rebuilt_stopped world has node frames is sends phase switched pages most =
    let at = has.waits.at in
    let new = rebuilt_world world has.rest node frames in
    let answered = rebuilt_as world has node frames is sends in
    let old_left = report_left world has in
    let new_left = left_up new SourcePhase.Stopped at.up phase in
    let few = (few_next world new (Step.DeliverBack all_bytes) _ has.waits.reached answered).few switched (ap is_released phase) in
    let unended = one_if-most (not (eqb node.end_epoch node.epoch)) in
    let forward = length-sending world.forward.frames node.epoch frames in
    let none = ap length has.forward in
    let urgent = ap length (at.order.urgent.stopped (ap is_stopped at.phase)) in
    let taken = ap length has.first in
    due_by world new (Step.DeliverBack all_bytes) _ answered (omega (arith, old_left, new_left, few, unended, forward, none, urgent, taken, pages, most)) (λ _. goes_up new at.up (ap is_source_idle phase))

-- as one that makes rounds
rebuilt_precopy : (world : World) (has : HasReport world) → has.state ≡ Received.NotRun → world.source.switched ≡ false → IsDue world (Step.DeliverBack all_bytes)
rebuilt_precopy world has state switched =
    let at = has.waits.at in
    let node : Source = record world.source { phase = SourcePhase.Precopy; asked = []; log = forgotten world.source.log } in
    let stopped : Source = record world.source { phase = SourcePhase.Stopped; asked = []; remaining = present (space_of world.source); packaged = len (present (space_of world.source)) } in
    let new = rebuilt_world world has.rest node [] in
    let answered =
    rebuilt_as world has node [] (ap (λ state. source_rebuilt state has.owed world.source) state ∙ ap (λ b. if b then stopped else node) switched)
    (ap (λ state. rebuild_frames state world.source) state ∙ ap (λ b. if b then package_frames world.source no_pages (present (space_of world.source)) else []) switched) in
    let old_left = report_left world has in
    let new_left = left_up new SourcePhase.Precopy at.up refl in
    let none = ap length has.forward in
    let taken = ap length has.first in
    due_by world new (Step.DeliverBack all_bytes) _ answered (omega (arith, old_left, new_left, none, taken)) (λ _. goes_up new at.up refl)

rebuilt_again : (world : World) (has : HasReport world) → has.state ≡ Received.NotRun → world.source.switched ≡ true → IsDue world (Step.DeliverBack all_bytes)
rebuilt_again world has state switched =
    let node : Source = record world.source { phase = SourcePhase.Stopped; asked = []; remaining = present (space_of world.source); packaged = len (present (space_of world.source)) } in
    let rounds : Source = record world.source { phase = SourcePhase.Precopy; asked = []; log = forgotten world.source.log } in
    rebuilt_stopped world has node (package_frames world.source no_pages (present (space_of world.source))) (ap (λ state. source_rebuilt state has.owed world.source) state ∙ ap (λ b. if b then node else rounds) switched)
    (ap (λ state. rebuild_frames state world.source) state ∙ ap (λ b. if b then package_frames world.source no_pages (present (space_of world.source)) else []) switched) refl switched refl (omega arith)

rebuilt_running : (world : World) (has : HasReport world) → has.state ≡ Received.Running → IsDue world (Step.DeliverBack all_bytes)
rebuilt_running world has state =
    rebuilt_stopped world has (record world.source { phase = SourcePhase.Stopped; asked = []; remaining = has.owed }) [] (ap (λ state. source_rebuilt state has.owed world.source) state) (ap (λ state. rebuild_frames state world.source) state) refl
    (has.switched (λ not. let h : Received.Running ≡ Received.NotRun = sym state ∙ not in cc)) refl (omega arith)

rebuilt_ended : (world : World) (has : HasReport world) → has.state ≡ Received.Ended → IsDue world (Step.DeliverBack all_bytes)
rebuilt_ended world has state =
    let new = rebuilt_world world has.rest (released world.source) [] in
    let answered = rebuilt_as world has (released world.source) [] (ap (λ state. source_rebuilt state has.owed world.source) state) (ap (λ state. rebuild_frames state world.source) state) in
    let old_left = report_left world has in
    let new_left = left_up new SourcePhase.Released has.waits.at.up refl in
    due_by world new (Step.DeliverBack all_bytes) _ answered (omega (arith, old_left, new_left)) (λ _. goes_up new has.waits.at.up refl)

report_by : (state : Received) (world : World) (has : HasReport world) → has.state ≡ state → IsDue world (Step.DeliverBack all_bytes)
report_by Received.NotRun world has is = by_test world.source.switched (λ switched. rebuilt_again world has is switched) (λ not. rebuilt_precopy world has is not)
report_by Received.Running world has is = rebuilt_running world has is
report_by Received.Ended world has is = rebuilt_ended world has is

report_due : (world : World) → HasReport world → IsDue world (Step.DeliverBack all_bytes)
report_due world has = report_by has.state world has refl

-- by what the destination does
receiving : (state : Received) (world : World) → IsWaiting world → is_dest_paused world.destination.phase ≡ false → world.forward.frames ≡ [] → (source : Source) (destination : Destination) → IsReceiving source destination state world.back.frames → world.source.switched ≡ true → HasReport world
receiving state world is awake forward source destination received switched =
    record { waits = is; awake = awake; forward = forward; epoch = received.epoch; state = state; owed = received.owed; rest = received.rest; first = received.first; switched = λ _. switched }

waits_with : (world : World) (test : Bool) → is_empty world.forward.frames ≡ test → IsDue world (if test then Step.DeliverBack all_bytes else Step.Deliver all_bytes) → IsDue world (paused_step world)
waits_with world test is due = subst (λ b. IsDue world (if b then Step.DeliverBack all_bytes else Step.Deliver all_bytes)) (sym is) due

paused_by : (to : DestPhase) (world : World) → world.destination.phase ≡ to → IsWaiting world → IsDue world (paused_step world)
paused_by DestPhase.Idle world phase is = absurd (wires_at SourcePhase.Paused DestPhase.Idle world phase is.at)
paused_by DestPhase.Discarding world phase is = absurd (wires_at SourcePhase.Paused DestPhase.Discarding world phase is.at)
paused_by DestPhase.Paused world phase is =
    let wires = wires_at SourcePhase.Paused DestPhase.Paused world phase is.at in
    waits_with world false (ap is_empty wires.0) (resume_due world phase is)
paused_by DestPhase.Advised world phase is =
    let wires = wires_at SourcePhase.Paused DestPhase.Advised world phase is.at in
    waits_with world true (ap is_empty wires.0)
    (report_due world (record { waits = is; awake = ap is_dest_paused phase; forward = wires.0; epoch = world.source.epoch; state = Received.NotRun; owed = no_pages; rest = []; first = wires.1; switched = λ not. absurd (not refl) }))
paused_by DestPhase.Running world phase is =
    let wires = wires_at SourcePhase.Paused DestPhase.Running world phase is.at in
    let phases = is.at.order.kept.phases in
    let ran = (subst (λ p. RanAt p world.destination.has_run world.destination.ended) phase phases.destination_phase).0 in
    waits_with world true (ap is_empty wires.0) (report_due world (receiving Received.Running world is (ap is_dest_paused phase) wires.0 _ _ wires.1 (phases.ran_after_switch ran)))
paused_by DestPhase.Ended world phase is =
    let wires = wires_at SourcePhase.Paused DestPhase.Ended world phase is.at in
    let phases = is.at.order.kept.phases in
    let ended = subst (λ p. RanAt p world.destination.has_run world.destination.ended) phase phases.destination_phase in
    waits_with world true (ap is_empty wires.0) (report_due world (receiving Received.Ended world is (ap is_dest_paused phase) wires.0 _ _ wires.1 (phases.ran_after_switch (phases.ended_after_run ended))))

pub paused_due : (world : World) → IsWaiting world → IsDue world (paused_step world)
paused_due world is = paused_by world.destination.phase world refl is
