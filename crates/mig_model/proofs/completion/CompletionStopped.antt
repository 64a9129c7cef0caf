-- From a stopped source, while the link is up, the migration can be completed: what remains is pushed, End is sent, and what is in
-- flight is taken. Each step leaves less to do.
use Rattle.std.proofs.Common.{◌≡◌, ◌≢◌, ℕ, zero, suc, ◌+◌, ◌-◌, ◌*◌, ◌<◌, ◌≤◌, ◌&&◌, ◌⊎◌, inl, inr, ⊎_elim, Bool, true, false, cond, not, eqb, ltb, Option, Some, None, is_some, List, [], ◌∷◌, ◌++◌, length, length-append, refl, sym, ap, ◌∙◌, subst, arith}
use Rattle.std.specs.Ordering.{nat_cmp}
use Rattle.std.specs.FinSet as finset
use Rattle.std.specs.FinSet.{FinSet, contains, contains-empty, empty_of_len, len-remove}
use Rattle.std.proofs.lemmas.Cmp.{nat_cmp_total}
use Rattle.std.proofs.lemmas.Bool.{false≢true}
use Rattle.std.proofs.lemmas.Bool.Decides.{nat_tests}
use Rattle.mig_base.specs.declared.TheConstants.{HIGH_PAGE}
use Rattle.mig_base.specs.declared.message.Message.{Message}
use Rattle.mig_base.specs.declared.phase.DestPhase.{DestPhase}
use Rattle.mig_base.specs.declared.phase.SourcePhase.{SourcePhase}
use Rattle.foundation.specs.Tests.{is_empty}
use Rattle.foundation.proofs.RangeLemmas.{least_below_tells}
use Rattle.mig_base.specs.Userfault.{Noted, Object, first_noted, message_read, next_message, next_of}
use Rattle.mig_model.specs.Guest.{Guest, read_guest, is_changing}
use Rattle.mig_model.specs.Log.{least_of}
use Rattle.mig_model.specs.Owed.{home}
use Rattle.mig_model.specs.Source.{Source, is_released, is_source_idle, is_stopped, source_took}
use Rattle.mig_model.specs.Destination.{Destination, destination_took, install_by, urgent_took}
use Rattle.mig_model.specs.Wire.{Copy, Frame, Sent}
use Rattle.mig_model.specs.Migration.{World}
use Rattle.mig_model.specs.Faults.{is_early, is_end}
use Rattle.mig_model.proofs.steps.StepWorlds.{after_deliver, after_deliver_back, after_deliver_urgent, after_dest_read, after_install, after_push}
use Rattle.mig_model.specs.Invariant.{AreTold, Flow, IsTold, RanAt, Wires, flow_after, flow_next, flow_of}
use Rattle.mig_model.specs.Invariant.Flow.{BeforeAdvise, Copies, BeforePackage, Pushed, AfterEnd}
use Rattle.mig_model.specs.Promises.{CanComplete}
use Rattle.mig_model.proofs.delivery.Taken.{IsInPlaceBack}
use Rattle.mig_model.proofs.memory.Facts.{and_false}
use Rattle.mig_model.proofs.invariant.FirstFrame.{comes}
use Rattle.mig_model.proofs.delivery.FramesTaken.{is_taken_back}
use Rattle.mig_model.proofs.invariant.UrgentWire.{placed}
use Rattle.mig_model.proofs.steps.AcceptedSteps.{IsInOrder, complete_now, by_deliver, by_deliver_back, by_deliver_urgent, by_dest_read, by_end, by_install, by_push}

-- the link is up, and the source is in this phase
pub record IsUpAt (from : SourcePhase) (world : World) : Type 0 where
  pub order : IsInOrder world
  pub up : world.up ≡ true
  pub phase : world.source.phase ≡ from

-- what is in flight, in phases that are known
pub wires_at : (from : SourcePhase) (to : DestPhase) (world : World) → world.destination.phase ≡ to → IsUpAt from world →
    Wires (record world.source { phase = from }) (record world.destination { phase = to }) world.forward.frames world.back.frames world.urgent.frames
wires_at from to world is at =
    subst (λ p. Wires (record world.source { phase = p }) (record world.destination { phase = to }) world.forward.frames world.back.frames world.urgent.frames) at.phase
    (subst (λ p. Wires world.source (record world.destination { phase = p }) world.forward.frames world.back.frames world.urgent.frames) is (at.order.kept.flight.wires at.up))

-- The destination has ended: its requests are taken, and then Done

took_back : (node : Source) (frame : Frame) → node.phase ≡ SourcePhase.Stopped → IsInPlaceBack node frame → ((source_took node frame).phase ≡ SourcePhase.Stopped) ⊎ ((source_took node frame).phase ≡ SourcePhase.Released)
took_back node frame stopped in_place = grind (arith, nat_tests)

ended_by : (frames : List Sent) (world : World) → world.back.frames ≡ frames → IsUpAt SourcePhase.Stopped world → world.destination.phase ≡ DestPhase.Ended → CanComplete world
ended_by [] world first at ended = grind (arith, nat_tests, wires_at)
ended_by (sent ∷ rest) world first at ended =
    by_deliver_back world sent rest first (ap is_source_idle at.phase) at.up at.order (λ order.
    ⊎_elim
    (λ (stopped : (after_deliver_back world sent rest).source.phase ≡ SourcePhase.Stopped). ended_by rest (after_deliver_back world sent rest) refl (record { order = order; up = at.up; phase = stopped }) ended)
    (λ (released : (after_deliver_back world sent rest).source.phase ≡ SourcePhase.Released). complete_now (after_deliver_back world sent rest) (ap is_released released))
    (took_back world.source sent.frame at.phase (is_taken_back world sent rest at.order.kept at.up first)))

-- The destination runs: the urgent frames are taken, then what has come is installed once no event is unread, then the next frame is
-- taken

-- how many messages are unread
pub unread : Object → ℕ
unread object = length object.faults + length object.events

-- how much is left once End is sent: twice the frames to the destination, since a copy is taken and then installed
work : World → ℕ
work world = 2 * (length world.forward.frames + length world.urgent.frames) + (length world.destination.arrivals + unread world.destination.guest.space.object)

-- a message that is read is unread no longer
pub read-less : (object : Object) (noted : Noted) → next_message object ≡ Some noted → unread (message_read object) + 1 ≡ unread object
unfolding unread
read-less object noted is = grind (arith, nat_tests)

pub read_object : (guest : Guest) (cpu : ℕ) (message : Message) → (read_guest guest cpu message).space.object ≡ message_read guest.space.object
read_object guest cpu message = grind (arith, nat_tests)

first_of : (faults events : List Noted) (event : Noted) (more : List Noted) → events ≡ event ∷ more → (noted : Noted) × (next_of faults events ≡ Some noted)
first_of [] events event more is = (event, ap first_noted is)
first_of (fault ∷ faults) events event more is = (fault, refl)

-- where an event is unread there is a message to read
pub next_some : (object : Object) (event : Noted) (more : List Noted) → object.events ≡ event ∷ more → (noted : Noted) × (next_message object ≡ Some noted)
next_some object event more is = first_of object.faults object.events event more is

-- a destination that took a frame: no more than one copy came, its guest is as it was, and it runs unless it has ended
pub record IsNext (old new : Destination) : Type 0 where
  pub arrived : length new.arrivals ≤ length old.arrivals + 1
  pub guest : new.guest ≡ old.guest
  pub phase : (new.phase ≡ old.phase) ⊎ (new.phase ≡ DestPhase.Ended)

pub one_more : (arrivals : List Copy) (copy : Copy) → length (arrivals ++ copy ∷ []) ≤ length arrivals + 1
one_more arrivals copy = let more = length-append arrivals (copy ∷ []) in omega (arith, more)

pub none_more : (arrivals : List Copy) → length arrivals ≤ length arrivals + 1
none_more arrivals = omega arith

pub pushed-next : (node : Destination) (epoch : ℕ) (frame : Frame) → is_some (flow_next Pushed frame) ≡ true → IsNext node (destination_took node epoch frame)
pushed-next node epoch frame in_place = grind (arith, nat_tests, one_more, none_more)

pub urgent_took-next : (node : Destination) (frame : Frame) → IsNext node (urgent_took node frame)
urgent_took-next node frame = grind (arith, nat_tests, one_more)

-- a copy that is installed or dropped waits no longer, and Install reads no message
pub record IsInstalled (old new : Destination) (rest : List Copy) : Type 0 where
  pub arrivals : new.arrivals ≡ rest
  pub object : new.guest.space.object ≡ old.guest.space.object
  pub phase : new.phase ≡ old.phase

pub install_by-next : (page : Option ℕ) (node : Destination) (copy : Copy) (rest : List Copy) → IsInstalled node (install_by page node copy rest) rest
install_by-next page node copy rest = grind (arith, nat_tests)

-- a destination that runs has run
pub running-has_run : (world : World) → IsInOrder world → world.destination.phase ≡ DestPhase.Running → world.destination.has_run ≡ true
running-has_run world order runs = (subst (λ p. RanAt p world.destination.has_run world.destination.ended) runs order.kept.phases.destination_phase).0

-- the destination runs, and End was sent in this epoch
record IsDraining (world : World) : Type 0 where
  at : IsUpAt SourcePhase.Stopped world
  told : flow_of world.source ≡ AfterEnd
  runs : world.destination.phase ≡ DestPhase.Running

-- from every world that has less left, and where the destination runs or has ended, the migration can be completed
Again : World → Type 0
Again world = (new : World) → work new < work world → IsUpAt SourcePhase.Stopped new → flow_of new.source ≡ AfterEnd → (new.destination.phase ≡ DestPhase.Running) ⊎ (new.destination.phase ≡ DestPhase.Ended) → CanComplete new

still_runs : (old new : DestPhase) → old ≡ DestPhase.Running → (new ≡ old) ⊎ (new ≡ DestPhase.Ended) → (new ≡ DestPhase.Running) ⊎ (new ≡ DestPhase.Ended)
still_runs old new runs h = ⊎_elim (λ same. inl (same ∙ runs)) (λ ended. inr ended) h

urgent_step : (world : World) (sent : Sent) (rest : List Sent) → world.urgent.frames ≡ sent ∷ rest → IsDraining world → Again world → CanComplete world
unfolding Again work
urgent_step world sent rest first draining again =
    let node = urgent_took-next world.destination sent.frame in
    let taken = ap length first in
    let object = ap (λ (guest : Guest). unread guest.space.object) node.guest in
    let arrived = node.arrived in
    by_deliver_urgent world sent rest first (running-has_run world draining.at.order draining.runs) draining.at.up draining.at.order (λ order.
    again (after_deliver_urgent world sent rest) (omega (arith, taken, object, arrived)) (record { order = order; up = draining.at.up; phase = draining.at.phase }) draining.told (still_runs world.destination.phase _ draining.runs node.phase))

read_step : (world : World) (noted : Noted) → next_message world.destination.guest.space.object ≡ Some noted → IsDraining world → Again world → CanComplete world
unfolding Again work
read_step world noted is draining again =
    let less = read-less world.destination.guest.space.object noted is in
    let object = ap unread (read_object world.destination.guest noted.cpu noted.message) in
    by_dest_read world noted (running-has_run world draining.at.order draining.runs) is draining.at.order (λ order.
    again (after_dest_read world noted) (omega (arith, less, object)) (record { order = order; up = draining.at.up; phase = draining.at.phase }) draining.told (inl draining.runs))

install_step : (world : World) (copy : Copy) (rest : List Copy) → world.destination.arrivals ≡ copy ∷ rest → is_changing world.destination.guest ≡ false → IsDraining world → Again world → CanComplete world
unfolding Again work
install_step world copy rest first quiet draining again =
    let node = install_by-next (home world.destination.owed copy.page) world.destination copy rest in
    let waited = ap length first in
    let waits = ap length node.arrivals in
    let object = ap unread node.object in
    by_install world copy rest (running-has_run world draining.at.order draining.runs) first quiet draining.at.order (λ order.
    again (after_install world copy rest) (omega (arith, waited, waits, object)) (record { order = order; up = draining.at.up; phase = draining.at.phase }) draining.told (inl (node.phase ∙ draining.runs)))

-- End does not come before an urgent frame
pub none_early : (node : Destination) (epoch end_epoch count : ℕ) (frame : Frame) → IsTold epoch end_epoch count frame → count ≡ node.urgent_taken + 0 → is_early node frame ≡ false
none_early node epoch end_epoch count frame told all = grind (arith, nat_tests)

deliver_step : (world : World) (sent : Sent) (rest : List Sent) → world.forward.frames ≡ sent ∷ rest → world.urgent.frames ≡ [] → world.destination.arrivals ≡ [] → IsDraining world → Again world → CanComplete world
unfolding Again work
deliver_step world sent rest first none free draining again =
    let comes_so = placed world sent rest draining.at.order.kept first draining.at.up in
    let in_place : is_some (flow_next Pushed sent.frame) ≡ true = subst (λ p. comes SourcePhase.Stopped p sent.frame ≡ true) draining.runs (subst (λ p. comes p world.destination.phase sent.frame ≡ true) draining.at.phase comes_so) in
    let node = pushed-next world.destination sent.epoch sent.frame in_place in
    let urgent = draining.at.order.urgent in
    let counted = urgent.counted draining.at.up (λ paused. let h : DestPhase.Running ≡ DestPhase.Paused = sym draining.runs ∙ paused in cc) ∙ ap (λ frames. world.destination.urgent_taken + length frames) none in
    let told = subst (AreTold world.source.epoch world.source.end_epoch world.source.urgent_sent) first urgent.told in
    let taken = ap length first in
    let object = ap (λ (guest : Guest). unread guest.space.object) node.guest in
    let arrived = node.arrived in
    by_deliver world sent rest first (ap is_source_idle draining.at.phase) draining.at.up (ap (λ arrivals. is_end sent.frame && not (is_empty arrivals)) free ∙ and_false (is_end sent.frame))
    (none_early world.destination world.source.epoch world.source.end_epoch world.source.urgent_sent sent.frame told.0 counted) draining.at.order (λ order.
    again (after_deliver world sent rest) (omega (arith, taken, object, arrived)) (record { order = order; up = draining.at.up; phase = draining.at.phase }) draining.told (still_runs world.destination.phase _ draining.runs node.phase))

-- the wire is not empty as long as End was not taken
pub not_at_end : (flow : Flow) (source : Source) (frames : List Sent) → flow ≢ AfterEnd → flow_of source ≡ AfterEnd → flow_after flow frames ≡ Some (flow_of source) → frames ≢ []
not_at_end flow source frames other told h none = grind (arith, nat_tests)

forward_step : (frames : List Sent) (world : World) → world.forward.frames ≡ frames → world.urgent.frames ≡ [] → world.destination.arrivals ≡ [] → IsDraining world → Again world → CanComplete world
forward_step frames world first none free draining again = grind (arith, nat_tests, deliver_step)

quiet_step : (copy : Copy) (rest : List Copy) (events : List Noted) (world : World) → world.destination.arrivals ≡ copy ∷ rest → world.destination.guest.space.object.events ≡ events → IsDraining world → Again world → CanComplete world
quiet_step copy rest [] world first quiet draining again = install_step world copy rest first (ap (λ events. ltb 0 (length events)) quiet) draining again
quiet_step copy rest (event ∷ events) world first unquiet draining again =
    let next = next_some world.destination.guest.space.object event events unquiet in
    read_step world next.0 next.1 draining again

arrivals_step : (arrivals : List Copy) (world : World) → world.destination.arrivals ≡ arrivals → world.urgent.frames ≡ [] → IsDraining world → Again world → CanComplete world
arrivals_step [] world free none draining again = forward_step world.forward.frames world refl none free draining again
arrivals_step (copy ∷ rest) world first none draining again = quiet_step copy rest world.destination.guest.space.object.events world first refl draining again

-- one step that leaves less
one_step : (urgent : List Sent) (world : World) → world.urgent.frames ≡ urgent → IsDraining world → Again world → CanComplete world
one_step urgent world none draining again = grind (arith, nat_tests, arrivals_step, urgent_step)

running_by : (n : ℕ) (world : World) → work world < n → IsUpAt SourcePhase.Stopped world → flow_of world.source ≡ AfterEnd → (world.destination.phase ≡ DestPhase.Running) ⊎ (world.destination.phase ≡ DestPhase.Ended) → CanComplete world
unfolding Again
running_by zero world few at told phase = absurd (omega (arith, few))
running_by (suc n) world few at told phase =
    ⊎_elim
    (λ runs. one_step world.urgent.frames world refl (record { at = at; told = told; runs = runs }) (λ new less. running_by n new (omega (arith, few, less))))
    (λ ended. ended_by world.back.frames world refl at ended)
    phase

-- The destination has not run: the frames up to the Package are taken

-- the phases before it runs
abbrev pub is_waiting : DestPhase → Bool
is_waiting DestPhase.Idle = true
is_waiting DestPhase.Advised = true
is_waiting DestPhase.Discarding = true
is_waiting phase = false

-- where the wire to it begins
unfoldable pub waiting_flow : DestPhase → Flow
waiting_flow DestPhase.Idle = BeforeAdvise
waiting_flow DestPhase.Advised = Copies
waiting_flow phase = BeforePackage

pub waiting-not_ended : (to : DestPhase) → waiting_flow to ≢ AfterEnd
unfolding waiting_flow
waiting-not_ended to h = grind (arith, nat_tests)

pub waiting_wire : (to : DestPhase) (world : World) → is_waiting to ≡ true → world.destination.phase ≡ to → IsUpAt SourcePhase.Stopped world → flow_after (waiting_flow to) world.forward.frames ≡ Some (flow_of world.source)
unfolding waiting_flow
waiting_wire to world waits is at = grind (arith, nat_tests)

-- a destination that has taken no End waits, runs or has ended
by_phase : (to : DestPhase) (world : World) → world.destination.phase ≡ to → IsUpAt SourcePhase.Stopped world → flow_of world.source ≡ AfterEnd → (is_waiting to ≡ true → CanComplete world) → CanComplete world
by_phase to world is at told waiting = grind (arith, nat_tests, running_by)

waiting_step : (world : World) (sent : Sent) (rest : List Sent) → world.forward.frames ≡ sent ∷ rest → IsUpAt SourcePhase.Stopped world → is_waiting world.destination.phase ≡ true →
    (IsUpAt SourcePhase.Stopped (after_deliver world sent rest) → CanComplete (after_deliver world sent rest)) → CanComplete world
waiting_step world sent rest first at waits can = grind (arith, nat_tests, by_deliver, and_false)

-- once End is sent, until it is taken
told_by : (frames : List Sent) (world : World) → world.forward.frames ≡ frames → IsUpAt SourcePhase.Stopped world → flow_of world.source ≡ AfterEnd → CanComplete world
told_by [] world none at told = grind (arith, nat_tests, by_phase, not_at_end, waiting_flow, waiting-not_ended, waiting_wire)
told_by (first ∷ rest) world is at told =
    by_phase world.destination.phase world refl at told (λ waits. waiting_step world first rest is at waits (λ new. told_by rest (after_deliver world first rest) refl new told))

-- The source: what remains is pushed, and End is sent

end_by : (ended : Bool) (world : World) → eqb world.source.end_epoch world.source.epoch ≡ ended → least_of world.source.remaining ≡ None → IsUpAt SourcePhase.Stopped world → CanComplete world
end_by ended world is none at = grind (arith, nat_tests, told_by, by_end)

some_member : (pages : FinSet nat_cmp) (page : ℕ) → contains pages page ≡ true → finset.len pages ≢ 0
some_member pages page there none = false≢true (sym (ap (λ s. contains s page) (empty_of_len pages none) ∙ contains-empty nat_cmp page) ∙ there)

fewer : (pages : FinSet nat_cmp) (page n : ℕ) → contains pages page ≡ true → finset.len pages < suc n → finset.len (finset.remove pages page) < n
fewer pages page n there few =
    let removed = len-remove nat_cmp_total pages page ∙ ap (λ b. cond b (finset.len pages - 1) (finset.len pages)) there in
    let some = some_member pages page there in
    omega (arith, few, removed, some)

-- a page that remains is pushed; where none does End is sent, unless it was
push_by : (n : ℕ) (world : World) → finset.len world.source.remaining < n → IsUpAt SourcePhase.Stopped world → CanComplete world
push_by zero world few at = absurd (omega (arith, few))
push_by (suc n) world few at =
    elim (least_of world.source.remaining) as (λ o. least_of world.source.remaining ≡ o → CanComplete world) [
      | None ↦ λ none. end_by (eqb world.source.end_epoch world.source.epoch) world refl none at
      | Some page ↦ λ found.
          let remains = least_below_tells (contains world.source.remaining) HIGH_PAGE page found in
          by_push world page (ap is_stopped at.phase) at.up (at.order.kept.pushing.remaining_present page remains) remains at.order (λ order.
          push_by n (after_push world page) (fewer world.source.remaining page n remains few) (record { order = order; up = at.up; phase = at.phase }))
    ] refl

pub stopped_completes : (world : World) → IsUpAt SourcePhase.Stopped world → CanComplete world
stopped_completes world at = push_by (suc (finset.len world.source.remaining)) world (omega arith) at
