-- What a Package or a Recv that is in flight tells, whatever the phases are; and what a Switch owes.
use Rattle.std.proofs.Common.{◌≡◌, ℕ, ◌&&◌, Bool, true, false, not, Option, Some, None, is_some, List, [], ◌∷◌, refl, sym, ap, ◌∙◌, subst, arith, IsOk, if◌then◌else◌}
use Rattle.std.specs.Option.{option_and_then}
use Rattle.std.specs.FinSet.{contains}
use Rattle.std.proofs.lemmas.Bool.Decides.{nat_tests}
use Rattle.std.proofs.lemmas.Bool.{false≢true, true_from_ne_false, and_parts, or_from}
use Rattle.std.proofs.lemmas.Option.{none-some}
use Rattle.mig_base.specs.declared.phase.DestPhase.{DestPhase}
use Rattle.mig_base.specs.declared.phase.Received.{Received}
use Rattle.mig_base.specs.declared.phase.SourcePhase.{SourcePhase}
use Rattle.mig_base.specs.declared.schedule.Step.{Step}
use Rattle.foundation.specs.Tests.{is_empty}
use Rattle.mig_model.specs.Wire.{Frame, Sent, wire_with}
use Rattle.mig_model.specs.Guest.{is_present}
use Rattle.mig_model.specs.Source.{not_clean, space_of, switch_frames}
use Rattle.mig_model.specs.Migration.{World, outcome, next}
use Rattle.mig_model.specs.Whereabouts.{IsSwitching, IsReceiving, package_in, is_package, is_request, are_requests}
use Rattle.mig_model.specs.Invariant.{IsSoundWorld, Flow, flow_next, flow_after, is_done, are_requests_and_done}
use Rattle.mig_model.specs.Invariant.Flow.{BeforeAdvise, Copies, Pushed, AfterEnd}
use Rattle.mig_model.specs.Promises.{has_recv, is_running_recv}
use Rattle.mig_model.proofs.invariant.FirstFrame.{stays_late}
use Rattle.mig_model.proofs.invariant.Stopping.{in_phases, member_not_clean}
use Rattle.mig_model.proofs.steps.StepCases.{made-ok}
use Rattle.mig_model.proofs.memory.Facts.{either}

-- A Package in flight

-- the wire is past the place of the Package
abbrev is_past : Flow → Bool
is_past Pushed = true
is_past AfterEnd = true
is_past flow = false

past_next : (flow next : Flow) (frame : Frame) → is_past flow ≡ true → flow_next flow frame ≡ Some next → (is_past next ≡ true) × (is_package frame ≡ false)
past_next flow next frame past h = grind (arith, nat_tests)

not_here : (here : Bool) (frame : Frame) (rest : Option Frame) → here ≡ false → is_some (if here then Some frame else rest) ≡ true → is_some rest ≡ true
not_here here frame rest h there = grind (arith, nat_tests)

-- no Package comes any more
pub none_past : (flow end : Flow) (wire : List Sent) → is_past flow ≡ true → flow_after flow wire ≡ Some end → is_some (package_in wire) ≡ true → ⊥
none_past flow end [] past h there = false≢true there
none_past flow end (sent ∷ rest) past h there =
    elim (flow_next flow sent.frame) as (λ o. flow_next flow sent.frame ≡ o → option_and_then (λ next. flow_after next rest) o ≡ Some end → ⊥) [
      | None ↦ λ e g. none-some end g
      | Some next ↦ λ e g.
          let told = past_next flow next sent.frame past e in
          none_past next end rest told.0 g (not_here (is_package sent.frame) sent.frame (package_in rest) told.1 there)
    ] refl h

-- a Package goes to a later place, from which the wire does not come back
package_next : (flow next : Flow) (frame : Frame) → is_package frame ≡ true → flow_next flow frame ≡ Some next → next ≡ Pushed
package_next flow next frame is h = grind (arith, nat_tests)

here_or_later : {A : Type 0} (here : Bool) (frame : Frame) (rest : Option Frame) → is_some (if here then Some frame else rest) ≡ true → (here ≡ true → A) → (is_some rest ≡ true → A) → A
here_or_later here frame rest there now later = grind (arith, nat_tests)

pub none_precopy : (flow : Flow) (wire : List Sent) → flow_after flow wire ≡ Some Copies → is_some (package_in wire) ≡ true → ⊥
none_precopy flow [] h there = false≢true there
none_precopy flow (sent ∷ rest) h there =
    elim (flow_next flow sent.frame) as (λ o. flow_next flow sent.frame ≡ o → option_and_then (λ next. flow_after next rest) o ≡ Some Copies → ⊥) [
      | None ↦ λ e g. none-some Copies g
      | Some next ↦ λ e g.
          here_or_later (is_package sent.frame) sent.frame (package_in rest) there
          (λ is. stays_late Pushed rest refl (subst (λ f. flow_after f rest ≡ Some Copies) (package_next flow next sent.frame is e) g))
          (λ later. none_precopy next rest g later)
    ] refl h

no_package : (wire : List Sent) → wire ≡ [] → is_some (package_in wire) ≡ true → ⊥
no_package wire none there = false≢true (ap (λ w. is_some (package_in w)) (sym none) ∙ there)

package_in_phases : (from : SourcePhase) (to : DestPhase) (world : World) → world.up ≡ true → IsSoundWorld (in_phases from to world) → is_some (package_in world.forward.frames) ≡ true →
    IsSwitching (in_phases from to world).source world.destination.kept world.forward.frames world.urgent.frames
package_in_phases SourcePhase.Idle to world up kept there = absurd (no_package world.forward.frames (kept.flight.wires up).1 there)
package_in_phases SourcePhase.Precopy DestPhase.Idle world up kept there = absurd (none_precopy BeforeAdvise world.forward.frames (kept.flight.wires up).0 there)
package_in_phases SourcePhase.Precopy DestPhase.Advised world up kept there = absurd (none_precopy Copies world.forward.frames (kept.flight.wires up).0 there)
package_in_phases SourcePhase.Precopy DestPhase.Discarding world up kept there = absurd (kept.flight.wires up)
package_in_phases SourcePhase.Precopy DestPhase.Running world up kept there = absurd (kept.flight.wires up)
package_in_phases SourcePhase.Precopy DestPhase.Paused world up kept there = absurd (kept.flight.wires up)
package_in_phases SourcePhase.Precopy DestPhase.Ended world up kept there = absurd (kept.flight.wires up)
package_in_phases SourcePhase.Stopped DestPhase.Idle world up kept there = (kept.flight.wires up).2
package_in_phases SourcePhase.Stopped DestPhase.Advised world up kept there = (kept.flight.wires up).2
package_in_phases SourcePhase.Stopped DestPhase.Discarding world up kept there = (kept.flight.wires up).2
package_in_phases SourcePhase.Stopped DestPhase.Running world up kept there = absurd (none_past Pushed _ world.forward.frames refl (kept.flight.wires up).0 there)
package_in_phases SourcePhase.Stopped DestPhase.Paused world up kept there = absurd (kept.flight.wires up)
package_in_phases SourcePhase.Stopped DestPhase.Ended world up kept there = absurd (no_package world.forward.frames (kept.flight.wires up).0 there)
package_in_phases SourcePhase.Paused DestPhase.Idle world up kept there = absurd (kept.flight.wires up)
package_in_phases SourcePhase.Paused DestPhase.Advised world up kept there = absurd (no_package world.forward.frames (kept.flight.wires up).0 there)
package_in_phases SourcePhase.Paused DestPhase.Discarding world up kept there = absurd (kept.flight.wires up)
package_in_phases SourcePhase.Paused DestPhase.Running world up kept there = absurd (no_package world.forward.frames (kept.flight.wires up).0 there)
package_in_phases SourcePhase.Paused DestPhase.Paused world up kept there = absurd (false≢true (ap (λ w. is_some (package_in w)) (sym (kept.flight.wires up).0) ∙ there))
package_in_phases SourcePhase.Paused DestPhase.Ended world up kept there = absurd (no_package world.forward.frames (kept.flight.wires up).0 there)
package_in_phases SourcePhase.Released to world up kept there = absurd (no_package world.forward.frames (kept.flight.wires up).1 there)

pub package_tells : (world : World) → IsSoundWorld world → is_some (package_in world.forward.frames) ≡ true → IsSwitching world.source world.destination.kept world.forward.frames world.urgent.frames
package_tells world kept there =
    package_in_phases world.source.phase world.destination.phase world (true_from_ne_false world.up (λ down. no_package world.forward.frames (kept.flight.down down).0 there)) kept there

-- A Recv in flight

request_not : (frame : Frame) → is_request frame ≡ true → is_running_recv frame ≡ false
request_not frame h = grind (arith, nat_tests)

done_not : (frame : Frame) → is_done frame ≡ true → is_running_recv frame ≡ false
done_not frame h = grind (arith, nat_tests)

requests_no_recv : (wire : List Sent) → are_requests wire ≡ true → has_recv wire ≡ false
requests_no_recv [] h = refl
requests_no_recv (sent ∷ rest) h =
    let both = and_parts (is_request sent.frame) (are_requests rest) h in
    or_from (is_running_recv sent.frame) (has_recv rest) (request_not sent.frame both.0) (requests_no_recv rest both.1)

empty_no_recv : (wire : List Sent) → is_empty wire ≡ true → has_recv wire ≡ false
empty_no_recv wire h = grind (arith, nat_tests)

ended_no_recv : (wire : List Sent) → are_requests_and_done wire ≡ true → has_recv wire ≡ false
ended_no_recv [] h = absurd (false≢true h)
ended_no_recv (sent ∷ rest) h =
    either (is_request sent.frame && are_requests_and_done rest) (is_done sent.frame && is_empty rest) h
    (λ one. let both = and_parts (is_request sent.frame) (are_requests_and_done rest) one in or_from (is_running_recv sent.frame) (has_recv rest) (request_not sent.frame both.0) (ended_no_recv rest both.1))
    (λ two. let both = and_parts (is_done sent.frame) (is_empty rest) two in or_from (is_running_recv sent.frame) (has_recv rest) (done_not sent.frame both.0) (empty_no_recv rest both.1))

no_recv : {A : Type 0} (wire : List Sent) → has_recv wire ≡ false → has_recv wire ≡ true → A
no_recv wire none there = absurd (false≢true (sym none ∙ there))

recv_in_phases : (from : SourcePhase) (to : DestPhase) (world : World) → world.up ≡ true → IsSoundWorld (in_phases from to world) → has_recv world.back.frames ≡ true →
    IsReceiving (in_phases from to world).source (in_phases from to world).destination Received.Running world.back.frames
recv_in_phases from to world up kept there = grind (arith, nat_tests, requests_no_recv, ended_no_recv)

pub recv_tells : (world : World) → IsSoundWorld world → has_recv world.back.frames ≡ true → IsReceiving world.source world.destination Received.Running world.back.frames
recv_tells world kept there =
    recv_in_phases world.source.phase world.destination.phase world (true_from_ne_false world.up (λ down. no_recv world.back.frames (ap has_recv (kept.flight.down down).1) there)) kept there

-- Switch

pub owed_at : (world : World) (page : ℕ) → IsSoundWorld world → contains (not_clean world.source) page ≡ (is_present (space_of world.source) page && not (contains world.source.log.clean page))
owed_at world page kept = grind (arith, nat_tests, member_not_clean)

pub switch_owes : (world : World) (page : ℕ) → IsSoundWorld world → IsOk (outcome world Step.Switch) → contains (next world Step.Switch).source.remaining page ≡ (is_present (space_of world.source) page && not (contains world.source.log.clean page))
switch_owes world page kept ok =
    made-ok (λ new. contains new.source.remaining page ≡ (is_present (space_of world.source) page && not (contains world.source.log.clean page))) world Step.Switch
    (λ precopy up quiet. owed_at world page kept) ok

pub switch_sends : (world : World) → IsOk (outcome world Step.Switch) → (next world Step.Switch).forward ≡ wire_with world.forward world.source.epoch (switch_frames world.source)
switch_sends world ok =
    made-ok (λ new. new.forward ≡ wire_with world.forward world.source.epoch (switch_frames world.source)) world Step.Switch (λ precopy up quiet. refl) ok
