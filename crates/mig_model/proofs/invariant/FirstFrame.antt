-- Which frame can be the first of the wire to the destination: one that is in place.
use Rattle.std.proofs.lemmas.Bool.Decides.{nat_tests}
use Rattle.std.proofs.Common.{◌≡◌, Bool, true, false, Some, None, is_some, List, [], ◌∷◌, refl, sym, ap, ◌∙◌, arith}
use Rattle.std.specs.Option.{option_and_then}
use Rattle.std.proofs.lemmas.Bool.{false≢true}
use Rattle.std.proofs.lemmas.Option.{none-some}
use Rattle.mig_base.specs.declared.phase.DestPhase.{DestPhase}
use Rattle.mig_base.specs.declared.phase.SourcePhase.{SourcePhase}
use Rattle.mig_model.specs.Wire.{Frame, Sent}
use Rattle.mig_model.specs.Wire.Frame.{Page, Zero, Run, Resume}
use Rattle.mig_model.specs.Migration.{World, next}
use Rattle.mig_model.proofs.steps.StepWorlds.{after_deliver, after_deliver_back}
use Rattle.mig_model.specs.Invariant.{Flow, flow_next, flow_after, Wires}
use Rattle.mig_model.specs.Invariant.Flow.{BeforeAdvise, Copies, BeforePackage, Pushed, AfterEnd}
use Rattle.mig_model.specs.Source.{Source}
use Rattle.mig_model.specs.Destination.{Destination}

-- a world with these phases and wires. Each world is one with its own
abbrev pub at_state : SourcePhase → DestPhase → (ran up : Bool) → List Sent → World → World
at_state from to ran up wire world =
    record world { source = record world.source { phase = from }; destination = record world.destination { phase = to; has_run = ran }; forward = record world.forward { frames = wire }; up = up }

-- a world once the first frame of the wire is delivered, and once the first of the wire back is
abbrev pub delivered : World → List Sent → World
delivered world [] = world
delivered world (sent ∷ rest) = after_deliver world sent rest

abbrev pub delivered_back : World → List Sent → World
delivered_back world [] = world
delivered_back world (sent ∷ rest) = after_deliver_back world sent rest

-- Flows

pub empty_not : {A : Type 0} (x : A) (xs : List A) → x ∷ xs ≡ [] → ⊥
empty_not x xs h = cc

-- whether the Discard was on the wire
abbrev is_late : Flow → Bool
is_late BeforeAdvise = false
is_late Copies = false
is_late flow = true

late_next : (flow next : Flow) (frame : Frame) → is_late flow ≡ true → flow_next flow frame ≡ Some next → is_late next ≡ true
late_next flow next frame late h = grind (arith, nat_tests)

-- after a Discard the wire does not come back to copies that are kept
pub stays_late : (flow : Flow) (wire : List Sent) → is_late flow ≡ true → flow_after flow wire ≡ Some Copies → ⊥
stays_late flow [] late h = false≢true (ap (λ o. elim o [ None ↦ false | Some f ↦ is_late f ]) (sym h) ∙ late)
stays_late flow (sent ∷ wire) late h =
    elim (flow_next flow sent.frame) as (λ o. flow_next flow sent.frame ≡ o → option_and_then (λ next. flow_after next wire) o ≡ Some Copies → ⊥) [
      | None ↦ λ e g. none-some Copies g
      | Some next ↦ λ e g. stays_late next wire (late_next flow next sent.frame late e) g
    ] refl h

pub ends_late : (wire : List Sent) → flow_after BeforePackage wire ≡ Some Copies → ⊥
ends_late wire h = stays_late BeforePackage wire refl h

-- after End nothing comes
pub nothing_behind : (wire : List Sent) (flow : Flow) → flow_after AfterEnd wire ≡ Some flow → (wire ≡ []) × (flow ≡ AfterEnd)
nothing_behind [] flow h = (refl, ap (λ o. elim o [ None ↦ AfterEnd | Some f ↦ f ]) (sym h))
nothing_behind (sent ∷ wire) flow h = absurd (none-some flow h)

-- The first frame

-- whether a frame carries copies
abbrev has_copies : Frame → Bool
has_copies (Page page bytes) = true
has_copies (Zero page) = true
has_copies (Run first pages) = true
has_copies frame = false

-- whether a frame may be the first of the wire in these phases
abbrev pub comes : SourcePhase → DestPhase → Frame → Bool
comes SourcePhase.Precopy DestPhase.Idle frame = is_some (flow_next BeforeAdvise frame)
comes SourcePhase.Precopy DestPhase.Advised frame = has_copies frame
comes SourcePhase.Stopped DestPhase.Idle frame = is_some (flow_next BeforeAdvise frame)
comes SourcePhase.Stopped DestPhase.Advised frame = is_some (flow_next Copies frame)
comes SourcePhase.Stopped DestPhase.Discarding frame = is_some (flow_next BeforePackage frame)
comes SourcePhase.Stopped DestPhase.Running frame = is_some (flow_next Pushed frame)
comes SourcePhase.Paused DestPhase.Paused Resume = true
comes from to frame = false

in_place_by : (from : SourcePhase) (to : DestPhase) (source : Source) (destination : Destination) (sent : Sent) (rest back urgent : List Sent)
    → Wires (record source { phase = from }) (record destination { phase = to }) (sent ∷ rest) back urgent → comes from to sent.frame ≡ true
in_place_by from to source destination sent rest back urgent w = grind (arith, nat_tests, empty_not, ends_late)

-- while the link is up the first frame is never out of place
pub first_in_place : (source : Source) (destination : Destination) (sent : Sent) (rest back urgent : List Sent) → Wires source destination (sent ∷ rest) back urgent → comes source.phase destination.phase sent.frame ≡ true
first_in_place source destination sent rest back urgent w = in_place_by source.phase destination.phase source destination sent rest back urgent w
