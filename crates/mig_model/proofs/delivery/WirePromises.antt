-- What deliveries, installs and breaks take from the wires and the arrivals, and by which frames a migration completes.
use Rattle.std.proofs.lemmas.Bool.Decides.{nat_tests}
use Rattle.std.proofs.Common.{◌≡◌, ◌≢◌, ℕ, ◌*◌, true, false, Option, Some, None, List, ◌∷◌, refl, sym, ap, ◌∙◌, subst, IsOk, arith}
use Rattle.std.specs.Prelude.{Ok}
use Rattle.std.specs.FinMap.{get}
use Rattle.std.specs.FinSet.{contains}
use Rattle.std.proofs.lemmas.Bool.{false≢true}
use Rattle.mig_base.specs.declared.effect.Effect.{Effect}
use Rattle.mig_base.specs.declared.schedule.Side.{Side}
use Rattle.mig_base.specs.declared.schedule.Step.{Step}
use Rattle.mig_model.specs.Wire.{Frame, Sent, Copy, Wire, empty_wire, wire_if}
use Rattle.mig_model.specs.Wire.Frame.{Recv, Done}
use Rattle.mig_model.specs.Owed.{home, Owed}
use Rattle.mig_model.specs.Source.{Source, is_released, source_took}
use Rattle.mig_model.specs.Destination.{Destination, destination_took, destination_answers, install_by}
use Rattle.mig_model.specs.Migration.{World, outcome, next, is_short}
use Rattle.mig_model.specs.Effects.{install_effect}
use Rattle.mig_model.proofs.steps.StepWorlds.{after_deliver, after_deliver_back, after_deliver_urgent}
use Rattle.mig_model.specs.Invariant.{IsSoundWorld}
use Rattle.mig_model.specs.Parts.{Grows}
use Rattle.mig_model.specs.Promises.{IsComplete, IsDelivered, IsDeliveredBack, Completes, takes_forward, takes_back, is_break, is_recv, is_last, IsDeliveredUrgent, takes_urgent, after_move, after_move_back, after_move_urgent}
use Rattle.mig_model.proofs.owed.SettledLemmas.{home-is, home_tells}
use Rattle.mig_model.proofs.steps.StepCases.{MakesWorld, made-next, made-ok, made-outcome}
use Rattle.mig_model.proofs.steps.PartsChanged.{changes_parts}
use Rattle.mig_model.proofs.memory.Facts.{no_page, as_it_was}

-- Deliveries

-- the first frame of a wire, whatever it is called
the_first : {A : Type 0} {wire : List A} {other sent : A} {more rest : List A} → wire ≡ other ∷ more → wire ≡ sent ∷ rest → (other ≡ sent) × (more ≡ rest)
the_first is first = (cc, cc)

as_first : {other sent : Sent} {more rest : List Sent} (P : Sent → List Sent → Type 0) → (other ≡ sent) × (more ≡ rest) → P sent rest → P other more
as_first {other} {sent} {more} {rest} P same h = subst (λ s. P s more) (sym same.0) (subst (P sent) (sym same.1) h)

-- what is short for one frame is not full for it
short_not : {A : Type 0} (wire : Wire) (n : ℕ) {sent other : Sent} → sent ≡ other → is_short wire sent.frame n ≡ true → is_short wire other.frame n ≡ false → A
short_not wire n same short full = absurd (false≢true (sym full ∙ sym (ap (λ (s : Sent). is_short wire s.frame n) same) ∙ short))

pub delivered_first : (world : World) (n : ℕ) (sent : Sent) (rest : List Sent) → IsOk (outcome world (Step.Deliver n)) → world.forward.frames ≡ sent ∷ rest → is_short world.forward sent.frame n ≡ false →
    IsDelivered world (next world (Step.Deliver n)) sent rest
delivered_first world n sent rest ok first full =
    made-ok (λ new. IsDelivered world new sent rest) world (Step.Deliver n) (
      (λ other more is short. short_not world.forward n (the_first is first).0 short full),
      (λ other more is whole started up free early. as_first (λ s r. IsDelivered world (after_deliver world s r) sent rest) (the_first is first)
          (record { destination = refl; forward = refl; back = ap (λ u. wire_if u world.back (destination_took world.destination sent.epoch sent.frame).epoch (destination_answers world.destination sent.frame)) up })),
    ) ok

pub moved_short : (world : World) (n : ℕ) (sent : Sent) (rest : List Sent) → IsOk (outcome world (Step.Deliver n)) → world.forward.frames ≡ sent ∷ rest → is_short world.forward sent.frame n ≡ true →
    (outcome world (Step.Deliver n) ≡ Ok (Effect.Moved n)) × (next world (Step.Deliver n) ≡ after_move world n)
moved_short world n sent rest ok first short = (
  made-outcome (Effect.Moved n) world (Step.Deliver n) ((λ other more is one. refl), (λ other more is whole started up free early. short_not world.forward n (sym (the_first is first).0) short whole)) ok,
  made-ok (λ new. new ≡ after_move world n) world (Step.Deliver n) ((λ other more is one. refl), (λ other more is whole started up free early. short_not world.forward n (sym (the_first is first).0) short whole)) ok,
)

pub delivered_back_first : (world : World) (n : ℕ) (sent : Sent) (rest : List Sent) → IsOk (outcome world (Step.DeliverBack n)) → world.back.frames ≡ sent ∷ rest → is_short world.back sent.frame n ≡ false →
    IsDeliveredBack world (next world (Step.DeliverBack n)) sent rest
delivered_back_first world n sent rest ok first full =
    made-ok (λ new. IsDeliveredBack world new sent rest) world (Step.DeliverBack n)
    ((λ other more is short. short_not world.back n (the_first is first).0 short full), (λ other more is whole started up. as_first (λ s r. IsDeliveredBack world (after_deliver_back world s r) sent rest) (the_first is first) (record { source = refl; back = refl; forward = refl }))) ok

pub moved_back_short : (world : World) (n : ℕ) (sent : Sent) (rest : List Sent) → IsOk (outcome world (Step.DeliverBack n)) → world.back.frames ≡ sent ∷ rest → is_short world.back sent.frame n ≡ true →
    (outcome world (Step.DeliverBack n) ≡ Ok (Effect.Moved n)) × (next world (Step.DeliverBack n) ≡ after_move_back world n)
moved_back_short world n sent rest ok first short = (
  made-outcome (Effect.Moved n) world (Step.DeliverBack n) ((λ other more is one. refl), (λ other more is whole started up. short_not world.back n (sym (the_first is first).0) short whole)) ok,
  made-ok (λ new. new ≡ after_move_back world n) world (Step.DeliverBack n) ((λ other more is one. refl), (λ other more is whole started up. short_not world.back n (sym (the_first is first).0) short whole)) ok,
)

pub delivered_urgent_first : (world : World) (n : ℕ) (sent : Sent) (rest : List Sent) → IsOk (outcome world (Step.DeliverUrgent n)) → world.urgent.frames ≡ sent ∷ rest → is_short world.urgent sent.frame n ≡ false →
    IsDeliveredUrgent world (next world (Step.DeliverUrgent n)) sent rest
delivered_urgent_first world n sent rest ok first full =
    made-ok (λ new. IsDeliveredUrgent world new sent rest) world (Step.DeliverUrgent n)
    ((λ other more is short. short_not world.urgent n (the_first is first).0 short full), (λ other more is whole ran up. as_first (λ s r. IsDeliveredUrgent world (after_deliver_urgent world s r) sent rest) (the_first is first) (record { destination = refl; urgent = refl }))) ok

pub moved_urgent_short : (world : World) (n : ℕ) (sent : Sent) (rest : List Sent) → IsOk (outcome world (Step.DeliverUrgent n)) → world.urgent.frames ≡ sent ∷ rest → is_short world.urgent sent.frame n ≡ true →
    (outcome world (Step.DeliverUrgent n) ≡ Ok (Effect.Moved n)) × (next world (Step.DeliverUrgent n) ≡ after_move_urgent world n)
moved_urgent_short world n sent rest ok first short = (
  made-outcome (Effect.Moved n) world (Step.DeliverUrgent n) ((λ other more is one. refl), (λ other more is whole ran up. short_not world.urgent n (sym (the_first is first).0) short whole)) ok,
  made-ok (λ new. new ≡ after_move_urgent world n) world (Step.DeliverUrgent n) ((λ other more is one. refl), (λ other more is whole ran up. short_not world.urgent n (sym (the_first is first).0) short whole)) ok,
)

-- The wires

pub wires_broken : (world : World) → IsOk (outcome world Step.Break) → ((next world Step.Break).forward ≡ empty_wire) × ((next world Step.Break).back ≡ empty_wire) × ((next world Step.Break).urgent ≡ empty_wire) × ((next world Step.Break).up ≡ false)
wires_broken world ok = made-ok (λ new. (new.forward ≡ empty_wire) × (new.back ≡ empty_wire) × (new.urgent ≡ empty_wire) × (new.up ≡ false)) world Step.Break (λ started unreleased up. (refl, refl, refl, refl)) ok

same_wire : (old new : Wire) → new ≡ old → Grows old old → Grows old new
same_wire old new same grows = record { more = grows.more; is = same ∙ grows.is }

pub forward_grows : (world : World) (step : Step) → takes_forward step ≡ false → Grows world.forward (next world step).forward
forward_grows world (Step.Issue cpu command) h = same_wire _ _ (changes_parts world (Step.Issue cpu command)).forward (as_it_was world.forward)
forward_grows world (Step.Retry cpu) h = same_wire _ _ (changes_parts world (Step.Retry cpu)).forward (as_it_was world.forward)
forward_grows world (Step.Deliver n) h = absurd (false≢true (sym h))
forward_grows world Step.DestRead h = same_wire _ _ (changes_parts world Step.DestRead).forward (as_it_was world.forward)
forward_grows world Step.DestAct h = same_wire _ _ (changes_parts world Step.DestAct).forward (as_it_was world.forward)
forward_grows world Step.Install h = same_wire _ _ (changes_parts world Step.Install).forward (as_it_was world.forward)
forward_grows world (Step.PushUrgent ticket) h = same_wire _ _ (changes_parts world (Step.PushUrgent ticket)).forward (as_it_was world.forward)
forward_grows world (Step.DeliverUrgent n) h = same_wire _ _ (changes_parts world (Step.DeliverUrgent n)).forward (as_it_was world.forward)
forward_grows world Step.Break h = absurd (false≢true (sym h))
forward_grows world (Step.Notice Side.Source) h = same_wire _ _ (ap (λ w. w.forward) (changes_parts world (Step.Notice Side.Source)).is) (as_it_was world.forward)
forward_grows world (Step.Notice Side.Destination) h = same_wire _ _ (ap (λ w. w.forward) (changes_parts world (Step.Notice Side.Destination)).is) (as_it_was world.forward)
forward_grows world step h = (changes_parts world step).forward

pub back_grows : (world : World) (step : Step) → takes_back step ≡ false → Grows world.back (next world step).back
back_grows world (Step.Deliver n) h = (changes_parts world (Step.Deliver n)).back
back_grows world (Step.DeliverBack n) h = absurd (false≢true (sym h))
back_grows world Step.DestRead h = (changes_parts world Step.DestRead).back
back_grows world Step.DestAct h = (changes_parts world Step.DestAct).back
back_grows world Step.Install h = (changes_parts world Step.Install).back
back_grows world Step.Break h = absurd (false≢true (sym h))
back_grows world (Step.Notice Side.Source) h = same_wire _ _ (ap (λ w. w.back) (changes_parts world (Step.Notice Side.Source)).is) (as_it_was world.back)
back_grows world (Step.Notice Side.Destination) h = same_wire _ _ (ap (λ w. w.back) (changes_parts world (Step.Notice Side.Destination)).is) (as_it_was world.back)
back_grows world step h = same_wire _ _ (changes_parts world step).back (as_it_was world.back)

pub urgent_grows : (world : World) (step : Step) → takes_urgent step ≡ false → Grows world.urgent (next world step).urgent
urgent_grows world (Step.PushUrgent ticket) h = (changes_parts world (Step.PushUrgent ticket)).urgent
urgent_grows world (Step.DeliverUrgent n) h = absurd (false≢true (sym h))
urgent_grows world Step.Break h = absurd (false≢true (sym h))
urgent_grows world (Step.Notice Side.Source) h = same_wire _ _ (ap (λ w. w.urgent) (changes_parts world (Step.Notice Side.Source)).is) (as_it_was world.urgent)
urgent_grows world (Step.Notice Side.Destination) h = same_wire _ _ (ap (λ w. w.urgent) (changes_parts world (Step.Notice Side.Destination)).is) (as_it_was world.urgent)
urgent_grows world step h = same_wire _ _ (changes_parts world step).urgent (as_it_was world.urgent)

-- the link is up
abbrev IsUp : World → Type 0
IsUp world = world.up ≡ true

up_answer : (world : World) (step : Step) → is_break step ≡ false → IsUp world → MakesWorld IsUp world step
up_answer world step h up = grind (arith, nat_tests)

pub stays_up : (world : World) (step : Step) → is_break step ≡ false → world.up ≡ true → (next world step).up ≡ true
stays_up world step h up = made-next IsUp world step up (up_answer world step h up)

-- Installs

arrivals_by : (o : Option ℕ) (node : Destination) (copy : Copy) (rest : List Copy) → (install_by o node copy rest).arrivals ≡ rest
arrivals_by o node copy rest = grind (arith, nat_tests)

pub arrivals_after : (world : World) (copy : Copy) (rest : List Copy) → IsOk (outcome world Step.Install) → world.destination.arrivals ≡ copy ∷ rest → (next world Step.Install).destination.arrivals ≡ rest
arrivals_after world copy rest ok first =
    made-ok (λ new. new.destination.arrivals ≡ rest) world Step.Install
    (λ other more is ran quiet. arrivals_by (home world.destination.owed other.page) world.destination other more ∙ (the_first is first).1) ok

pub installed_where : (world : World) (copy : Copy) (rest : List Copy) (page : ℕ) → IsSoundWorld world → IsOk (outcome world Step.Install) → world.destination.arrivals ≡ copy ∷ rest → get world.destination.owed page ≡ Some copy.page →
    outcome world Step.Install ≡ Ok (Effect.Installed (4096 * page) (4096 * copy.page))
installed_where world copy rest page kept ok first owes =
    let found = home-is world.destination.owed copy.page page kept.owing.one_to_one (kept.owing.owed_below page copy.page owes) owes in
    made-outcome (Effect.Installed (4096 * page) (4096 * copy.page)) world Step.Install
    (λ other more is ran quiet.
    ap (λ (c : Copy). install_effect (home world.destination.owed c.page) c.page) (the_first is first).0 ∙ ap (λ o. install_effect o copy.page) found) ok

no_home : (o : Option ℕ) (owed : Owed) (origin : ℕ) → home owed origin ≡ o → ((page : ℕ) → get owed page ≢ Some origin) → o ≡ None
no_home None owed origin found none = refl
no_home (Some page) owed origin found none = absurd (none page (home_tells owed origin page found))

pub given_up_where : (world : World) (copy : Copy) (rest : List Copy) → IsOk (outcome world Step.Install) → world.destination.arrivals ≡ copy ∷ rest → ((page : ℕ) → get world.destination.owed page ≢ Some copy.page) →
    outcome world Step.Install ≡ Ok (Effect.Dropped (4096 * copy.page))
given_up_where world copy rest ok first none =
    let lost = no_home (home world.destination.owed copy.page) world.destination.owed copy.page refl none in
    made-outcome (Effect.Dropped (4096 * copy.page)) world Step.Install
    (λ other more is ran quiet.
    ap (λ (c : Copy). install_effect (home world.destination.owed c.page) c.page) (the_first is first).0 ∙ ap (λ o. install_effect o copy.page) lost) ok

-- What remains

taken_remains : (frame : Frame) (node : Source) (q : ℕ) → is_recv frame ≡ false → contains (source_took node frame).remaining q ≡ true → contains node.remaining q ≡ true
taken_remains (Recv state owed) node q h is = absurd (false≢true (sym h))
taken_remains Done node q h is = no_page q is
taken_remains _ node q h is = is

pub remaining_back : (world : World) (n : ℕ) (sent : Sent) (rest : List Sent) (q : ℕ) → world.back.frames ≡ sent ∷ rest → is_recv sent.frame ≡ false → contains (next world (Step.DeliverBack n)).source.remaining q ≡ true → contains world.source.remaining q ≡ true
remaining_back world n sent rest q first plain =
    made-next (λ new. contains new.source.remaining q ≡ true → contains world.source.remaining q ≡ true) world (Step.DeliverBack n) (λ h. h) (
      (λ other more is short h. h),
      (λ other more is full started up h.
          taken_remains other.frame world.source q (ap (λ (s : Sent). is_recv s.frame) (the_first is first).0 ∙ plain) h),
    )

-- Completion

last_releases : (frame : Frame) (node : Source) → is_last frame ≡ true → is_released (source_took node frame).phase ≡ true
last_releases frame node h = grind (arith, nat_tests)

pub completes_by : (world : World) (n : ℕ) (sent : Sent) (rest : List Sent) → IsOk (outcome world (Step.DeliverBack n)) → world.back.frames ≡ sent ∷ rest → is_short world.back sent.frame n ≡ false → is_last sent.frame ≡ true →
    IsComplete (next world (Step.DeliverBack n))
completes_by world n sent rest ok first full last =
    made-ok IsComplete world (Step.DeliverBack n)
    ((λ other more is short. short_not world.back n (the_first is first).0 short full), (λ other more is whole started up. last_releases other.frame world.source (ap (λ (s : Sent). is_last s.frame) (the_first is first).0 ∙ last))) ok

-- if the new world is complete, the step has taken such a frame
abbrev CompletesTo : World → Step → World → Type 0
CompletesTo world step new = IsComplete new → Completes world step

completes_answer : (world : World) (step : Step) → is_released world.source.phase ≡ false → MakesWorld (CompletesTo world step) world step
completes_answer world step not = grind (arith, nat_tests)

pub completes_only : (world : World) (step : Step) → is_released world.source.phase ≡ false → IsComplete (next world step) → Completes world step
completes_only world step not = made-next (CompletesTo world step) world step (λ h. absurd (false≢true (sym not ∙ h))) (completes_answer world step not)
