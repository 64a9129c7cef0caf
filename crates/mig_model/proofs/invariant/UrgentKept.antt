-- PushUrgent and DeliverUrgent keep what every world keeps: a page goes from those that remain to the urgent wire, and from there to the
-- copies that have arrived.
use Rattle.std.proofs.lemmas.Bool.Decides.{nat_tests}
use Rattle.std.proofs.Common.{◌≡◌, ◌≢◌, ℕ, ◌⊎◌, ◌||◌, Bool, true, false, Some, List, [], ◌∷◌, ◌++◌, refl, sym, ap, ◌∙◌, subst, length, arith}
use Rattle.std.specs.Ordering.{nat_cmp}
use Rattle.std.specs.FinMap.{FinMap, get}
use Rattle.std.specs.FinSet as finset
use Rattle.std.specs.FinSet.{FinSet, contains}
use Rattle.std.proofs.lemmas.Bool.{false≢true}
use Rattle.mig_base.specs.declared.phase.DestPhase.{DestPhase}
use Rattle.mig_base.specs.declared.phase.SourcePhase.{SourcePhase}
use Rattle.mig_base.specs.Bytes.{zero_page}
use Rattle.mig_base.proofs.SetLemmas.{member_removed}
use Rattle.mig_model.specs.Wire.{Frame, Sent, Copy, page_frame, wire_behind}
use Rattle.mig_model.specs.Wire.Frame.{Page, Zero}
use Rattle.mig_model.specs.Migration.{World}
use Rattle.mig_model.proofs.steps.StepWorlds.{after_deliver_urgent, after_push_urgent}
use Rattle.mig_model.specs.Source.{Source, is_stopped, bytes_of, space_of, urgent_pushed}
use Rattle.mig_model.specs.Whereabouts.{AreFaithful, IsSwitching, after_package, copies_of, has_copy, is_urgent_or_left}
use Rattle.mig_model.specs.Invariant.{Wires, AreSoundUrgent, IsSoundWorld, StoppedWires, are_copies}
use Rattle.mig_model.specs.Destination.{urgent_came}
use Rattle.mig_model.specs.Log.{present, no_pages}
use Rattle.mig_model.specs.Guest.{is_present}
use Rattle.mig_model.specs.Space.{fresh_space}
use Rattle.mig_model.proofs.memory.Facts.{AreFaithful-append, copies_of-append, none_absurd, same_or_other}
use Rattle.mig_model.proofs.invariant.Stopping.{in_phases, not_ended, present_bytes, stopped_at, stopped_not_released, was_there}
use Rattle.mig_model.proofs.delivery.Taken.{IsTakenUrgent}
use Rattle.mig_model.proofs.invariant.WireLemmas.{copies_of-page, has_copy-append}

-- PushUrgent

still_urgent : (remaining : FinSet nat_cmp) (urgent : List Sent) (sent : Sent) (page q : ℕ) (bytes : List ℕ) → copies_of (urgent ++ sent ∷ []) ≡ copies_of urgent ++ record { page = page; bytes = bytes } ∷ [] →
    is_urgent_or_left remaining urgent q ≡ true → is_urgent_or_left (finset.remove remaining page) (urgent ++ sent ∷ []) q ≡ true
still_urgent remaining urgent sent page q bytes copies h = grind (arith, nat_tests, member_removed, has_copy-append, same_or_other)

first_by : (a new b : Bool) → (a ≡ true → new ≡ true) → (a || b) ≡ true → (new || b) ≡ true
first_by a new b h k = grind (arith, nat_tests)

first_of_three : (a new b c : Bool) → (a ≡ true → new ≡ true) → (a || b || c) ≡ true → (new || b || c) ≡ true
first_of_three a new b c h k = grind (arith, nat_tests)

urgent_switching : (source : Source) (kept : FinMap nat_cmp (List ℕ)) (forward urgent : List Sent) (sent : Sent) (page : ℕ) (bytes : List ℕ) → copies_of (urgent ++ sent ∷ []) ≡ copies_of urgent ++ record { page = page; bytes = bytes } ∷ [] →
    IsSwitching source kept forward urgent → IsSwitching (urgent_pushed source page) kept forward (urgent ++ sent ∷ [])
urgent_switching source kept forward urgent sent page bytes copies old =
    record {
      owed = old.owed;
      plan = old.plan;
      owed_present = old.owed_present;
      kept_rest = old.kept_rest;
      whereabouts = λ q owes.
          first_by (is_urgent_or_left source.remaining urgent q) (is_urgent_or_left (finset.remove source.remaining page) (urgent ++ sent ∷ []) q) (has_copy (copies_of (after_package forward)) q)
          (still_urgent source.remaining urgent sent page q bytes copies) (old.whereabouts q owes);
      faithful = old.faithful;
    }

urgent_wires : (to : DestPhase) (world : World) (sent : Sent) (page : ℕ) (bytes : List ℕ) → copies_of (world.urgent.frames ++ sent ∷ []) ≡ copies_of world.urgent.frames ++ record { page = page; bytes = bytes } ∷ [] →
    StoppedWires (stopped_at to world).source (stopped_at to world).destination world.forward.frames world.back.frames world.urgent.frames →
    StoppedWires (urgent_pushed (stopped_at to world).source page) (stopped_at to world).destination world.forward.frames world.back.frames (world.urgent.frames ++ sent ∷ [])
urgent_wires DestPhase.Idle world sent page bytes copies old =
    (old.0, old.1, urgent_switching (stopped_at DestPhase.Idle world).source world.destination.kept world.forward.frames world.urgent.frames sent page bytes copies old.2)
urgent_wires DestPhase.Advised world sent page bytes copies old =
    (old.0, old.1, urgent_switching (stopped_at DestPhase.Advised world).source world.destination.kept world.forward.frames world.urgent.frames sent page bytes copies old.2)
urgent_wires DestPhase.Discarding world sent page bytes copies old =
    (old.0, old.1, urgent_switching (stopped_at DestPhase.Discarding world).source world.destination.kept world.forward.frames world.urgent.frames sent page bytes copies old.2)
urgent_wires DestPhase.Running world sent page bytes copies old = (
  old.0,
  old.1,
  record {
    whereabouts = λ q origin owed.
        first_of_three (is_urgent_or_left world.source.remaining world.urgent.frames origin) (is_urgent_or_left (finset.remove world.source.remaining page) (world.urgent.frames ++ sent ∷ []) origin)
        (has_copy (copies_of world.forward.frames) origin) (has_copy world.destination.arrivals origin)
        (still_urgent world.source.remaining world.urgent.frames sent page origin bytes copies) (old.2.whereabouts q origin owed);
  },
)
urgent_wires DestPhase.Paused world sent page bytes copies old = absurd old
urgent_wires DestPhase.Ended world sent page bytes copies old = old

urgent_in : (from : SourcePhase) (to : DestPhase) (world : World) (page : ℕ) → is_stopped from ≡ true → world.up ≡ true → is_present (space_of world.source) page ≡ true → contains world.source.remaining page ≡ true →
    IsSoundWorld (in_phases from to world) → IsSoundWorld (after_push_urgent (in_phases from to world) page)
urgent_in SourcePhase.Stopped to world page stopped up present remains kept =
    let source = world.source in
    let bytes = (space_of source).host.bytes in
    let sent : Sent = record { epoch = source.epoch; frame = page_frame page (bytes_of source page) } in
    let held : get bytes page ≡ Some (bytes_of source page) = present_bytes (get bytes page) present in
    let whole : length (bytes_of source page) ≡ 4096 = kept.spaces.source_space.host.whole page (bytes_of source page) held in
    let other = not_ended source page kept.pushing.end_sent remains in
    let copies : copies_of (world.urgent.frames ++ sent ∷ []) ≡ copies_of world.urgent.frames ++ record { page = page; bytes = bytes_of source page } ∷ [] =
    copies_of-append world.urgent.frames (sent ∷ []) ∙ ap (λ c. copies_of world.urgent.frames ++ c) (copies_of-page source.epoch page (bytes_of source page) whole) in
    let new : World = after_push_urgent (in_phases SourcePhase.Stopped to world) page in
    let before_switch : new.source.switched ≡ false → (new.source.remaining ≡ no_pages) × (new.source.end_epoch ≢ new.source.epoch ⊎ (new.source.phase ≡ SourcePhase.Idle)) = λ h. absurd (false≢true (sym h ∙ kept.phases.source_phase)) in
    let end_sent : source.end_epoch ≡ source.epoch → new.source.remaining ≡ no_pages = λ h. absurd (other h) in
    let remaining_present : (q : ℕ) → contains new.source.remaining q ≡ true → is_present (space_of new.source) q ≡ true = λ q h. kept.pushing.remaining_present q (was_there source.remaining page q h) in
    let released_empty : new.source.phase ≡ SourcePhase.Released → (space_of new.source ≡ fresh_space) × (new.source.remaining ≡ no_pages) = λ h. absurd (stopped_not_released h) in
    let down : new.up ≡ false → (new.forward.frames ≡ []) × (new.back.frames ≡ []) × (new.source.phase ≢ SourcePhase.Idle) × (new.source.phase ≢ SourcePhase.Released) = λ h. absurd (false≢true (sym h ∙ up)) in
    let wires : new.up ≡ true → Wires new.source new.destination new.forward.frames new.back.frames new.urgent.frames = λ h. urgent_wires to world sent page (bytes_of source page) copies (kept.flight.wires h) in
    assumption
urgent_in SourcePhase.Idle to world page stopped up present remains kept = none_absurd stopped
urgent_in _ to world page stopped up present remains kept = none_absurd stopped

pub kept-push_urgent : (world : World) (page : ℕ) → IsSoundWorld world → is_stopped world.source.phase ≡ true → world.up ≡ true → is_present (space_of world.source) page ≡ true → contains world.source.remaining page ≡ true → IsSoundWorld (after_push_urgent world page)
kept-push_urgent world page kept stopped up present remains = urgent_in world.source.phase world.destination.phase world page stopped up present remains kept

-- DeliverUrgent

-- it is no longer on the urgent wire, and has arrived
came_urgent : (remains here urgent flies waits : Bool) → ((remains || (here || urgent)) || flies || waits) ≡ true → ((remains || urgent) || flies || (waits || (here || false))) ≡ true
came_urgent remains here urgent flies waits h = grind (arith, nat_tests)

abbrev at_urgent : World → List Sent → World
at_urgent world frames =
    record world {
      source = record world.source { phase = SourcePhase.Stopped };
      destination = record world.destination { phase = DestPhase.Running; has_run = true };
      urgent = record world.urgent { frames = frames };
      up = true;
    }

urgent_arrives : (copy : Copy) (sent : Sent) (rest : List Sent) (world : World) → copies_of (sent ∷ rest) ≡ copy ∷ copies_of rest → get (space_of world.source).host.bytes copy.page ≡ Some copy.bytes →
    IsSoundWorld (at_urgent world (sent ∷ rest)) → IsSoundWorld (record (at_urgent world (sent ∷ rest)) { destination = urgent_came (at_urgent world (sent ∷ rest)).destination copy; urgent = wire_behind rest })
urgent_arrives copy sent rest world copies faithful kept = grind (arith, nat_tests, AreFaithful-append, has_copy-append, came_urgent)

arrives_by : (frame : Frame) (epoch : ℕ) (rest : List Sent) (world : World) → are_copies (record { epoch = epoch; frame = frame } ∷ rest) ≡ true → AreFaithful (space_of world.source).host.bytes (copies_of (record { epoch = epoch; frame = frame } ∷ rest)) →
    IsSoundWorld (at_urgent world (record { epoch = epoch; frame = frame } ∷ rest)) → IsSoundWorld (after_deliver_urgent (at_urgent world (record { epoch = epoch; frame = frame } ∷ rest)) (record { epoch = epoch; frame = frame }) rest)
arrives_by (Page page bytes) epoch rest world are faithful kept = urgent_arrives (record { page = page; bytes = bytes }) (record { epoch = epoch; frame = Page page bytes }) rest world refl faithful.0 kept
arrives_by (Zero page) epoch rest world are faithful kept = urgent_arrives (record { page = page; bytes = zero_page }) (record { epoch = epoch; frame = Zero page }) rest world refl faithful.0 kept
arrives_by _ epoch rest world are faithful kept = none_absurd are

urgent_at : (world : World) (sent : Sent) (rest : List Sent) → world.source.phase ≡ SourcePhase.Stopped → world.destination.phase ≡ DestPhase.Running → world.destination.has_run ≡ true → world.up ≡ true → world.urgent.frames ≡ sent ∷ rest → world ≡ at_urgent world (sent ∷ rest)
urgent_at world sent rest from to ran up first = grind (arith, nat_tests)

pub running_urgent : (world : World) (sent : Sent) (rest : List Sent) → IsSoundWorld world → AreSoundUrgent world → world.urgent.frames ≡ sent ∷ rest → world.destination.has_run ≡ true → world.up ≡ true →
    (world.source.phase ≡ SourcePhase.Stopped) × (world.destination.phase ≡ DestPhase.Running)
running_urgent world sent rest kept h first ran up = grind (arith, nat_tests)

pub kept-deliver_urgent : (world : World) (sent : Sent) (rest : List Sent) → IsSoundWorld world → AreSoundUrgent world → world.urgent.frames ≡ sent ∷ rest → world.destination.has_run ≡ true → world.up ≡ true → IsSoundWorld (after_deliver_urgent world sent rest)
kept-deliver_urgent world sent rest kept h first ran up =
    let both = running_urgent world sent rest kept h first ran up in
    let same = urgent_at world sent rest both.0 both.1 ran up first in
    subst (λ w. IsSoundWorld (after_deliver_urgent w sent rest)) (sym same)
    (arrives_by sent.frame sent.epoch rest world (subst (λ f. are_copies f ≡ true) first h.copies)
    (subst (λ f. AreFaithful (space_of world.source).host.bytes (copies_of f)) first h.faithful) (subst IsSoundWorld same kept))

-- the destination takes the first frame of the urgent wire
pub is_taken_urgent : (world : World) (sent : Sent) (rest : List Sent) → IsSoundWorld world → AreSoundUrgent world → world.destination.has_run ≡ true → world.up ≡ true → world.urgent.frames ≡ sent ∷ rest → IsTakenUrgent world.destination sent
is_taken_urgent world sent rest kept h ran up first = grind (arith, nat_tests)
