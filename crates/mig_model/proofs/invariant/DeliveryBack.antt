-- The source takes a frame of the wire back: a request, a Recv, and Done, with which it is released.
use Rattle.std.proofs.lemmas.Bool.Decides.{nat_tests}
use Rattle.std.proofs.Common.{◌≡◌, ◌≢◌, ℕ, ◌&&◌, ◌||◌, Bool, true, false, cond, ltb, Option, Some, None, is_some, List, [], ◌∷◌, refl, sym, ap, ◌∙◌, subst, arith}
use Rattle.std.specs.Ordering.{nat_cmp}
use Rattle.std.specs.FinMap as finmap
use Rattle.std.specs.FinMap.{FinMap, get, contains_key, get-empty}
use Rattle.std.specs.FinSet.{FinSet, contains}
use Rattle.std.proofs.lemmas.Bool.{false≢true, ltb-false}
use Rattle.std.proofs.lemmas.Option.{none-some}
use Rattle.mig_base.specs.declared.phase.DestPhase.{DestPhase}
use Rattle.mig_base.specs.declared.phase.Received.{Received}
use Rattle.mig_base.specs.declared.phase.SourcePhase.{SourcePhase}
use Rattle.mig_base.specs.declared.TheConstants.{HIGH_PAGE}
use Rattle.mig_base.specs.declared.message.Message.{Message}
use Rattle.mig_base.specs.Flat.{memory_of}
use Rattle.mig_base.proofs.SetLemmas.{member_below}
use Rattle.mig_model.specs.Host.{Host, memory, IsSound}
use Rattle.mig_base.specs.Userfault.{Noted}
use Rattle.mig_model.specs.Space.{fresh_space}
use Rattle.mig_model.specs.Guest.{is_present}
use Rattle.mig_model.specs.Wire.{Frame, Sent, kept_after, wire_behind}
use Rattle.mig_model.specs.Wire.Frame.{Discard, Recv}
use Rattle.mig_model.specs.Migration.{World}
use Rattle.mig_model.proofs.steps.StepWorlds.{after_deliver_back}
use Rattle.mig_model.specs.Whereabouts.{IsSwitching, AreFaithful, copies_of, has_copy, seen_host, current_host}
use Rattle.mig_model.specs.Invariant.{IsSoundWorld, IsSoundPushing, IsSoundLog, AreOf}
use Rattle.mig_model.proofs.memory.SpaceLemmas.{IsSoundSpace-fresh}
use Rattle.mig_model.proofs.invariant.FirstFrame.{empty_not, delivered_back}
use Rattle.mig_model.specs.Log.{no_pages, present}
use Rattle.mig_model.specs.Owed.{owed_after, settled_by}
use Rattle.mig_model.specs.Source.{released, space_of, rebuild_frames}
use Rattle.mig_model.specs.Destination.{settled}
use Rattle.mig_model.proofs.invariant.WireLemmas.{fits-more, fits-none, flight_up}
use Rattle.mig_model.proofs.memory.Facts.{and_second, none_or, not_up, no_page}
use Rattle.mig_model.proofs.invariant.Stopping.{flow_open, get-discarded, log_stopped, pushing_stopped}

-- a world with these phases and this wire back, whose link is up
abbrev at_back : SourcePhase → DestPhase → (ran switched : Bool) → (forward back : List Sent) → World → World
at_back from to ran switched forward back world =
    record world { source = record world.source { phase = from; switched = switched }; destination = record world.destination { phase = to; has_run = ran }; forward = record world.forward { frames = forward }; back = record world.back { frames = back }; up = true }

-- A source that is released

nothing_after : (message : Message) → owed_after message (λ _. None) ≡ (λ _. None)
nothing_after message = grind (arith, nat_tests)

pub settled_by-none : (events : List Noted) → settled_by events (λ _. None) ≡ (λ _. None)
settled_by-none [] = refl
settled_by-none (noted ∷ events) = ap (settled_by events) (nothing_after noted.message) ∙ settled_by-none events

pub settled_by-empty : (events : List Noted) (owed : FinMap nat_cmp ℕ) → owed ≡ finmap.empty → settled_by events (get owed) ≡ (λ _. None)
settled_by-empty events owed h = ap (settled_by events) (λ i page. (ap (λ o. get o page) h ∙ get-empty nat_cmp page) i) ∙ settled_by-none events

-- then the destination's memory is its own
pub seen_alone : (here there other : Host) (owed : ℕ → Option ℕ) → owed ≡ (λ _. None) → seen_host here there owed ≡ seen_host here other owed
seen_alone here there other owed h = ap (seen_host here there) h ∙ sym (ap (seen_host here other) h)

released_kept : (from : SourcePhase) (forward back rest : List Sent) (world : World) →
    let old : World = at_back from DestPhase.Ended true true forward back world in
    let new : World = record old { source = released old.source; back = wire_behind rest } in
    IsSoundWorld old → forward ≡ [] → rest ≡ [] → IsSoundWorld new
released_kept from forward back rest world kept none last =
    let old : World = at_back from DestPhase.Ended true true forward back world in
    let new : World = record old { source = released old.source; back = wire_behind rest } in
    let ended : world.destination.ended ≡ true = kept.phases.destination_phase in
    let bare = kept.owing.ended_empty ended in
    let holds : memory (current_host new) ≡ memory_of new.transcript =
    ap memory (seen_alone world.destination.guest.space.host fresh_space.host world.source.guest.space.host (settled world.destination) (settled_by-empty world.destination.guest.space.object.events world.destination.owed bare.0)) ∙ kept.memory.holds in
    let pushing : IsSoundPushing SourcePhase.Released true true world.source.epoch world.source.end_epoch fresh_space no_pages =
    record {
      before_switch = λ h. absurd (not_up h);
      end_sent = λ h. refl;
      remaining_present = λ page h. no_page page h;
      ended_before = kept.pushing.ended_before;
      paused_fresh = λ u h. absurd (let e : SourcePhase.Released ≡ SourcePhase.Paused = h in cc);
      released_empty = λ h. (refl, refl);
    } in
    let log : IsSoundLog SourcePhase.Released true fresh_space no_pages no_pages no_pages =
    record { idle_source = λ h. absurd (let e : SourcePhase.Released ≡ SourcePhase.Idle = h in cc); clean_protected = λ h. absurd (not_up h); todo_sendable = λ h. absurd (not_up h) } in
    let origins_present : (page origin : ℕ) → get new.destination.owed page ≡ Some origin → is_present (space_of new.source) origin ≡ true =
    λ page origin h. absurd (none-some origin (sym (get-empty nat_cmp page) ∙ sym (ap (λ o. get o page) bare.0) ∙ h)) in
    let arrivals_faithful = subst (AreFaithful fresh_space.host.bytes) (sym bare.1) tt in
    let flight = flight_up new refl (λ h. subst (λ wire. AreFaithful fresh_space.host.bytes (copies_of wire)) (sym none) tt) (refl, none, last) in
    let back_epoch = subst (AreOf world.source.epoch) (sym last) tt in
    let events : Unit {0} = tt in
    assumption (IsSoundSpace-fresh, fits-none rest)

-- Recv

no_copy : (page : ℕ) (kept : FinMap nat_cmp (List ℕ)) → kept ≡ finmap.empty → contains_key kept page ≡ false
no_copy page kept h = ap (λ k. contains_key k page) h ∙ ap is_some (get-empty nat_cmp page)

-- it has not run, and the source still makes rounds: all is sent anew
recv_precopy : (owed : FinSet nat_cmp) (epoch : ℕ) (rest : List Sent) (world : World) →
    let old : World = at_back SourcePhase.Paused DestPhase.Advised false false [] (record { epoch = epoch; frame = Recv Received.NotRun owed } ∷ rest) world in
    IsSoundWorld old → rest ≡ [] → IsSoundWorld (delivered_back old old.back.frames)
recv_precopy owed epoch rest world kept last = grind (arith, nat_tests, no_copy, flight_up, fits-none)

-- where End was not sent in this epoch
all_owed : (low : Bool) (o : Option (List ℕ)) → (low ≡ false → o ≡ None) → None ≡ cond (low && is_some o) None o
all_owed low o none = grind arith

nothing_kept : (kept : FinMap nat_cmp (List ℕ)) (page : ℕ) → kept ≡ finmap.empty → get (kept_after kept (Discard no_pages)) page ≡ None
nothing_kept kept page h =
    get-discarded kept no_pages page ∙ none_or (contains no_pages page) (get kept page) (ap (λ k. get k page) h ∙ get-empty nat_cmp page)

-- it has not run, and the source has stopped: a Package that owes all present pages
recv_switched : (owed : FinSet nat_cmp) (epoch : ℕ) (rest : List Sent) (world : World) →
    let old : World = at_back SourcePhase.Paused DestPhase.Advised false true [] (record { epoch = epoch; frame = Recv Received.NotRun owed } ∷ rest) world in
    IsSoundWorld old → rest ≡ [] → IsSoundWorld (delivered_back old old.back.frames)
recv_switched owed epoch rest world kept last =
    let old : World = at_back SourcePhase.Paused DestPhase.Advised false true [] (record { epoch = epoch; frame = Recv Received.NotRun owed } ∷ rest) world in
    let new : World = delivered_back old old.back.frames in
    let w = kept.flight.wires refl in
    let fresh : world.source.end_epoch ≢ world.source.epoch = kept.pushing.paused_fresh refl refl in
    let sound : IsSound world.source.guest.space.host = kept.spaces.source_space.host in
    let here : (page : ℕ) → contains (present world.source.guest.space) page ≡ (ltb page HIGH_PAGE && is_present world.source.guest.space page) = λ page. member_below _ HIGH_PAGE page in
    let remaining_present : (page : ℕ) → contains new.source.remaining page ≡ true → is_present (space_of new.source) page ≡ true = λ page h. and_second (ltb page HIGH_PAGE) (is_present world.source.guest.space page) (sym (here page) ∙ h) in
    let switching : IsSwitching new.source new.destination.kept new.forward.frames new.urgent.frames =
    record {
      owed = present world.source.guest.space;
      plan = refl;
      owed_present = remaining_present;
      kept_rest = λ page.
          nothing_kept world.destination.kept page w.2
          ∙ all_owed (ltb page HIGH_PAGE) (get world.source.guest.space.host.bytes page) (λ l. sound.mapped page (sound.bound page (ltb-false page HIGH_PAGE l)))
          ∙ sym (ap (λ b. cond b None (get world.source.guest.space.host.bytes page)) (here page));
      whereabouts = λ page h. ap (λ b. (b || has_copy (copies_of world.urgent.frames) page) || false) h;
      faithful = tt;
    } in
    let pushing = pushing_stopped new.source true refl (λ h. absurd (fresh h)) remaining_present kept.pushing.ended_before in
    let flight = flight_up new refl (λ h. absurd (not_up (sym h))) (ap Some (sym (flow_open world.source fresh)), last, switching) in
    let forward_epoch : AreOf new.source.epoch new.forward.frames = (refl, (refl, tt)) in
    let back_epoch : AreOf new.source.epoch new.back.frames = kept.epochs.back_epoch.1 in
    let forward_held = fits-more [] world.forward.held world.source.epoch (rebuild_frames Received.NotRun old.source) kept.held.forward_held in
    assumption (log_stopped new.source refl, fits-none rest)

-- The frames in their phases

-- with what is known of the wires put in their place
abbrev Takes : DestPhase → (ran switched : Bool) → World → List Sent → List Sent → Type 0
Takes to ran switched world forward back = IsSoundWorld (at_back SourcePhase.Paused to ran switched forward back world) → IsSoundWorld (delivered_back (at_back SourcePhase.Paused to ran switched forward back world) back)

at_advised : (ran switched : Bool) (forward back : List Sent) (world : World) → Takes DestPhase.Advised ran switched world forward back
at_advised ran switched forward back world kept = grind (arith, nat_tests, recv_precopy, recv_switched)

at_runs : (ran switched : Bool) (forward back : List Sent) (world : World) → Takes DestPhase.Running ran switched world forward back
at_runs ran switched forward back world kept = grind (arith, nat_tests)

at_ended : (ran switched : Bool) (forward back : List Sent) (world : World) → Takes DestPhase.Ended ran switched world forward back
at_ended ran switched forward back world kept = grind (arith, nat_tests, released_kept)

-- a request, while the destination runs
stopped_runs : (ran switched : Bool) (epoch : ℕ) (frame : Frame) (rest : List Sent) (world : World) →
    let old : World = at_back SourcePhase.Stopped DestPhase.Running ran switched world.forward.frames (record { epoch = epoch; frame = frame } ∷ rest) world in
    IsSoundWorld old → IsSoundWorld (delivered_back old old.back.frames)
stopped_runs ran switched epoch frame rest world kept = grind (arith, nat_tests)

-- a request or Done, once it has ended
stopped_ended : (ran switched : Bool) (epoch : ℕ) (frame : Frame) (rest : List Sent) (world : World) →
    let old : World = at_back SourcePhase.Stopped DestPhase.Ended ran switched world.forward.frames (record { epoch = epoch; frame = frame } ∷ rest) world in
    IsSoundWorld old → IsSoundWorld (delivered_back old old.back.frames)
stopped_ended ran switched epoch frame rest world kept = grind (arith, nat_tests, released_kept)

back_in : (from : SourcePhase) (to : DestPhase) (ran switched : Bool) (sent : Sent) (rest : List Sent) (world : World) →
    let old : World = at_back from to ran switched world.forward.frames (sent ∷ rest) world in
    IsSoundWorld old → IsSoundWorld (delivered_back old old.back.frames)
back_in SourcePhase.Precopy DestPhase.Idle ran switched sent rest world kept = absurd (empty_not sent rest (kept.flight.wires refl).1)
back_in SourcePhase.Precopy DestPhase.Advised ran switched sent rest world kept = absurd (empty_not sent rest (kept.flight.wires refl).1)
back_in SourcePhase.Precopy _ ran switched sent rest world kept = absurd (kept.flight.wires refl)
back_in SourcePhase.Stopped DestPhase.Running ran switched sent rest world kept = stopped_runs ran switched sent.epoch sent.frame rest world kept
back_in SourcePhase.Stopped DestPhase.Ended ran switched sent rest world kept = stopped_ended ran switched sent.epoch sent.frame rest world kept
back_in SourcePhase.Stopped DestPhase.Paused ran switched sent rest world kept = absurd (kept.flight.wires refl)
back_in SourcePhase.Stopped _ ran switched sent rest world kept = absurd (empty_not sent rest (kept.flight.wires refl).1)
back_in SourcePhase.Paused DestPhase.Advised ran switched sent rest world kept = at_advised ran switched world.forward.frames (sent ∷ rest) world kept
back_in SourcePhase.Paused DestPhase.Running ran switched sent rest world kept = at_runs ran switched world.forward.frames (sent ∷ rest) world kept
back_in SourcePhase.Paused DestPhase.Ended ran switched sent rest world kept = at_ended ran switched world.forward.frames (sent ∷ rest) world kept
back_in SourcePhase.Paused DestPhase.Paused ran switched sent rest world kept = absurd (empty_not sent rest (kept.flight.wires refl).1)
back_in SourcePhase.Paused _ ran switched sent rest world kept = absurd (kept.flight.wires refl)
back_in _ to ran switched sent rest world kept = absurd (empty_not sent rest (kept.flight.wires refl).2)

back_by : (up : Bool) (sent : Sent) (rest : List Sent) (world : World) → up ≡ true → IsSoundWorld (record world { up = up; back = record world.back { frames = sent ∷ rest } }) → IsSoundWorld (after_deliver_back (record world { up = up; back = record world.back { frames = sent ∷ rest } }) sent rest)
back_by true sent rest world h kept = back_in world.source.phase world.destination.phase world.destination.has_run world.source.switched sent rest world kept
back_by false sent rest world h kept = absurd (false≢true h)

pub kept-deliver_back : (world : World) (sent : Sent) (rest : List Sent) → IsSoundWorld world → world.back.frames ≡ sent ∷ rest → world.up ≡ true → IsSoundWorld (after_deliver_back world sent rest)
kept-deliver_back world sent rest kept first up = back_by world.up sent rest world up (subst (λ wire. IsSoundWorld (record world { back = record world.back { frames = wire } })) first kept)
