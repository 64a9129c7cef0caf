-- The destination takes a frame: Advise, a copy, a Discard, End, Resume.
use Rattle.std.proofs.lemmas.Bool.Decides.{nat_tests}
use Rattle.std.proofs.Common.{◌≡◌, ◌≢◌, ℕ, ◌||◌, Bool, true, false, cond, eqb, Option, Some, None, List, [], ◌∷◌, refl, sym, ap, ◌∙◌, ◌<◌, ltb, is_some, map, subst, arith, length, ◌&&◌, not, ◌++◌}
use Rattle.std.specs.Ordering.{nat_cmp}
use Rattle.std.specs.FinMap as finmap
use Rattle.std.specs.FinMap.{get, get-empty, FinMap, insert, get-retain_keys, nat_cmp-IsAntisymmetric}
use Rattle.std.specs.FinSet.{FinSet, contains-empty, contains}
use Rattle.std.proofs.lemmas.Bool.{false≢true, lt-ltb}
use Rattle.mig_base.specs.declared.phase.DestPhase.{DestPhase}
use Rattle.mig_base.specs.declared.phase.SourcePhase.{SourcePhase}
use Rattle.mig_base.proofs.PageLemmas.{same_pages}
use Rattle.mig_model.specs.Wire.{Sent, Copy, Frame, sending, wire_behind, copies_in, kept_after, kept_with}
use Rattle.mig_model.specs.Wire.Frame.{End, Done, Resume, Request, Recv, Advise, Page, Zero, Run, Discard}
use Rattle.mig_model.specs.Migration.{World}
use Rattle.mig_model.specs.Faults.{is_end}
use Rattle.mig_model.proofs.steps.StepWorlds.{after_deliver}
use Rattle.mig_model.specs.Whereabouts.{copies_of, has_copy, is_urgent_or_left, IsSwitching, are_requests, after_package, kept_by, package_in, AreFaithful}
use Rattle.mig_model.specs.Invariant.{Wires, IsSoundWorld, IsFlowing, AreOf, flow_of, RanAt, EpochAt, flow_after, AreWhole}
use Rattle.mig_model.specs.Invariant.Flow.{Pushed, AfterEnd}
use Rattle.mig_model.proofs.invariant.WireLemmas.{flight_up, AreOf-append, are_requests_and_done-push, sending-behind, AreOf-sending, are_requests-sending, has_copy-append, fits-append, fits-none, fits-more}
use Rattle.mig_model.proofs.invariant.FirstFrame.{at_state, nothing_behind, delivered, first_in_place, ends_late}
use Rattle.mig_model.specs.Log.{no_pages}
use Rattle.mig_model.specs.Source.{Source}
use Rattle.std.proofs.lemmas.Option.{none-some}
use Rattle.mig_base.specs.declared.phase.Received.{Received}
use Rattle.mig_base.specs.declared.TheConstants.{HIGH_PAGE}
use Rattle.mig_base.proofs.SetLemmas.{member_below}
use Rattle.mig_model.specs.Owed.{home, origins}
use Rattle.mig_model.proofs.memory.Facts.{and_second, no_page, not_up, put_whole, AreFaithful-append}
use Rattle.mig_model.proofs.owed.SettledLemmas.{home-some, home_tells}
use Rattle.mig_model.proofs.invariant.Stopping.{present_below}
use Rattle.mig_base.specs.Bytes.{zero_page}
use Rattle.foundation.specs.Tests.{is_empty}
use Rattle.mig_model.proofs.memory.HostLemmas.{get-put}
use Rattle.mig_model.proofs.invariant.PackageTaken.{package_taken}
use Rattle.foundation.proofs.TestLemmas.{never_some}

-- a wire that gets past End is that of a source that has sent it in this epoch
pub ended_now : (source : Source) → flow_of source ≡ AfterEnd → source.end_epoch ≡ source.epoch
ended_now source h = grind (arith, nat_tests)

-- no page remains, none is in flight and none waits
pub nowhere : (remaining : FinSet nat_cmp) (rest urgent : List Sent) (arrivals : List Copy) (origin : ℕ) → remaining ≡ no_pages → rest ≡ [] → urgent ≡ [] → arrivals ≡ [] →
    (is_urgent_or_left remaining urgent origin || has_copy (copies_of rest) origin || has_copy arrivals origin) ≡ true → ⊥
nowhere remaining rest urgent arrivals origin none last came free h =
    false≢true (
    sym (ap (λ b. (b || false) || false || false) (contains-empty nat_cmp origin))
    ∙ sym (λ i. is_urgent_or_left (none i) (came i) origin || has_copy (copies_of (last i)) origin || has_copy (free i) origin) ∙ h)

pub end_taken : (epoch count : ℕ) (rest : List Sent) (world : World) →
    let old : World = at_state SourcePhase.Stopped DestPhase.Running true true (record { epoch = epoch; frame = End count } ∷ rest) world in
    world.destination.arrivals ≡ [] → world.urgent.frames ≡ [] → IsSoundWorld old → IsSoundWorld (delivered old old.forward.frames)
end_taken epoch count rest world free came kept =
    let old : World = at_state SourcePhase.Stopped DestPhase.Running true true (record { epoch = epoch; frame = End count } ∷ rest) world in
    let new : World = delivered old old.forward.frames in
    let w = kept.flight.wires refl in
    let last = nothing_behind rest (flow_of old.source) w.0 in
    let ended : old.source.end_epoch ≡ old.source.epoch = ended_now old.source last.1 in
    let flowing : IsFlowing old.source old.destination old.forward.frames old.urgent.frames = w.2 in
    let no_pair : world.destination.owed ≡ finmap.empty =
    same_pages world.destination.owed finmap.empty (λ page.
    never_some (get world.destination.owed page) (λ origin h. nowhere world.source.remaining rest world.urgent.frames world.destination.arrivals origin (kept.pushing.end_sent ended) last.0 came free (flowing.whereabouts page origin h))
    ∙ sym (get-empty nat_cmp page)) in
    let kept_advised : new.destination.phase ≡ DestPhase.Idle → new.destination.kept ≡ finmap.empty = λ h. cc in
    let flight = flight_up new refl kept.flight.flight_faithful (last.0, are_requests_and_done-push world.back.frames (record { epoch = world.destination.epoch; frame = Done }) refl w.1, ended) in
    let forward_epoch : AreOf new.source.epoch new.forward.frames = kept.epochs.forward_epoch.1 in
    let back_epoch = AreOf-append world.source.epoch world.back.frames (record { epoch = world.destination.epoch; frame = Done } ∷ []) kept.epochs.back_epoch (kept.epochs.epoch_at refl, tt) in
    assumption (fits-none rest, fits-append world.back.frames (record { epoch = world.destination.epoch; frame = Done } ∷ []) world.back.held kept.held.back_held)

-- The pages that are still needed

-- each origin of the table is among them
pub origins-pair : (owed : FinMap nat_cmp ℕ) (page origin : ℕ) → get owed page ≡ Some origin → page < HIGH_PAGE → ltb origin HIGH_PAGE ≡ true → contains (origins owed) origin ≡ true
origins-pair owed page origin h low high = grind (arith, nat_tests, member_below, home-some)

-- and each of them is an origin of the table
pub pair-origins : (owed : FinMap nat_cmp ℕ) (origin : ℕ) → contains (origins owed) origin ≡ true → (page : ℕ) × (get owed page ≡ Some origin)
pair-origins owed origin h =
    elim (home owed origin) as (λ o. home owed origin ≡ o → (page : ℕ) × (get owed page ≡ Some origin)) [
      | None ↦ λ e. absurd (false≢true (sym (ap is_some e) ∙ and_second (ltb origin HIGH_PAGE) (is_some (home owed origin)) (sym (member_below _ HIGH_PAGE origin) ∙ h)))
      | Some page ↦ λ e. (page, home_tells owed origin page e)
    ] refl

-- The answer

-- a Recv stands first, and the requests after it
answer_first : (back : List Sent) (epoch : ℕ) (frame : Frame) (frames : List Frame) → back ≡ [] → sending back epoch (frame ∷ frames) ≡ record { epoch = epoch; frame = frame } ∷ sending [] epoch frames
answer_first back epoch frame frames none = ap (λ b. sending b epoch (frame ∷ frames)) none ∙ sending-behind (record { epoch = epoch; frame = frame } ∷ []) epoch frames

resume_alone : (epoch source_epoch : ℕ) (rest : List Sent) (h : record { epoch = epoch; frame = Resume } ∷ rest ≡ record { epoch = source_epoch; frame = Resume } ∷ []) → rest ≡ []
resume_alone epoch source_epoch rest h = cc

-- it continues in a phase, and answers with these frames
goes_on : (to : DestPhase) (ran : Bool) (epoch : ℕ) (keeps : FinMap nat_cmp (List ℕ)) (frames : List Frame) (rest : List Sent) (world : World) →
    let old : World = at_state SourcePhase.Paused DestPhase.Paused ran true (record { epoch = epoch; frame = Resume } ∷ rest) world in
    let new : World = record old {
      destination = record old.destination { phase = to; epoch = epoch; kept = keeps; urgent_taken = 0 };
      forward = wire_behind rest;
      back = record world.back { frames = sending world.back.frames epoch frames };
    } in
    IsSoundWorld old → to ≢ DestPhase.Idle → RanAt to ran world.destination.ended → (epoch ≡ world.source.epoch → EpochAt to epoch world.source.epoch) → (ran ≡ true → keeps ≡ finmap.empty) →
    ((page : ℕ) (bytes : List ℕ) → get keeps page ≡ Some bytes → length bytes ≡ 4096) → Wires new.source new.destination new.forward.frames new.back.frames new.urgent.frames → IsSoundWorld new
goes_on to ran epoch keeps frames rest world kept advised phase at kept_none kept_whole on_wires = grind (arith, nat_tests, AreOf-sending, fits-none, fits-more)

-- it has not run: what it kept is dropped
resume_waiting : (epoch : ℕ) (rest : List Sent) (world : World) →
    let old : World = at_state SourcePhase.Paused DestPhase.Paused false true (record { epoch = epoch; frame = Resume } ∷ rest) world in
    IsSoundWorld old → IsSoundWorld (delivered old old.forward.frames)
resume_waiting epoch rest world kept = grind (arith, nat_tests)

-- it runs: it still needs what it is owed, and asks again for what it has asked
resume_running : (epoch : ℕ) (rest : List Sent) (world : World) →
    let old : World = at_state SourcePhase.Paused DestPhase.Paused true true (record { epoch = epoch; frame = Resume } ∷ rest) (record world { destination = record world.destination { ended = false } }) in
    IsSoundWorld old → IsSoundWorld (delivered old old.forward.frames)
resume_running epoch rest world kept =
    let owed : FinMap nat_cmp ℕ = world.destination.owed in
    let w = kept.flight.wires refl in
    let frames : List Frame = map Request world.destination.requests in
    goes_on DestPhase.Running true epoch world.destination.kept (Recv Received.Running (origins owed) ∷ frames) rest (record world { destination = record world.destination { ended = false } }) kept (λ h. cc) (refl, refl) (λ same. same)
    kept.copies.kept_none kept.copies.kept_whole (
      resume_alone epoch world.source.epoch rest w.0,
      record {
        owed = origins owed;
        epoch = epoch;
        rest = sending [] epoch frames;
        first = answer_first world.back.frames epoch (Recv Received.Running (origins owed)) frames w.1;
        requests = are_requests-sending epoch [] world.destination.requests refl;
        alone = λ h. absurd (h refl);
        none_listed = λ h. absurd (h refl);
        needed = λ page origin h.
            let low = present_below world.source.guest.space origin kept.spaces.source_space.host (kept.owing.origins_present page origin h) in
            origins-pair owed page origin h (kept.owing.owed_below page origin h) (lt-ltb origin HIGH_PAGE low);
        owed_present = λ origin h. let pair = pair-origins owed origin h in kept.owing.origins_present pair.0 origin pair.1;
      },
    )

-- it has ended: it needs nothing
resume_ended : (epoch : ℕ) (rest : List Sent) (world : World) →
    let old : World = at_state SourcePhase.Paused DestPhase.Paused true true (record { epoch = epoch; frame = Resume } ∷ rest) (record world { destination = record world.destination { ended = true } }) in
    IsSoundWorld old → IsSoundWorld (delivered old old.forward.frames)
resume_ended epoch rest world kept =
    let w = kept.flight.wires refl in
    goes_on DestPhase.Ended true epoch world.destination.kept (Recv Received.Ended no_pages ∷ []) rest (record world { destination = record world.destination { ended = true } }) kept (λ h. cc) refl (λ same. same)
    kept.copies.kept_none kept.copies.kept_whole (
      resume_alone epoch world.source.epoch rest w.0,
      record {
        owed = no_pages;
        epoch = epoch;
        rest = [];
        first = answer_first world.back.frames epoch (Recv Received.Ended no_pages) [] w.1;
        requests = refl;
        alone = λ h. refl;
        none_listed = λ h. refl;
        needed = λ page origin h. absurd (none-some origin (sym (get-empty nat_cmp page) ∙ sym (ap (λ o. get o page) (kept.owing.ended_empty refl).0) ∙ h));
        owed_present = λ page h. no_page page h;
      },
    )

resume_by : (ran ended : Bool) (epoch : ℕ) (rest : List Sent) (world : World) →
    let old : World = at_state SourcePhase.Paused DestPhase.Paused ran true (record { epoch = epoch; frame = Resume } ∷ rest) (record world { destination = record world.destination { ended = ended } }) in
    IsSoundWorld old → IsSoundWorld (delivered old old.forward.frames)
resume_by false ended epoch rest world kept = resume_waiting epoch rest (record world { destination = record world.destination { ended = ended } }) kept
resume_by true false epoch rest world kept = resume_running epoch rest world kept
resume_by true true epoch rest world kept = resume_ended epoch rest world kept

pub resume_taken : (ran : Bool) (epoch : ℕ) (rest : List Sent) (world : World) →
    let old : World = at_state SourcePhase.Paused DestPhase.Paused ran true (record { epoch = epoch; frame = Resume } ∷ rest) world in
    IsSoundWorld old → IsSoundWorld (delivered old old.forward.frames)
resume_taken ran epoch rest world kept = resume_by ran world.destination.ended epoch rest world kept

-- A frame that is taken before the destination runs

-- its phase, its epoch, its count and the pages that it keeps change alone
taken_before : (from : SourcePhase) (to next : DestPhase) (ran : Bool) (epoch own count : ℕ) (frame : Frame) (keeps : FinMap nat_cmp (List ℕ)) (rest : List Sent) (world : World) →
    let old : World = at_state from to ran true (record { epoch = epoch; frame = frame } ∷ rest) world in
    let new : World = record old { destination = record old.destination { phase = next; epoch = own; kept = keeps; urgent_taken = count }; forward = wire_behind rest } in
    IsSoundWorld old → ran ≡ false → next ≢ DestPhase.Idle → RanAt next ran world.destination.ended → own ≡ world.source.epoch → EpochAt next own world.source.epoch →
    ((page : ℕ) (bytes : List ℕ) → get keeps page ≡ Some bytes → length bytes ≡ 4096) → AreWhole (copies_of rest) → Wires new.source new.destination new.forward.frames new.back.frames new.urgent.frames → IsSoundWorld new
taken_before from to next ran epoch own count frame keeps rest world kept bare advised phase same at whole copies on_wires = grind (arith, nat_tests)

-- Advise: the wires are what they were
advise_taken : (from : SourcePhase) (ran : Bool) (epoch : ℕ) (rest : List Sent) (world : World) →
    let old : World = at_state from DestPhase.Idle ran true (record { epoch = epoch; frame = Advise } ∷ rest) world in
    let new : World = delivered old old.forward.frames in
    IsSoundWorld old → Wires new.source new.destination new.forward.frames new.back.frames new.urgent.frames → IsSoundWorld new
advise_taken from ran epoch rest world kept on_wires = grind (arith, nat_tests)

-- Copies while the destination does not run

pub whole_parts : (a b : List Copy) → AreWhole (a ++ b) → AreWhole a × AreWhole b
whole_parts [] b h = (tt, h)
whole_parts (copy ∷ a) b h = let rest = whole_parts a b h.1 in ((h.0, rest.0), rest.1)

-- the pages kept stay whole
whole_with : (copies : List Copy) (kept : FinMap nat_cmp (List ℕ)) → AreWhole copies → ((q : ℕ) (held : List ℕ) → get kept q ≡ Some held → length held ≡ 4096) →
    (q : ℕ) (held : List ℕ) → get (kept_with kept copies) q ≡ Some held → length held ≡ 4096
whole_with [] kept are whole = whole
whole_with (copy ∷ copies) kept are whole = grind (arith, nat_tests, put_whole, get-put, whole_with copies (insert kept copy.page copy.bytes) are.1 (λ q held h. put_whole (eqb q copy.page) copy.bytes held (get kept q) are.0 (whole q held) (sym (get-put kept copy.page q copy.bytes) ∙ h)))

-- the kept table is folded over the wire as before
copies_kept : (from : SourcePhase) (epoch : ℕ) (frame : Frame) (rest : List Sent) (world : World) →
    let old : World = at_state from DestPhase.Advised false true (record { epoch = epoch; frame = frame } ∷ rest) world in
    let new : World = record old { destination = record old.destination { kept = kept_with world.destination.kept (copies_in frame) }; forward = wire_behind rest } in
    IsSoundWorld old → Wires new.source new.destination new.forward.frames new.back.frames new.urgent.frames → IsSoundWorld new
copies_kept from epoch frame rest world kept on_wires = grind (arith, nat_tests, whole_parts, whole_with)

-- A Discard

kept_whole_if : (test : Bool) (o : Option (List ℕ)) (held : List ℕ) → (o ≡ Some held → length held ≡ 4096) → cond test o None ≡ Some held → length held ≡ 4096
kept_whole_if test o held whole h = grind arith

whole_discarded : (kept : FinMap nat_cmp (List ℕ)) (pages : FinSet nat_cmp) → ((q : ℕ) (held : List ℕ) → get kept q ≡ Some held → length held ≡ 4096) →
    (q : ℕ) (held : List ℕ) → get (kept_after kept (Discard pages)) q ≡ Some held → length held ≡ 4096
whole_discarded kept pages whole q held h =
    kept_whole_if (not (contains pages q)) (get kept q) held (whole q held)
    (sym (get-retain_keys kept (λ page. not (contains pages page)) q (λ x e. ap (λ page. not (contains pages page)) (sym (nat_cmp-IsAntisymmetric q x e)))) ∙ h)

discard_taken : (epoch : ℕ) (pages : FinSet nat_cmp) (rest : List Sent) (world : World) →
    let old : World = at_state SourcePhase.Stopped DestPhase.Advised false true (record { epoch = epoch; frame = Discard pages } ∷ rest) world in
    IsSoundWorld old → IsSoundWorld (delivered old old.forward.frames)
discard_taken epoch pages rest world kept =
    let w = kept.flight.wires refl in
    let same = kept.epochs.epoch_at refl in
    taken_before SourcePhase.Stopped DestPhase.Advised DestPhase.Discarding false epoch world.destination.epoch world.destination.urgent_taken (Discard pages) _ rest world kept refl (λ h. cc) refl same same
    (whole_discarded world.destination.kept pages kept.copies.kept_whole) kept.copies.copies_whole
    (w.0, w.1, record { owed = w.2.owed; plan = w.2.plan; owed_present = w.2.owed_present; kept_rest = w.2.kept_rest; whereabouts = w.2.whereabouts; faithful = w.2.faithful })

-- A copy while the destination runs

copy_arrives : (epoch : ℕ) (frame : Frame) (copy : Copy) (rest : List Sent) (world : World) →
    let old : World = at_state SourcePhase.Stopped DestPhase.Running true true (record { epoch = epoch; frame = frame } ∷ rest) world in
    let bytes : FinMap nat_cmp (List ℕ) = world.source.guest.space.host.bytes in
    IsSoundWorld old → AreFaithful bytes (copy ∷ copies_of rest) → AreWhole (copies_of rest) → flow_after Pushed rest ≡ Some (flow_of old.source) → are_requests world.back.frames ≡ true →
    ((page origin : ℕ) → get world.destination.owed page ≡ Some origin →
    (is_urgent_or_left world.source.remaining world.urgent.frames origin || has_copy (copy ∷ copies_of rest) origin || has_copy world.destination.arrivals origin) ≡ true) →
    IsSoundWorld (record old { destination = record old.destination { arrivals = world.destination.arrivals ++ copy ∷ [] }; forward = wire_behind rest })
copy_arrives epoch frame copy rest world kept faithful whole flow requests whereabouts = grind (arith, nat_tests, AreFaithful-append, has_copy-append, flight_up, fits-none)

-- The frames in their phases

precopy_unadvised : (ran : Bool) (epoch : ℕ) (frame : Frame) (rest : List Sent) (world : World) →
    let old : World = at_state SourcePhase.Precopy DestPhase.Idle ran true (record { epoch = epoch; frame = frame } ∷ rest) world in
    IsSoundWorld old → IsSoundWorld (delivered old old.forward.frames)
precopy_unadvised ran epoch frame rest world kept = grind (arith, nat_tests)

stopped_unadvised : (ran : Bool) (epoch : ℕ) (frame : Frame) (rest : List Sent) (world : World) →
    let old : World = at_state SourcePhase.Stopped DestPhase.Idle ran true (record { epoch = epoch; frame = frame } ∷ rest) world in
    IsSoundWorld old → IsSoundWorld (delivered old old.forward.frames)
stopped_unadvised ran epoch Advise rest world kept =
    let w = kept.flight.wires refl in
    advise_taken SourcePhase.Stopped ran epoch rest world kept
    (w.0, w.1, record { owed = w.2.owed; plan = w.2.plan; owed_present = w.2.owed_present; kept_rest = w.2.kept_rest; whereabouts = w.2.whereabouts; faithful = w.2.faithful })
stopped_unadvised ran epoch _ rest world kept = absurd (none-some (flow_of (record world.source { phase = SourcePhase.Stopped })) (kept.flight.wires refl).0)

precopy_advised : (epoch : ℕ) (frame : Frame) (rest : List Sent) (world : World) →
    let old : World = at_state SourcePhase.Precopy DestPhase.Advised false true (record { epoch = epoch; frame = frame } ∷ rest) world in
    IsSoundWorld old → IsSoundWorld (delivered old old.forward.frames)
precopy_advised epoch frame rest world kept = grind (arith, nat_tests, copies_kept, ends_late)

-- the Package and the pages after it are the same
switching_on : (source : Source) (kept keeps : FinMap nat_cmp (List ℕ)) (wire rest urgent : List Sent) → package_in wire ≡ package_in rest → kept_by kept wire ≡ kept_by keeps rest → after_package wire ≡ after_package rest →
    IsSwitching source kept wire urgent → IsSwitching source keeps rest urgent
switching_on source kept keeps wire rest urgent same held after old =
    record {
      owed = old.owed;
      plan = sym same ∙ old.plan;
      owed_present = old.owed_present;
      kept_rest = λ page. ap (λ m. get m page) (sym held) ∙ old.kept_rest page;
      whereabouts = λ page h. ap (λ l. is_urgent_or_left source.remaining urgent page || has_copy (copies_of l) page) (sym after) ∙ old.whereabouts page h;
      faithful = subst (λ l. AreFaithful source.guest.space.host.bytes (copies_of l)) after old.faithful;
    }

stopped_advised : (epoch : ℕ) (frame : Frame) (rest : List Sent) (world : World) →
    let old : World = at_state SourcePhase.Stopped DestPhase.Advised false true (record { epoch = epoch; frame = frame } ∷ rest) world in
    IsSoundWorld old → IsSoundWorld (delivered old old.forward.frames)
stopped_advised epoch (Page page bytes) rest world kept = let w = kept.flight.wires refl in copies_kept _ epoch (Page page bytes) rest world kept (w.0, w.1, switching_on _ _ _ _ rest _ refl refl refl w.2)
stopped_advised epoch (Zero page) rest world kept = let w = kept.flight.wires refl in copies_kept _ epoch (Zero page) rest world kept (w.0, w.1, switching_on _ _ _ _ rest _ refl refl refl w.2)
stopped_advised epoch (Run first pages) rest world kept = let w = kept.flight.wires refl in copies_kept _ epoch (Run first pages) rest world kept (w.0, w.1, switching_on _ _ _ _ rest _ refl refl refl w.2)
stopped_advised epoch (Discard pages) rest world kept = discard_taken epoch pages rest world kept
stopped_advised epoch _ rest world kept = absurd (none-some (flow_of (record world.source { phase = SourcePhase.Stopped })) (kept.flight.wires refl).0)

stopped_discarding : (epoch : ℕ) (frame : Frame) (rest : List Sent) (world : World) →
    let old : World = at_state SourcePhase.Stopped DestPhase.Discarding false true (record { epoch = epoch; frame = frame } ∷ rest) world in
    IsSoundWorld old → IsSoundWorld (delivered old old.forward.frames)
stopped_discarding epoch frame rest world kept = grind (arith, nat_tests, package_taken)

-- whether the frame is one before which all that came has to be installed
abbrev IsFree : Frame → World → Type 0
IsFree frame world = (is_end frame && not (is_empty world.destination.arrivals)) ≡ false

-- where End is taken nothing is on the urgent wire
abbrev pub AllCame : Frame → World → Type 0
AllCame frame world = (count : ℕ) → frame ≡ End count → world.urgent.frames ≡ []

none_waits : (arrivals : List Copy) → not (is_empty arrivals) ≡ false → arrivals ≡ []
none_waits arrivals h = grind (arith, nat_tests)

stopped_running : (epoch : ℕ) (frame : Frame) (rest : List Sent) (world : World) → IsFree frame world → AllCame frame world →
    let old : World = at_state SourcePhase.Stopped DestPhase.Running true true (record { epoch = epoch; frame = frame } ∷ rest) world in
    IsSoundWorld old → IsSoundWorld (delivered old old.forward.frames)
stopped_running epoch (Page page bytes) rest world free came kept =
    let w = kept.flight.wires refl in copy_arrives epoch (Page page bytes) (record { page = page; bytes = bytes }) rest world kept (kept.flight.flight_faithful refl) kept.copies.copies_whole.1 w.0 w.1 w.2.whereabouts
stopped_running epoch (Zero page) rest world free came kept =
    let w = kept.flight.wires refl in copy_arrives epoch (Zero page) (record { page = page; bytes = zero_page }) rest world kept (kept.flight.flight_faithful refl) kept.copies.copies_whole.1 w.0 w.1 w.2.whereabouts
stopped_running epoch (End count) rest world free came kept = end_taken epoch count rest world (none_waits world.destination.arrivals free) (came count refl) kept
stopped_running epoch _ rest world free came kept = absurd (none-some (flow_of (record world.source { phase = SourcePhase.Stopped })) (kept.flight.wires refl).0)

is_resume_first : (frame : Frame) (epoch source_epoch : ℕ) (rest : List Sent) → record { epoch = epoch; frame = frame } ∷ rest ≡ record { epoch = source_epoch; frame = Resume } ∷ [] → frame ≡ Resume
is_resume_first frame epoch source_epoch rest h = ap (λ (wire : List Sent). elim wire [ [] ↦ frame | sent ∷ _ ↦ sent.frame ]) h

paused_interrupted : (ran : Bool) (epoch : ℕ) (frame : Frame) (rest : List Sent) (world : World) → frame ≡ Resume →
    let old : World = at_state SourcePhase.Paused DestPhase.Paused ran true (record { epoch = epoch; frame = frame } ∷ rest) world in
    IsSoundWorld old → IsSoundWorld (delivered old old.forward.frames)
paused_interrupted ran epoch frame rest world is =
    subst (λ f. IsSoundWorld (at_state SourcePhase.Paused DestPhase.Paused ran true (record { epoch = epoch; frame = f } ∷ rest) world) →
    IsSoundWorld (delivered (at_state SourcePhase.Paused DestPhase.Paused ran true (record { epoch = epoch; frame = f } ∷ rest) world) (record { epoch = epoch; frame = f } ∷ rest)))
    (sym is) (resume_taken ran epoch rest world)

delivered_in : (from : SourcePhase) (to : DestPhase) (ran : Bool) (sent : Sent) (rest : List Sent) (world : World) → IsFree sent.frame world → AllCame sent.frame world →
    let old : World = at_state from to ran true (sent ∷ rest) world in
    IsSoundWorld old → IsSoundWorld (delivered old old.forward.frames)
delivered_in SourcePhase.Precopy DestPhase.Idle ran sent rest world free came kept = precopy_unadvised ran sent.epoch sent.frame rest world kept
delivered_in SourcePhase.Precopy DestPhase.Advised false sent rest world free came kept = precopy_advised sent.epoch sent.frame rest world kept
delivered_in SourcePhase.Precopy DestPhase.Advised true sent rest world free came kept = absurd (not_up kept.phases.destination_phase)
delivered_in SourcePhase.Stopped DestPhase.Idle ran sent rest world free came kept = stopped_unadvised ran sent.epoch sent.frame rest world kept
delivered_in SourcePhase.Stopped DestPhase.Advised false sent rest world free came kept = stopped_advised sent.epoch sent.frame rest world kept
delivered_in SourcePhase.Stopped DestPhase.Advised true sent rest world free came kept = absurd (not_up kept.phases.destination_phase)
delivered_in SourcePhase.Stopped DestPhase.Discarding false sent rest world free came kept = stopped_discarding sent.epoch sent.frame rest world kept
delivered_in SourcePhase.Stopped DestPhase.Discarding true sent rest world free came kept = absurd (not_up kept.phases.destination_phase)
delivered_in SourcePhase.Stopped DestPhase.Running true sent rest world free came kept = stopped_running sent.epoch sent.frame rest world free came kept
delivered_in SourcePhase.Stopped DestPhase.Running false sent rest world free came kept = absurd (false≢true kept.phases.destination_phase.0)
delivered_in SourcePhase.Paused DestPhase.Paused ran sent rest world free came kept = paused_interrupted ran sent.epoch sent.frame rest world (is_resume_first sent.frame sent.epoch world.source.epoch rest (kept.flight.wires refl).0) kept
delivered_in from to ran sent rest world free came kept = absurd (false≢true (first_in_place (record world.source { phase = from }) (record world.destination { phase = to; has_run = ran }) sent rest world.back.frames world.urgent.frames (kept.flight.wires refl)))

delivered_by : (up : Bool) (sent : Sent) (rest : List Sent) (world : World) → up ≡ true → IsFree sent.frame world → AllCame sent.frame world →
    IsSoundWorld (record world { up = up; forward = record world.forward { frames = sent ∷ rest } }) → IsSoundWorld (after_deliver (record world { up = up; forward = record world.forward { frames = sent ∷ rest } }) sent rest)
delivered_by true sent rest world h free came kept = delivered_in world.source.phase world.destination.phase world.destination.has_run sent rest world free came kept
delivered_by false sent rest world h free came kept = absurd (false≢true h)

pub kept-deliver : (world : World) (sent : Sent) (rest : List Sent) → IsSoundWorld world → world.forward.frames ≡ sent ∷ rest → world.up ≡ true → IsFree sent.frame world → AllCame sent.frame world → IsSoundWorld (after_deliver world sent rest)
kept-deliver world sent rest kept first up free came = delivered_by world.up sent rest world up free came (subst (λ wire. IsSoundWorld (record world { forward = record world.forward { frames = wire } })) first kept)
