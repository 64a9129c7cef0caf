-- Deliveries: what is refused, what moves bytes alone, and what a node takes.
use Rattle.std.proofs.Common.{◌≡◌, ◌==◌, ℕ, ◌⊎◌, ◌||◌, Bool, true, false, not, ◌&&◌, Option, Some, None, Ok, Err, Result, List, [], ◌∷◌, refl, sym, ap, ◌∙◌, subst, inr, ⊎_elim, arith, if◌then◌else◌}
use Rattle.std.specs.Prelude.{ok_or, unwrap_or}
use Rattle.std.proofs.lemmas.Bool.Decides.{nat_tests}
use Rattle.std.specs.Ordering.{nat_cmp}
use Rattle.std.specs.FinSet.{FinSet}
use Rattle.mig_base.specs.declared.effect.Effect.{Effect}
use Rattle.mig_base.specs.declared.fault.BackFault.{BackFault}
use Rattle.mig_base.specs.declared.fault.RebuildFault.{RebuildFault}
use Rattle.mig_base.specs.declared.fault.TakeFault.{TakeFault}
use Rattle.mig_base.specs.declared.phase.Received.{Received}
use Rattle.mig_base.specs.declared.refusal.Refusal.{Refusal}
use Rattle.mig_base.specs.declared.schedule.Step.{Step}
use Rattle.foundation.specs.Tests.{first_holding, is_empty}
use Rattle.mig_model.specs.Destination.{Destination, destination_answers, destination_took}
use Rattle.mig_model.specs.DestinationSteps.{take, take_urgent}
use Rattle.mig_model.specs.Effects.{frame_effect}
use Rattle.mig_model.specs.Faults.{frame_fault, is_bad_owed, is_early, is_end, is_in_place_back, take_fault, urgent_fault, wait_fault}
use Rattle.mig_model.specs.Migration.{World, answer, destination_sends, has_started, is_short, outcome, outcome_by}
use Rattle.mig_model.specs.NodeSteps.{Sends, acted, and_then, checked, first_of, in_phase, is_out_of_phase, rest_of, sent, unless, while_up}
use Rattle.mig_model.specs.Promises.{IsReached}
use Rattle.mig_model.specs.Runs.{Happens, is_move, may_lack}
use Rattle.mig_model.specs.Source.{Source, source_answers, space_of}
use Rattle.mig_model.specs.SourceSteps as source
use Rattle.mig_model.specs.Space.{IsSoundSpace}
use Rattle.mig_model.specs.Wire.{Frame, Sent, Wire, wire_behind, wire_if, wire_with}
use Rattle.mig_model.specs.Wire.Frame.{Recv}
use Rattle.mig_model.proofs.steps.EveryStep.{kept-reached, urgent-reached}
use Rattle.mig_model.proofs.delivery.FrameFaults.{no_back_fault, no_frame_fault, no_rebuild_fault, no_urgent_fault, present_below}
use Rattle.mig_model.proofs.delivery.FramesTaken.{back_epoch, is_taken, is_taken_back}
use Rattle.mig_model.proofs.delivery.Taken.{IsInPlaceBack}
use Rattle.mig_model.proofs.steps.StepLemmas.{delivers, delivers_back, delivers_urgent}
use Rattle.mig_model.proofs.invariant.UrgentKept.{is_taken_urgent}
use Rattle.mig_model.proofs.transcript.WaitingAccesses.{as_many}
use Rattle.page_stream.specs.Frames.{frame_of}
use Rattle.precopy.specs.Back.{is_bad_recv, source_fault}
use Rattle.precopy.specs.declared.fault.SourceFault.{SourceFault}
use Rattle.wires.specs.Lanes.{Arrives, IsMoved, IsWhole, sent_of}
use Rattle.wires.specs.declared.sent.Sent.{Sent as CodeSent}
use Rattle.world.proofs.StepLemmas.{destination_acted, destination_sent, happens_made, happens_refused, source_sent}
use Rattle.world.proofs.WouldLemmas.{Always, checked-and_then, checked-if, checked-while_up}

-- Whether a frame can arrive

-- the first frame in flight, where the link is up and the phase allows a delivery
abbrev pub front : Bool → Bool → Wire → Result Sent Refusal
front up allowed wire = while_up up (in_phase allowed (ok_or (first_of wire.frames) Refusal.NothingThere))

-- what is known where a frame can arrive
pub record CanArrive (link may : Bool) (wire : Wire) : Type 0 where
  pub up : link ≡ true
  pub allowed : may ≡ true
  pub sent : Sent
  pub rest : List Sent
  pub first : wire.frames ≡ sent ∷ rest

arrives_by : (up allowed : Bool) (frames : List Sent) (held : ℕ) → Ok tt ≡ checked (front up allowed (record { frames = frames; held = held })) → CanArrive up allowed (record { frames = frames; held = held })
arrives_by true true (sent ∷ rest) held h = record { up = refl; allowed = refl; sent = sent; rest = rest; first = refl }
arrives_by false true (sent ∷ rest) held h = absurd (let no = h in cc)
arrives_by up true [] held h = absurd (grind (arith, nat_tests))
arrives_by up false frames held h = absurd (grind (arith, nat_tests))

pub can_arrive : (up may allowed : Bool) (wire : Wire) → may ≡ allowed → Ok tt ≡ checked (front up may wire) → CanArrive up allowed wire
can_arrive up may allowed wire is h = subst (λ b. CanArrive up b wire) is (arrives_by up may wire.frames wire.held h)

-- where no frame can arrive, the delivery is refused so
abbrev refused : (A : Type 0) → Refusal → Result A Refusal
refused A refusal = Err refusal

refused_so : (A B : Type 0) (one other : Refusal) → refused A one ≡ refused A other → refused B other ≡ refused B one
refused_so A B one other h = ap (λ (r : Result A Refusal). elim r as (λ _. Result B Refusal) [ Ok x ↦ Err one | Err refusal ↦ Err refusal ]) (sym h)

not_arrived : {A B : Type 0} (up allowed : Bool) (found : Option A) (go : A → Result B Refusal) (refusal : Refusal) → ((x : A) → is_out_of_phase (go x) ≡ false) → Err refusal ≡ checked (while_up up (in_phase allowed (ok_or found Refusal.NothingThere))) →
    while_up up (in_phase allowed (and_then (ok_or found Refusal.NothingThere) go)) ≡ Err refusal
not_arrived {A} {B} up false found go refusal phase h = refused_so (Unit {0}) B refusal Refusal.Phase h
not_arrived {A} {B} true true None go refusal phase h = refused_so (Unit {0}) B refusal Refusal.NothingThere h
not_arrived {A} {B} false true None go refusal phase h = refused_so (Unit {0}) B refusal Refusal.Broken h
not_arrived true true (Some x) go refusal phase h = absurd (let no = h in cc)
not_arrived {A} {B} false true (Some x) go refusal phase h = ap (λ b. if b || false then go x else Err Refusal.Broken) (phase x) ∙ refused_so (Unit {0}) B refusal Refusal.Broken h

phase-if : {A : Type 0} (test : Bool) (one other : Result A Refusal) → is_out_of_phase one ≡ false → is_out_of_phase other ≡ false → is_out_of_phase (if test then one else other) ≡ false
phase-if true one other h k = h
phase-if false one other h k = k

-- a frame that has to wait is not refused for the phase
waits_phase : (world : World) (installs early : Bool) (sends : Sends Destination) → is_out_of_phase (destination_sends world (unless ((installs, Refusal.InstallFirst) ∷ (early, Refusal.UrgentFirst) ∷ []) (Ok sends))) ≡ false
unfolding unless
waits_phase world true early sends = refl
waits_phase world false true sends = refl
waits_phase world false false sends = refl

take_phase : (world : World) (node : Destination) (epoch : ℕ) (frame : Frame) → is_out_of_phase (destination_sends world (take node epoch frame)) ≡ false
take_phase world node epoch frame =
    waits_phase world (is_end frame && not (is_empty node.arrivals)) (is_early node frame) (record { effect = frame_effect frame; frames = destination_answers node frame; node = destination_took node epoch frame })

-- what a destination answers to a frame that is not wrong, by its fault
abbrev taken_by : Option TakeFault → Result (Sends Destination) Refusal → Result (Sends Destination) Refusal
taken_by None sends = sends
taken_by (Some TakeFault.InstallFirst) sends = Err Refusal.InstallFirst
taken_by (Some fault) sends = Err Refusal.UrgentFirst

waits_by : (installs early : Bool) (fault : Option TakeFault) (sends : Result (Sends Destination) Refusal) → first_holding ((installs, TakeFault.InstallFirst) ∷ (early, TakeFault.UrgentFirst) ∷ []) ≡ fault →
    unless ((installs, Refusal.InstallFirst) ∷ (early, Refusal.UrgentFirst) ∷ []) sends ≡ taken_by fault sends
unfolding unless
waits_by true early fault sends h = ap (λ f. taken_by f sends) h
waits_by false true fault sends h = ap (λ f. taken_by f sends) h
waits_by false false fault sends h = ap (λ f. taken_by f sends) h

pub takes : (node : Destination) (epoch : ℕ) (frame : Frame) (fault : Option TakeFault) → frame_fault node epoch frame ≡ None → take_fault node epoch frame ≡ fault →
    take node epoch frame ≡ taken_by fault (sent (frame_effect frame) (destination_answers node frame) (destination_took node epoch frame))
takes node epoch frame fault right h =
    waits_by (is_end frame && not (is_empty node.arrivals)) (is_early node frame) fault _ (sym (ap (λ o. elim o [ None ↦ wait_fault node frame | Some other ↦ Some other ]) right) ∙ h)

-- a fault that is not for memory is the frame's
pub some_fault : (found : Option TakeFault) (fault : TakeFault) → fault ≡ unwrap_or found TakeFault.NoMemory → (fault ≡ TakeFault.NoMemory → ⊥) → found ≡ Some fault
some_fault None fault is other = absurd (other is)
some_fault (Some reason) fault is other = ap (λ (f : TakeFault). Some f) (sym is)

pub deliver_refused : (world : World) (n : ℕ) (refusal : Refusal) (may : Bool) → may ≡ has_started world → Err refusal ≡ checked (front world.up may world.forward) → answer world (Step.Deliver n) ≡ Err refusal
deliver_refused world n refusal may is h =
    not_arrived world.up (has_started world) (first_of world.forward.frames) _ refusal
    (λ sent. phase-if (is_short world.forward sent.frame n) _ _ refl (take_phase (record world { forward = wire_behind (rest_of world.forward.frames) }) world.destination sent.epoch sent.frame))
    (subst (λ b. Err refusal ≡ checked (front world.up b world.forward)) is h)

pub back_refused : (world : World) (n : ℕ) (refusal : Refusal) (may : Bool) → may ≡ has_started world → Err refusal ≡ checked (front world.up may world.back) → answer world (Step.DeliverBack n) ≡ Err refusal
back_refused world n refusal may is h =
    not_arrived world.up (has_started world) (first_of world.back.frames) _ refusal (λ sent. phase-if (is_short world.back sent.frame n) _ _ refl refl)
    (subst (λ b. Err refusal ≡ checked (front world.up b world.back)) is h)

pub urgent_refused : (world : World) (n : ℕ) (refusal : Refusal) (may : Bool) → may ≡ world.destination.has_run → Err refusal ≡ checked (front world.up may world.urgent) → answer world (Step.DeliverUrgent n) ≡ Err refusal
urgent_refused world n refusal may is h =
    not_arrived world.up world.destination.has_run (first_of world.urgent.frames) _ refusal (λ sent. phase-if (is_short world.urgent sent.frame n) _ _ refl refl)
    (subst (λ b. Err refusal ≡ checked (front world.up b world.urgent)) is h)

-- a delivery to the source, or on the urgent wire, is refused for no other reason
pub always-if : {A : Type 0} (test : Bool) (one other : Result A Refusal) → checked one ≡ Ok tt → checked other ≡ Ok tt → checked (if test then one else other) ≡ Ok tt
always-if true one other h k = h
always-if false one other h k = k

checked-flight : {A B : Type 0} (up allowed : Bool) (found : Result A Refusal) (go : A → Result B Refusal) → Always go → checked (while_up up (in_phase allowed found)) ≡ checked (while_up up (in_phase allowed (and_then found go)))
checked-flight up allowed found go always =
    checked-while_up up (in_phase allowed found)
    ∙ ap (while_up up) (checked-if allowed found Refusal.Phase ∙ ap (in_phase allowed) (sym (checked-and_then found go always)) ∙ sym (checked-if allowed (and_then found go) Refusal.Phase))
    ∙ sym (checked-while_up up (in_phase allowed (and_then found go)))

pub back_checked : (world : World) (n : ℕ) → checked (front world.up (has_started world) world.back) ≡ checked (answer world (Step.DeliverBack n))
back_checked world n = checked-flight world.up (has_started world) (ok_or (first_of world.back.frames) Refusal.NothingThere) _ (λ sent. always-if (is_short world.back sent.frame n) _ _ refl refl)

pub urgent_checked : (world : World) (n : ℕ) → checked (front world.up world.destination.has_run world.urgent) ≡ checked (answer world (Step.DeliverUrgent n))
urgent_checked world n = checked-flight world.up world.destination.has_run (ok_or (first_of world.urgent.frames) Refusal.NothingThere) _ (λ sent. always-if (is_short world.urgent sent.frame n) _ _ refl refl)

-- Bytes that arrive

pub not_none : (wire : Wire) (sent : Sent) (rest : List Sent) → wire.frames ≡ sent ∷ rest → wire.frames ≡ [] → ⊥
not_none wire sent rest first none = let no : sent ∷ rest ≡ [] = sym first ∙ none in cc

pub arrived_moved : (old : Wire) (n : ℕ) (read : Option CodeSent) (new : Wire) → (old.frames ≡ [] → ⊥) → read ≡ None → Arrives old n (Ok read) new → IsMoved old n new
arrived_moved old n None new some is arrived = ⊎_elim (λ (none : (old.frames ≡ []) × (new ≡ old)). absurd (some none.0)) (λ (moved : IsMoved old n new). moved) arrived
arrived_moved old n (Some sent) new some is arrived = absurd (let no = is in cc)

pub arrived_whole : (old : Wire) (n : ℕ) (read : Option CodeSent) (sent : CodeSent) (new : Wire) → read ≡ Some sent → Arrives old n (Ok read) new → IsWhole old n sent × (new ≡ old)
arrived_whole old n read sent new is arrived = subst (λ read. Arrives old n (Ok read) new) is arrived

-- the wire once its first frame is taken
pub taken_off : (old new left : Wire) (n : ℕ) (sent : CodeSent) (whole : IsWhole old n sent) → new ≡ old → ((first : Sent) (rest : List Sent) → new.frames ≡ first ∷ rest → left ≡ wire_behind rest) → left ≡ wire_behind whole.rest
taken_off old new left n sent whole same off = off (sent_of sent) whole.rest (ap (λ wire. wire.frames) same ∙ whole.first)

-- Deliver

-- the taking of a frame moves no bytes alone
frame_no_move : (frame : Frame) → is_move (frame_effect frame) ≡ false
frame_no_move frame = grind (arith, nat_tests)

lacks_taking : (world : World) (n : ℕ) (node : Destination) (epoch : ℕ) (frame : Frame) → may_lack (Step.Deliver n) (outcome_by (destination_sends world (take node epoch frame))) ≡ true
unfolding unless
lacks_taking world n node epoch frame = grind (arith, nat_tests, frame_no_move)

pub deliver_moved : (world : World) (n : ℕ) (new : Wire) → CanArrive world.up (has_started world) world.forward → (moved : IsMoved world.forward n new) → Happens world (Step.Deliver n) (Ok (Effect.Moved n)) (record world { forward = new })
deliver_moved world n new can moved =
    rw moved.moved (happens_made world _ (Step.Deliver n) (Effect.Moved n) (delivers world n moved.sent moved.rest true can.allowed can.up moved.first moved.short))

-- memory may be refused for a frame that is complete, and for its answer
pub deliver_lacking : (world : World) (n : ℕ) (sent : Sent) (rest : List Sent) → CanArrive world.up (has_started world) world.forward → world.forward.frames ≡ sent ∷ rest → is_short world.forward sent.frame n ≡ false → Happens world (Step.Deliver n) (Err Refusal.NoMemory) world
unfolding outcome
deliver_lacking world n sent rest can first full =
    inr (refl, ap (λ a. may_lack (Step.Deliver n) (outcome_by a)) (delivers world n sent rest false can.allowed can.up first full) ∙ lacks_taking (record world { forward = wire_behind rest }) n world.destination sent.epoch sent.frame, refl)

pub deliver_took : (world : World) (n : ℕ) (one : CodeSent) (effect : Effect) (node : Destination) (back : Wire) → CanArrive world.up (has_started world) world.forward → (whole : IsWhole world.forward n one) →
    take world.destination one.epoch (frame_of one.frame) ≡ sent effect (destination_answers world.destination (frame_of one.frame)) node → back ≡ wire_with world.back node.epoch (destination_answers world.destination (frame_of one.frame)) →
    Happens world (Step.Deliver n) (Ok effect) (record world { destination = node; forward = wire_behind whole.rest; back = back })
deliver_took world n one effect node back can whole took answered =
    let answers = destination_answers world.destination (frame_of one.frame) in
    destination_sent world (record world { forward = wire_behind whole.rest }) (Step.Deliver n) (take world.destination one.epoch (frame_of one.frame)) effect answers node back
    (delivers world n (sent_of one) whole.rest false can.allowed can.up whole.first whole.whole) took (answered ∙ (λ i. wire_if (sym can.up i) world.back node.epoch answers))

-- a frame is refused only for what it has to wait for, or for lack of memory
pub deliver_not : (world : World) (n : ℕ) (one : CodeSent) (refusal : Refusal) → CanArrive world.up (has_started world) world.forward → IsWhole world.forward n one → (refusal ≡ Refusal.NoMemory) ⊎ (take world.destination one.epoch (frame_of one.frame) ≡ Err refusal) →
    Happens world (Step.Deliver n) (Err refusal) world
deliver_not world n one refusal can whole refused =
    ⊎_elim
    (λ (short : refusal ≡ Refusal.NoMemory). subst (λ r. Happens world (Step.Deliver n) (Err r) world) (sym short) (deliver_lacking world n (sent_of one) whole.rest can whole.first whole.whole))
    (λ (waits : take world.destination one.epoch (frame_of one.frame) ≡ Err refusal).
    happens_refused world (Step.Deliver n) refusal
    (delivers world n (sent_of one) whole.rest false can.allowed can.up whole.first whole.whole ∙ ap (destination_sends (record world { forward = wire_behind whole.rest })) waits))
    refused

pub forward_right : (world : World) (n : ℕ) (one : CodeSent) → IsReached world → CanArrive world.up (has_started world) world.forward → IsWhole world.forward n one → frame_fault world.destination one.epoch (frame_of one.frame) ≡ None
forward_right world n one reached can whole =
    no_frame_fault world.destination (sent_of one) (is_taken world (sent_of one) whole.rest (kept-reached world reached) (urgent-reached world reached) (as_many world reached) can.up whole.first)

-- DeliverBack

no_move : {b : Bool} → b ≡ false → (true && not (true && b)) ≡ true
no_move {b} h = rw h refl

pub back_moved : (world : World) (n : ℕ) (new : Wire) → CanArrive world.up (has_started world) world.back → (moved : IsMoved world.back n new) → Happens world (Step.DeliverBack n) (Ok (Effect.Moved n)) (record world { back = new })
back_moved world n new can moved =
    rw moved.moved (happens_made world _ (Step.DeliverBack n) (Effect.Moved n) (delivers_back world n moved.sent moved.rest true can.allowed can.up moved.first moved.short))

pub back_lacking : (world : World) (n : ℕ) (sent : Sent) (rest : List Sent) → CanArrive world.up (has_started world) world.back → world.back.frames ≡ sent ∷ rest → is_short world.back sent.frame n ≡ false → Happens world (Step.DeliverBack n) (Err Refusal.NoMemory) world
unfolding outcome
back_lacking world n sent rest can first full =
    inr (refl, ap (λ a. may_lack (Step.DeliverBack n) (outcome_by a)) (delivers_back world n sent rest false can.allowed can.up first full) ∙ no_move (frame_no_move sent.frame), refl)

pub back_took : (world : World) (n : ℕ) (one : CodeSent) (effect : Effect) (node : Source) (forward : Wire) → CanArrive world.up (has_started world) world.back → (whole : IsWhole world.back n one) →
    source.take world.source (frame_of one.frame) ≡ sent effect (source_answers world.source (frame_of one.frame)) node → forward ≡ wire_with world.forward node.epoch (source_answers world.source (frame_of one.frame)) →
    Happens world (Step.DeliverBack n) (Ok effect) (record world { source = node; back = wire_behind whole.rest; forward = forward })
back_took world n one effect node forward can whole took answered =
    source_sent world (record world { back = wire_behind whole.rest }) (Step.DeliverBack n) (source.take world.source (frame_of one.frame)) effect (source_answers world.source (frame_of one.frame)) node forward
    (delivers_back world n (sent_of one) whole.rest false can.allowed can.up whole.first whole.whole) took answered

owed_right : (bad : Bool) → first_holding ((bad, RebuildFault.BadOwed) ∷ []) ≡ None → bad ≡ false
owed_right bad none = grind (arith, nat_tests)

recv_right : (node : Source) (state : Received) (owed : FinSet nat_cmp) → IsSoundSpace (space_of node) → IsInPlaceBack node (Recv state owed) → is_bad_owed node state owed ≡ false
recv_right node state owed sound place = owed_right (is_bad_owed node state owed) (no_rebuild_fault node state owed (present_below (space_of node) sound) place)

not_bad : (node : Source) (frame : Frame) → IsSoundSpace (space_of node) → IsInPlaceBack node frame → is_bad_recv node frame ≡ false
not_bad node frame sound place = grind (arith, nat_tests, recv_right)

no_fault : (out stale bad : Bool) → first_holding ((out, BackFault.OutOfPlace) ∷ (stale, BackFault.StaleEpoch) ∷ []) ≡ None → bad ≡ false →
    first_holding ((out, SourceFault.OutOfPlace) ∷ (stale, SourceFault.StaleEpoch) ∷ (bad, SourceFault.BadOwed) ∷ []) ≡ None
no_fault out stale bad none is = grind (arith, nat_tests)

pub back_right : (world : World) (n : ℕ) (one : CodeSent) → IsReached world → CanArrive world.up (has_started world) world.back → IsWhole world.back n one → source_fault world.source one.epoch (frame_of one.frame) ≡ None
back_right world n one reached can whole =
    let kept = kept-reached world reached in
    let place = is_taken_back world (sent_of one) whole.rest kept can.up whole.first in
    no_fault (not (is_in_place_back world.source (frame_of one.frame))) (not (one.epoch == world.source.epoch)) (is_bad_recv world.source (frame_of one.frame))
    (no_back_fault world.source (sent_of one) place (back_epoch world (sent_of one) whole.rest kept whole.first)) (not_bad world.source (frame_of one.frame) kept.spaces.source_space place)

-- DeliverUrgent

pub urgent_moved : (world : World) (n : ℕ) (new : Wire) → CanArrive world.up world.destination.has_run world.urgent → (moved : IsMoved world.urgent n new) → Happens world (Step.DeliverUrgent n) (Ok (Effect.Moved n)) (record world { urgent = new })
urgent_moved world n new can moved =
    rw moved.moved (happens_made world _ (Step.DeliverUrgent n) (Effect.Moved n) (delivers_urgent world n moved.sent moved.rest true can.allowed can.up moved.first moved.short))

pub urgent_lacking : (world : World) (n : ℕ) (sent : Sent) (rest : List Sent) → CanArrive world.up world.destination.has_run world.urgent → world.urgent.frames ≡ sent ∷ rest → is_short world.urgent sent.frame n ≡ false → Happens world (Step.DeliverUrgent n) (Err Refusal.NoMemory) world
unfolding outcome
urgent_lacking world n sent rest can first full =
    inr (refl, ap (λ a. may_lack (Step.DeliverUrgent n) (outcome_by a)) (delivers_urgent world n sent rest false can.allowed can.up first full) ∙ no_move (frame_no_move sent.frame), refl)

pub urgent_did : (world : World) (n : ℕ) (one : CodeSent) (effect : Effect) (node : Destination) → CanArrive world.up world.destination.has_run world.urgent → (whole : IsWhole world.urgent n one) → take_urgent world.destination (frame_of one.frame) ≡ acted effect node →
    Happens world (Step.DeliverUrgent n) (Ok effect) (record world { destination = node; urgent = wire_behind whole.rest })
urgent_did world n one effect node can whole took =
    destination_acted world (record world { urgent = wire_behind whole.rest }) (Step.DeliverUrgent n) (take_urgent world.destination (frame_of one.frame)) effect node
    (delivers_urgent world n (sent_of one) whole.rest false can.allowed can.up whole.first whole.whole) took

pub urgent_right : (world : World) (n : ℕ) (one : CodeSent) → IsReached world → CanArrive world.up world.destination.has_run world.urgent → IsWhole world.urgent n one → urgent_fault world.destination one.epoch (frame_of one.frame) ≡ None
urgent_right world n one reached can whole =
    no_urgent_fault world.destination (sent_of one) (is_taken_urgent world (sent_of one) whole.rest (kept-reached world reached) (urgent-reached world reached) can.allowed can.up whole.first)
