-- An accepted call of a destination is a line of its log.
use Rattle.std.proofs.Common.{◌≡◌, ◌⊎◌, inl, inr, ℕ, zero, suc, ◌+◌, ◌*◌, ◌==◌, ◌&&◌, ◌||◌, not, arith, Bool, true, false, Option, Some, None, List, [], ◌∷◌, ◌++◌, length, replicate, refl, sym, ap, subst, ◌∙◌}
use Rattle.std.specs.Prelude.{Result, Ok, Err, IfOk, OnOk, ok_or}
use Rattle.std.specs.Option.{option_map}
use Rattle.std.specs.Ordering.{nat_cmp}
use Rattle.std.specs.FinMap.{FinMap, insert}
use Rattle.std.proofs.lemmas.Bool.{false≢true}
use Rattle.std.proofs.lemmas.Option.{none-some}
use Rattle.mig_base.specs.Bytes.{zero_page}
use Rattle.foundation.specs.Tests.{first_holding, is_empty}
use Rattle.mig_base.specs.Userfault.{next_message}
use Rattle.foundation.specs.declared.TheConstants.{PAGE_SIZE}
use Rattle.mig_base.specs.declared.act.Act.{Act}
use Rattle.mig_base.specs.declared.act.Act.TheVariants.{Unprotected, Zeroed, Woke, Forgot, Requested}
use Rattle.mig_base.specs.declared.effect.Effect.{Effect}
use Rattle.mig_base.specs.declared.fault.TakeFault.{TakeFault}
use Rattle.mig_base.specs.declared.phase.DestPhase.{DestPhase}
use Rattle.mig_base.specs.declared.refusal.Refusal.{Refusal}
use Rattle.mig_model.specs.Destination.{Destination, copy_came, destination_act, destination_acted_by, destination_answers, destination_took, first_destination, install_by, is_dest_paused, is_running, received_by, resumed_by, urgent_took}
use Rattle.mig_model.specs.DestinationSteps as destination
use Rattle.mig_model.specs.Effects.{frame_effect}
use Rattle.mig_model.specs.Faults.{frame_fault, is_bad, is_early, is_end, is_in_place, is_of_epoch, is_too_soon, take_fault, urgent_fault, wait_fault}
use Rattle.mig_model.specs.GuestSteps as guest
use Rattle.mig_model.specs.GuestSteps.{Tried}
use Rattle.mig_model.specs.NodeSteps.{Acted, Sends, acted, first_of, rest_of, sent}
use Rattle.mig_model.specs.Owed.{home}
use Rattle.mig_model.specs.Wire.{Copy, Frame, Sent, is_copy, kept_with, run_copies, wire_with}
use Rattle.mig_model.specs.Wire.Frame.{Advise, Page, Zero, Run, Discard, Package, End, Resume, Request, Recv, Done}
use Rattle.mig_model.proofs.steps.StepLemmas.{Holds, holds-and_then, holds-in_phase, in-phase, not_refused}
use Rattle.mig_laws.specs.Sides as sides
use Rattle.mig_laws.specs.Sides.{Did, Line}
use Rattle.mig_laws.proofs.OrderRuns.{each}
use Rattle.nodes.specs.Lines.{AreDestinationLines, RanByPhase, IsDestinationLine, IsLoggedTake, IsLoggedUrgently, frame_said, awaits_package}
use Rattle.nodes.specs.DestinationCalls.{AFrame, Handed, IsLeft, IsTaken, IsTakenUrgently, Says, ZeroRun, acts, after, answer, effect_said, fault_of, posts, taken, tries, urgently_taken, zeros_taken}
use Rattle.nodes.specs.Faults.{of_take, taking_fault, urgent_taking_fault}
use Rattle.nodes.specs.Nodes.{PostingDestination}
use Rattle.nodes.specs.Traces.{destination_step}
use Rattle.nodes.specs.declared.fault.FrameFault.{FrameFault}
use Rattle.nodes.specs.declared.steps.DestinationStep.{DestinationStep}
use Rattle.nodes.proofs.Accepted.{refused, same-effect, same-node}

-- Steps

-- a line that gives this, if the call has put its frames after those that wait
gave : (line : Line) (old : PostingDestination) (did : Did Destination) (effect : Effect) (new : PostingDestination) → sides.destination_line old.node line ≡ Ok did →
    acted did.effect (record { node = did.node; wire = wire_with old.wire did.node.epoch did.frames }) ≡ acted effect new → IsDestinationLine old line effect new
gave line old did effect new gives is =
    let node = same-node did.effect effect (record { node = did.node; wire = wire_with old.wire did.node.epoch did.frames }) new is in
    record {
      did = did;
      gives = gives;
      effect_is = sym (same-effect did.effect effect (record { node = did.node; wire = wire_with old.wire did.node.epoch did.frames }) new is);
      node_is = ap (λ (p : PostingDestination). p.node) (sym node);
      waits = ap (λ (p : PostingDestination). p.wire) (sym node);
    }

posts-line : (line : Line) (old : PostingDestination) (step : Result (Sends Destination) Refusal) (effect : Effect) (new : PostingDestination) → sides.destination_line old.node line ≡ sides.sends step → posts old step ≡ acted effect new → IsDestinationLine old line effect new
posts-line line old (Ok step) effect new gives is = gave line old (record { effect = step.effect; frames = step.frames; urgent = []; entries = []; node = step.node }) effect new gives is
posts-line line old (Err refusal) effect new gives is = absurd (refused refusal effect new is)

acts-line : (line : Line) (old : PostingDestination) (step : Result (Acted Destination) Refusal) (effect : Effect) (new : PostingDestination) → sides.destination_line old.node line ≡ sides.acts step → acts old step ≡ acted effect new → IsDestinationLine old line effect new
acts-line line old (Ok step) effect new gives is = gave line old (record { effect = step.effect; frames = []; urgent = []; entries = []; node = step.node }) effect new gives is
acts-line line old (Err refusal) effect new gives is = absurd (refused refusal effect new is)

tries-line : (line : Line) (old : PostingDestination) (step : Result Tried Refusal) (effect : Effect) (new : PostingDestination) → sides.destination_line old.node line ≡ sides.tries (λ g. record old.node { guest = g }) step → tries old step ≡ acted effect new → IsDestinationLine old line effect new
tries-line line old (Ok step) effect new gives is =
    gave line old (record { effect = step.effect; frames = []; urgent = []; entries = step.entries; node = record old.node { guest = step.guest } }) effect new gives is
tries-line line old (Err refusal) effect new gives is = absurd (refused refusal effect new is)

pub step-line : (step : DestinationStep) (old : PostingDestination) (effect : Effect) (new : PostingDestination) → answer step old ≡ acted effect new → IsDestinationLine old (Line.Made (destination_step step)) effect new
step-line (DestinationStep.Issue cpu command) old effect new is = tries-line _ old (guest.issue old.node.guest old.node.has_run cpu command) effect new refl is
step-line (DestinationStep.Retry cpu) old effect new is = tries-line _ old (guest.retry old.node.guest old.node.has_run cpu) effect new refl is
step-line DestinationStep.Read old effect new is = acts-line _ old (destination.read old.node) effect new refl is
step-line DestinationStep.Act old effect new is = posts-line _ old (destination.act old.node) effect new refl is
step-line DestinationStep.Install old effect new is = acts-line _ old (destination.install old.node) effect new refl is
step-line DestinationStep.Notice old effect new is = acts-line _ old (destination.pause old.node) effect new refl is

-- Frames: why one is taken

no-fault : (o : Option TakeFault) → option_map of_take o ≡ None → o ≡ None
no-fault None is = refl
no-fault (Some fault) is = absurd (none-some (of_take fault) (sym is))

both-none : (one other : Option TakeFault) → ◌≡◌ {A = Option TakeFault} (elim one [ None ↦ other | Some fault ↦ Some fault ]) None → (one ≡ None) × (other ≡ None)
both-none None other is = (refl, is)
both-none (Some fault) other is = absurd (none-some fault (sym is))

two-off : (one other : Bool) (fault last : TakeFault) → first_holding ((one, fault) ∷ (other, last) ∷ []) ≡ None → (one ≡ false) × (other ≡ false)
two-off true other fault last is = absurd (none-some fault (sym is))
two-off false true fault last is = absurd (none-some last (sym is))
two-off false false fault last is = (refl, refl)

first-off : (one : Bool) (fault : TakeFault) (rest : List (Bool × TakeFault)) → first_holding ((one, fault) ∷ rest) ≡ None → one ≡ false
first-off true fault rest is = absurd (none-some fault (sym is))
first-off false fault rest is = refl

in-place : (one other : Bool) → (not one || other) ≡ false → one ≡ true
in-place true other is = refl
in-place false other is = absurd (false≢true (sym is))

record IsAccepted (node : Destination) (epoch : ℕ) (frame : Frame) : Type 0 where
  placed : is_in_place node.phase frame ≡ true
  no_copy : (is_end frame && not (is_empty node.arrivals)) ≡ false
  not_early : is_early node frame ≡ false

accepted : (node : Destination) (epoch : ℕ) (frame : Frame) → taking_fault node epoch frame ≡ None → IsAccepted node epoch frame
accepted node epoch frame none =
    let both = both-none (frame_fault node epoch frame) (wait_fault node frame) (no-fault (take_fault node epoch frame) none) in
    let waits = two-off (is_end frame && not (is_empty node.arrivals)) (is_early node frame) TakeFault.InstallFirst TakeFault.UrgentFirst both.1 in
    record {
      placed = in-place (is_in_place node.phase frame) (is_too_soon node frame)
          (first-off (not (is_in_place node.phase frame) || is_too_soon node frame) TakeFault.OutOfPlace ((not (is_of_epoch node.epoch epoch frame), TakeFault.StaleEpoch) ∷ (is_bad node frame, TakeFault.BadFrame) ∷ []) both.0);
      no_copy = waits.0;
      not_early = waits.1;
    }

abbrev took : Destination → ℕ → Frame → Did Destination
took node epoch frame = record { effect = frame_effect frame; frames = destination_answers node frame; urgent = []; entries = []; node = destination_took node epoch frame }

takes : (node : Destination) (epoch : ℕ) (frame : Frame) → (is_end frame && not (is_empty node.arrivals)) ≡ false → is_early node frame ≡ false → sides.destination_line node (Line.Took (record { epoch = epoch; frame = frame })) ≡ Ok (took node epoch frame)
takes node epoch frame no_copy not_early =
    ap sides.sends
    (not_refused ((is_end frame && not (is_empty node.arrivals), Refusal.InstallFirst) ∷ (is_early node frame, Refusal.UrgentFirst) ∷ []) (sent (frame_effect frame) (destination_answers node frame) (destination_took node epoch frame)) (no_copy, (not_early, tt)))

frame-line : (old : PostingDestination) (sent : Sent) (effect : Effect) (new : PostingDestination) → taking_fault old.node sent.epoch sent.frame ≡ None → effect ≡ frame_effect sent.frame → new ≡ taken old sent.epoch sent.frame → IsDestinationLine old (Line.Took sent) effect new
frame-line old sent effect new none effect_is new_is =
    let may = accepted old.node sent.epoch sent.frame none in
    record {
      did = took old.node sent.epoch sent.frame;
      gives = takes old.node sent.epoch sent.frame may.no_copy may.not_early;
      effect_is = effect_is;
      node_is = ap (λ (p : PostingDestination). p.node) new_is;
      waits = ap (λ (p : PostingDestination). p.wire) new_is;
    }

-- Runs: pages that are taken one by one

abbrev Copies : Type 0
Copies = FinMap nat_cmp (List ℕ)

kept-one : (kept : Copies) (copies : List Copy) (copy : Copy) → kept_with kept (copies ++ copy ∷ []) ≡ insert (kept_with kept copies) copy.page copy.bytes
kept-one kept [] copy = refl
kept-one kept (other ∷ copies) copy = kept-one (insert kept other.page other.bytes) copies copy

plus-zero : (first : ℕ) → first ≡ first + zero
plus-zero first = omega arith

plus-next : (first count : ℕ) → (1 + first) + count ≡ first + suc count
plus-next first count = omega arith

abbrev zeros_at : ℕ → Copy
zeros_at page = record { page = page; bytes = zero_page }

run-one : (first count : ℕ) → run_copies first (replicate (suc count) zero_page) ≡ run_copies first (replicate count zero_page) ++ zeros_at (first + count) ∷ []
run-one first zero = ap (λ page. zeros_at page ∷ []) (plus-zero first)
run-one first (suc count) =
    ap (λ copies. zeros_at first ∷ copies) (run-one (1 + first) count) ∙ ap (λ page. zeros_at first ∷ (run_copies (1 + first) (replicate count zero_page) ++ zeros_at page ∷ [])) (plus-next first count)

run-length : (count : ℕ) → count ≡ length (replicate count zero_page)
run-length zero = refl
run-length (suc count) = ap suc (run-length count)

-- what a destination that has not run keeps after the first pages of it
abbrev pub keeping : PostingDestination → ℕ → ℕ → PostingDestination
keeping old first count = record old { node = record old.node { kept = kept_with old.node.kept (run_copies first (replicate count zero_page)) } }

came : (ran : Bool) (node : Destination) (copy : Copy) → ran ≡ false → copy_came ran node copy ≡ record node { kept = insert node.kept copy.page copy.bytes }
came true node copy off = absurd (false≢true (sym off))
came false node copy off = refl

one-zero : (old : PostingDestination) (epoch page : ℕ) → old.node.has_run ≡ false → taken old epoch (Zero page) ≡ record old { node = record old.node { kept = insert old.node.kept page zero_page } }
one-zero old epoch page off = ap (λ (node : Destination). record { node = node; wire = old.wire }) (came old.node.has_run old.node (zeros_at page) off)

pub zeros-keep : (old : PostingDestination) (epoch first count : ℕ) → old.node.has_run ≡ false → zeros_taken old epoch first count ≡ keeping old first count
zeros-keep old epoch first zero off = refl
zeros-keep old epoch first (suc count) off =
    let before = keeping old first count in
    ap (λ (p : PostingDestination). taken p epoch (Zero (first + count))) (zeros-keep old epoch first count off) ∙ one-zero before epoch (first + count) off
    ∙ ap (λ (kept : Copies). record old { node = record old.node { kept = kept } })
    (sym (kept-one old.node.kept (run_copies first (replicate count zero_page)) (zeros_at (first + count))) ∙ ap (kept_with old.node.kept) (sym (run-one first count)))

run-waits : (phase : DestPhase) (first : ℕ) → is_in_place phase (Run first []) ≡ true → awaits_package phase ≡ true
run-waits DestPhase.Advised first placed = refl
run-waits DestPhase.Idle first placed = absurd (false≢true placed)
run-waits DestPhase.Discarding first placed = absurd (false≢true placed)
run-waits DestPhase.Running first placed = absurd (false≢true placed)
run-waits DestPhase.Paused first placed = absurd (false≢true placed)
run-waits DestPhase.Ended first placed = absurd (false≢true placed)

run-line : (old : PostingDestination) (epoch first count : ℕ) (effect : Effect) (new : PostingDestination) → RanByPhase old.node → taking_fault old.node epoch (Run first []) ≡ None → effect ≡ Effect.TookRun (PAGE_SIZE * first) count → new ≡ zeros_taken old epoch first count →
    IsDestinationLine old (Line.Took (frame_said (ZeroRun epoch first count))) effect new
run-line old epoch first count effect new order none effect_is new_is =
    let may = accepted old.node epoch (Run first []) none in
    let off = order.waiting (run-waits old.node.phase first may.placed) in
    let frame = Run first (replicate count zero_page) in
    let kept = new_is ∙ zeros-keep old epoch first count off in
    record {
      did = took old.node epoch frame;
      gives = takes old.node epoch frame refl refl;
      effect_is = effect_is ∙ ap (λ (pages : ℕ). Effect.TookRun (PAGE_SIZE * first) pages) (run-length count);
      node_is = ap (λ (p : PostingDestination). p.node) kept;
      waits = ap (λ (p : PostingDestination). p.wire) kept;
    }

handed-line : (old : PostingDestination) (handed : Handed) (effect : Effect) (new : PostingDestination) → RanByPhase old.node → fault_of old.node handed ≡ None → effect ≡ effect_said handed → new ≡ after old handed → IsDestinationLine old (Line.Took (frame_said handed)) effect new
handed-line old (AFrame sent) effect new order none effect_is new_is = frame-line old sent effect new none effect_is new_is
handed-line old (ZeroRun epoch first count) effect new order none effect_is new_is = run-line old epoch first count effect new order none effect_is new_is

pub take-line : (bytes : List ℕ) (old : PostingDestination) (effect : Effect) (new : PostingDestination) → IsTaken bytes old effect new → IsLoggedTake bytes old effect new
take-line bytes old effect new is = record { handed = is.handed; says = is.says; line = λ order. handed-line old is.handed effect new order is.accepted is.effect_is is.new_is }

-- The urgent wire

running-of : (one other : Bool) → not (one && other) ≡ false → one ≡ true
running-of true other is = refl
running-of false other is = absurd (false≢true (sym is))

runs-urgent : (node : Destination) (epoch : ℕ) (frame : Frame) → urgent_taking_fault node epoch frame ≡ None → is_running node.phase ≡ true
runs-urgent node epoch frame none =
    let fault = no-fault (urgent_fault node epoch frame) none in
    running-of (is_running node.phase) (is_copy frame) (first-off (not (is_running node.phase && is_copy frame)) TakeFault.OutOfPlace ((not (epoch == node.epoch), TakeFault.StaleEpoch) ∷ []) fault)

urgent-taken : (old : PostingDestination) (sent : Sent) (effect : Effect) (new : PostingDestination) → RanByPhase old.node → urgent_taking_fault old.node sent.epoch sent.frame ≡ None → effect ≡ frame_effect sent.frame → new ≡ urgently_taken old sent.frame →
    IsDestinationLine old (Line.TookUrgent sent) effect new
urgent-taken old sent effect new order none effect_is new_is =
    record {
      did = record { effect = frame_effect sent.frame; frames = []; urgent = []; entries = []; node = urgent_took old.node sent.frame };
      gives = in-phase old.node.has_run (sides.acts (destination.take_urgent old.node sent.frame)) (order.running (runs-urgent old.node sent.epoch sent.frame none));
      effect_is = effect_is;
      node_is = ap (λ (p : PostingDestination). p.node) new_is;
      waits = ap (λ (p : PostingDestination). p.wire) new_is;
    }

pub urgent-line : (bytes : List ℕ) (old : PostingDestination) (effect : Effect) (new : PostingDestination) → IsTakenUrgently bytes old effect new → IsLoggedUrgently bytes old effect new
urgent-line bytes old effect new is = record { sent = is.sent; says = is.says; line = λ order. urgent-taken old is.sent effect new order is.accepted is.effect_is is.new_is }

-- Order

-- phase and run stay as they are
same-order : (node new : Destination) → new.phase ≡ node.phase → new.has_run ≡ node.has_run → RanByPhase node → RanByPhase new
same-order node new phase run order = record { waiting = λ waits. run ∙ order.waiting (sym (ap awaits_package phase) ∙ waits); running = λ runs. run ∙ order.running (sym (ap is_running phase) ∙ runs) }

came-order : (ran : Bool) (node : Destination) (copy : Copy) → RanByPhase node → RanByPhase (copy_came ran node copy)
came-order true node copy order = record { waiting = order.waiting; running = order.running }
came-order false node copy order = record { waiting = order.waiting; running = order.running }

resumed-order : (ran ended : Bool) (node : Destination) → node.has_run ≡ ran → RanByPhase (resumed_by (received_by ran ended) node)
resumed-order false ended node is = record { waiting = λ waits. is; running = λ runs. absurd (false≢true runs) }
resumed-order true false node is = record { waiting = λ waits. absurd (false≢true waits); running = λ runs. is }
resumed-order true true node is = record { waiting = λ waits. absurd (false≢true waits); running = λ runs. absurd (false≢true runs) }

advise-waits : (phase : DestPhase) → is_in_place phase Advise ≡ true → awaits_package phase ≡ true
advise-waits DestPhase.Idle placed = refl
advise-waits DestPhase.Advised placed = absurd (false≢true placed)
advise-waits DestPhase.Discarding placed = absurd (false≢true placed)
advise-waits DestPhase.Running placed = absurd (false≢true placed)
advise-waits DestPhase.Paused placed = absurd (false≢true placed)
advise-waits DestPhase.Ended placed = absurd (false≢true placed)

abbrev is_discard : Frame → Bool
is_discard (Discard pages) = true
is_discard frame = false

in-advised : (phase : DestPhase) (frame : Frame) → is_in_place phase frame ≡ true → is_discard frame ≡ true → awaits_package phase ≡ true
in-advised DestPhase.Idle frame placed discard = refl
in-advised DestPhase.Advised frame placed discard = refl
in-advised DestPhase.Discarding frame placed discard = refl
in-advised DestPhase.Running (Discard pages) placed discard = absurd (false≢true placed)
in-advised DestPhase.Running _ placed discard = absurd (false≢true discard)
in-advised DestPhase.Paused (Discard pages) placed discard = absurd (false≢true placed)
in-advised DestPhase.Paused _ placed discard = absurd (false≢true discard)
in-advised DestPhase.Ended (Discard pages) placed discard = absurd (false≢true placed)
in-advised DestPhase.Ended _ placed discard = absurd (false≢true discard)

took-order : (node : Destination) (epoch : ℕ) (frame : Frame) → is_in_place node.phase frame ≡ true → RanByPhase node → RanByPhase (destination_took node epoch frame)
took-order node epoch Advise placed order = record { waiting = λ waits. order.waiting (advise-waits node.phase placed); running = λ runs. absurd (false≢true runs) }
took-order node epoch (Page page bytes) placed order = came-order node.has_run node (record { page = page; bytes = bytes }) order
took-order node epoch (Zero page) placed order = came-order node.has_run node (record { page = page; bytes = zero_page }) order
took-order node epoch (Run first pages) placed order = record { waiting = order.waiting; running = order.running }
took-order node epoch (Discard pages) placed order = record { waiting = λ waits. order.waiting (in-advised node.phase (Discard pages) placed refl); running = λ runs. absurd (false≢true runs) }
took-order node epoch (Package areas owed commands) placed order = record { waiting = λ waits. absurd (false≢true waits); running = λ runs. refl }
took-order node epoch (End urgent) placed order = record { waiting = λ waits. absurd (false≢true waits); running = λ runs. absurd (false≢true runs) }
took-order node epoch Resume placed order = resumed-order node.has_run node.ended (record node { epoch = epoch; urgent_taken = 0 }) refl
took-order node epoch (Request page) placed order = order
took-order node epoch (Recv state owed) placed order = order
took-order node epoch Done placed order = order

zeros-order : (old : PostingDestination) (epoch first count : ℕ) → RanByPhase old.node → RanByPhase (zeros_taken old epoch first count).node
zeros-order old epoch first zero order = order
zeros-order old epoch first (suc count) order =
    let before = zeros_taken old epoch first count in
    came-order before.node.has_run before.node (zeros_at (first + count)) (zeros-order old epoch first count order)

handed-order : (old : PostingDestination) (handed : Handed) → fault_of old.node handed ≡ None → RanByPhase old.node → RanByPhase (after old handed).node
handed-order old (AFrame sent) none order = took-order old.node sent.epoch sent.frame (accepted old.node sent.epoch sent.frame none).placed order
handed-order old (ZeroRun epoch first count) none order = zeros-order old epoch first count order

pub take-order : (bytes : List ℕ) (old : PostingDestination) (effect : Effect) (new : PostingDestination) → IsTaken bytes old effect new → RanByPhase old.node → RanByPhase new.node
take-order bytes old effect new is order = subst (λ (p : PostingDestination). RanByPhase p.node) (sym is.new_is) (handed-order old is.handed is.accepted order)

came_urgent-order : (node : Destination) (frame : Frame) → RanByPhase node → RanByPhase (urgent_took node frame)
came_urgent-order node (Page page bytes) order = record { waiting = order.waiting; running = order.running }
came_urgent-order node (Zero page) order = record { waiting = order.waiting; running = order.running }
came_urgent-order node _ order = order

pub urgent-order : (bytes : List ℕ) (old : PostingDestination) (effect : Effect) (new : PostingDestination) → IsTakenUrgently bytes old effect new → RanByPhase old.node → RanByPhase new.node
urgent-order bytes old effect new is order = subst (λ (p : PostingDestination). RanByPhase p.node) (sym is.new_is) (came_urgent-order old.node is.sent.frame order)

-- what holds of the node after each accepted step
acts-order : (old : PostingDestination) (step : Result (Acted Destination) Refusal) (effect : Effect) (new : PostingDestination) → Holds (λ (s : Acted Destination). RanByPhase s.node) step → acts old step ≡ acted effect new → RanByPhase new.node
acts-order old (Ok step) effect new order is = subst (λ (p : PostingDestination). RanByPhase p.node) (same-node step.effect effect (record old { node = step.node }) new is) order
acts-order old (Err refusal) effect new order is = absurd (refused refusal effect new is)

posts-order : (old : PostingDestination) (step : Result (Sends Destination) Refusal) (effect : Effect) (new : PostingDestination) → Holds (λ (s : Sends Destination). RanByPhase s.node) step → posts old step ≡ acted effect new → RanByPhase new.node
posts-order old (Ok step) effect new order is =
    subst (λ (p : PostingDestination). RanByPhase p.node) (same-node step.effect effect (record { node = step.node; wire = wire_with old.wire step.node.epoch step.frames }) new is) order
posts-order old (Err refusal) effect new order is = absurd (refused refusal effect new is)

tries-order : (old : PostingDestination) (step : Result Tried Refusal) (effect : Effect) (new : PostingDestination) → RanByPhase old.node → tries old step ≡ acted effect new → RanByPhase new.node
tries-order old (Ok step) effect new order is =
    subst (λ (p : PostingDestination). RanByPhase p.node) (same-node step.effect effect (record old { node = record old.node { guest = step.guest } }) new is) (record { waiting = order.waiting; running = order.running })
tries-order old (Err refusal) effect new order is = absurd (refused refusal effect new is)

acted-order : (act : Act) (node : Destination) (page : ℕ) → RanByPhase node → RanByPhase (destination_acted_by act node page)
acted-order Unprotected node page order = record { waiting = order.waiting; running = order.running }
acted-order Zeroed node page order = record { waiting = order.waiting; running = order.running }
acted-order Woke node page order = record { waiting = order.waiting; running = order.running }
acted-order Forgot node page order = record { waiting = order.waiting; running = order.running }
acted-order (Requested origin) node page order = record { waiting = order.waiting; running = order.running }

installed-order : (place : Option ℕ) (node : Destination) (copy : Copy) (rest : List Copy) → RanByPhase node → RanByPhase (install_by place node copy rest)
installed-order (Some page) node copy rest order = record { waiting = order.waiting; running = order.running }
installed-order None node copy rest order = record { waiting = order.waiting; running = order.running }

pub step-order : (step : DestinationStep) (old : PostingDestination) (effect : Effect) (new : PostingDestination) → answer step old ≡ acted effect new → RanByPhase old.node → RanByPhase new.node
step-order (DestinationStep.Issue cpu command) old effect new is order = tries-order old (guest.issue old.node.guest old.node.has_run cpu command) effect new order is
step-order (DestinationStep.Retry cpu) old effect new is order = tries-order old (guest.retry old.node.guest old.node.has_run cpu) effect new order is
step-order DestinationStep.Read old effect new is order =
    let node = old.node in
    acts-order old (destination.read node) effect new
    (holds-in_phase _ node.has_run _ (λ ran. holds-and_then _ (ok_or (next_message node.guest.space.object) Refusal.NothingThere) _ (each _ (ok_or (next_message node.guest.space.object) Refusal.NothingThere) (λ noted. record { waiting = order.waiting; running = order.running })))) is
step-order DestinationStep.Act old effect new is order =
    let node = old.node in
    posts-order old (destination.act node) effect new
    (holds-in_phase _ node.has_run _ (λ ran.
    holds-and_then _ (guest.when_quiet node.guest (first_of node.held)) _ (each _ (guest.when_quiet node.guest (first_of node.held)) (λ fault. acted-order (destination_act node fault) node fault.page order)))) is
step-order DestinationStep.Install old effect new is order =
    let node = old.node in
    acts-order old (destination.install node) effect new
    (holds-in_phase _ node.has_run _ (λ ran.
    holds-and_then _ (guest.when_quiet node.guest (first_of node.arrivals)) _ (each _ (guest.when_quiet node.guest (first_of node.arrivals)) (λ copy. installed-order (home node.owed copy.page) node copy (rest_of node.arrivals) order)))) is
step-order DestinationStep.Notice old effect new is order =
    acts-order old (destination.pause old.node) effect new
    (holds-in_phase _ (not (is_dest_paused old.node.phase)) _ (λ may. record { waiting = λ waits. absurd (false≢true waits); running = λ runs. absurd (false≢true runs) })) is

pub first-order : (cpus : ℕ) → RanByPhase (first_destination cpus)
first-order cpus = record { waiting = λ waits. refl; running = λ runs. absurd (false≢true runs) }

-- Calls in turn

made-node : (old : Destination) (now : PostingDestination) (line : Line) (effect : Effect) (next : PostingDestination) → now.node ≡ old → IsDestinationLine now line effect next → next.node ≡ sides.node_by old (sides.destination_line old line)
made-node old now line effect next same is = is.node_is ∙ sym (ap (λ did. sides.node_by now.node did) is.gives) ∙ ap (λ node. sides.node_by node (sides.destination_line node line)) same

pub log-node : (old new : PostingDestination) (lines : List Line) → AreDestinationLines old lines new → new.node ≡ sides.destination_after old.node lines
log-node old new [] is = is
log-node old new (line ∷ lines) (now, effect, next, same, made, rest) =
    log-node next new lines rest ∙ ap (λ node. sides.destination_after node lines) (made-node old.node now line effect next same made)

-- the same after a run of which memory ran out
pub left-order : (bytes : List ℕ) (old new : PostingDestination) → IsLeft bytes old new → RanByPhase old.node → RanByPhase new.node
left-order bytes old new (inl same) order = subst (λ (p : PostingDestination). RanByPhase p.node) (sym same) order
left-order bytes old new (inr (epoch, first, count, kept, says, few, is)) order = subst (λ (p : PostingDestination). RanByPhase p.node) (sym is) (zeros-order old epoch first kept order)
