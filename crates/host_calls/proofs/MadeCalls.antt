-- The calls of each step lead from its guest to the guest that it leaves.
use Rattle.std.proofs.lemmas.Bool.Decides.{nat_tests}
use Rattle.std.proofs.Common.{◌≡◌, ◌⊎◌, ℕ, zero, suc, ◌+◌, ◌*◌, ◌/◌, ◌<◌, Bool, true, false, Option, Some, None, List, [], ◌∷◌, length, ltb, refl, sym, ap, ◌∙◌, subst, inl, inr, if◌then◌else◌, arith, IsOk}
use Rattle.std.specs.Prelude.{Result, Ok}
use Rattle.std.specs.FinSet.{contains, len}
use Rattle.mig_base.specs.declared.TheConstants.{HIGH_PAGE}
use Rattle.mig_base.specs.declared.Area.{Area}
use Rattle.mig_base.specs.declared.effect.Effect.{Effect}
use Rattle.mig_base.specs.declared.phase.Received.{Received}
use Rattle.mig_base.specs.declared.refusal.Refusal.{Refusal}
use Rattle.mig_base.specs.declared.schedule.Side.{Side}
use Rattle.mig_base.specs.declared.schedule.Step.{Step}
use Rattle.mig_base.specs.declared.schedule.Ticket.{Ticket}
use Rattle.mig_base.specs.Bytes.{zero_page}
use Rattle.foundation.specs.Ranges.{in_range}
use Rattle.foundation.proofs.RangeLemmas.{in_range-true, least_below_tells}
use Rattle.mig_base.proofs.SetLemmas.{member_run}
use Rattle.mig_model.specs.Destination.{Destination, copy_came, destination_act, destination_act_by, destination_acted_by, destination_took, install_by, received_of, resumed_by}
use Rattle.mig_base.specs.declared.act.Act.{Act}
use Rattle.mig_model.specs.Guest.{Guest, is_present}
use Rattle.mig_base.specs.declared.act.Act.TheVariants.{Unprotected, Zeroed, Woke, Forgot, Requested}
use Rattle.mig_model.specs.Handlers.{MayRegister, AreRegistered, IsCopy, registered_in_turn}
use Rattle.mig_model.specs.Invariant.{IsSoundWorld}
use Rattle.mig_model.specs.Ioctls.{event_features, handshaken, registered}
use Rattle.mig_model.specs.Migration.{World, guest_by, next, outcome}
use Rattle.mig_base.specs.Acts.{act_effect}
use Rattle.mig_model.specs.Effects.{frame_effect, install_effect, page_effect}
use Rattle.mig_model.proofs.steps.StepWorlds.{after_send}
use Rattle.mig_model.specs.Owed.{home}
use Rattle.mig_model.specs.Source.{bytes_of, is_precopy, source_act, source_act_by, space_of}
use Rattle.mig_model.specs.Space.{fresh_space}
use Rattle.mig_model.specs.Whereabouts.{is_unread}
use Rattle.mig_model.specs.Wire.{Copy, Frame, is_zeros}
use Rattle.mig_model.proofs.invariant.Bounded.{IsBounded, bounded-next, has_memory}
use Rattle.mig_model.proofs.memory.Facts.{no_event}
use Rattle.mig_model.proofs.invariant.FaultPages.{HasFaultsInside}
use Rattle.mig_model.proofs.memory.HandlerCalls.{copy_installed, destination_forgets, destination_wakes, destination_zeroes, page_protected, round_registers, run_protected, run_registers, source_forgets, source_unprotects, source_wakes, source_zeroes, start_registers, zero_protected}
use Rattle.mig_model.proofs.memory.Registering.{pages_again}
use Rattle.mig_model.proofs.transcript.RightCommands.{AllRight, right_source}
use Rattle.mig_model.proofs.invariant.SourceRounds.{precopy_unswitched}
use Rattle.mig_model.proofs.steps.StepCases.{made-effect, made-next}
use Rattle.mig_base.proofs.SetSizes.{only_where}
use Rattle.host_calls.specs.declared.call.Call.{Call}
use Rattle.host_calls.specs.Calls.{areas_at, calls_of, guest_at, installed_calls, is_of_host, node_of, pages_from, pushed_calls, read_calls, registers, resolved_calls, run_calls, sent_calls, taken_calls}
use Rattle.host_calls.specs.Made.{AreMade, first_bytes}
use Rattle.host_calls.proofs.AreaRuns.{areas_covered, runs_in}
use Rattle.host_calls.proofs.ReadSteps.{read_made}

accepted : (result : Result Effect Refusal) (effect : Effect) → result ≡ Ok effect → IsOk result
accepted result effect is = grind (arith, nat_tests)

-- Start and Round

-- calls that register areas in turn
areas_made : (bytes : List ℕ) (areas : List Area) (mode : ℕ) (guest : Guest) → MayRegister guest.space (runs_in areas) mode → AreMade bytes (registers areas mode) guest (record guest { space = registered_in_turn guest.space (runs_in areas) mode })
areas_made bytes [] mode guest are = refl
areas_made bytes (area ∷ areas) mode guest are =
    let mid : Guest = record guest { space = registered guest.space (4096 * area.first) (4096 * area.count) mode } in
    (mid, record { answer = are.0; leaves = refl; wakes = refl }, areas_made bytes areas mode mid are.1)

all_made : (bytes : List ℕ) (areas : List Area) (mode : ℕ) (old new : Guest) → AreRegistered old.space new.space (runs_in areas) mode → new.cpus ≡ old.cpus → AreMade bytes (registers areas mode) old new
all_made bytes areas mode old new are same =
    subst (AreMade bytes (registers areas mode) old) (λ i. record { space = sym are.leaves i; cpus = sym same i }) (areas_made bytes areas mode old are.accepted)

-- the source keeps its areas and its processors
abbrev IsKept : World → World → Type 0
IsKept old new = ((space_of new.source).host.areas ≡ (space_of old.source).host.areas) × (new.source.guest.cpus ≡ old.source.guest.cpus)

pub start_made : (cpus : ℕ) (world : World) (effect : Effect) (bytes : List ℕ) → IsBounded cpus world → outcome world Step.Start ≡ Ok effect
    → AreMade bytes (registers (areas_at Side.Source (next world Step.Start)) 3) world.source.guest (next world Step.Start).source.guest
start_made cpus world effect bytes all is =
    let same = made-next (IsKept world) world Step.Start (refl, refl) (λ idle unused. (refl, refl)) in
    let are = areas_covered (space_of world.source).host.areas (space_of (next world Step.Start).source).host.areas same.0 all.mapped in
    all_made bytes _ 3 world.source.guest (next world Step.Start).source.guest (start_registers cpus world _ all (accepted _ effect is) are) same.1

pub round_made : (cpus : ℕ) (world : World) (effect : Effect) (bytes : List ℕ) → IsBounded cpus world → outcome world Step.Round ≡ Ok effect
    → AreMade bytes (registers (areas_at Side.Source (next world Step.Round)) 3) world.source.guest (next world Step.Round).source.guest
round_made cpus world effect bytes all is =
    let same = made-next (IsKept world) world Step.Round (refl, refl) (λ precopy quiet. (refl, refl)) in
    let are = areas_covered (space_of world.source).host.areas (space_of (next world Step.Round).source).host.areas same.0 all.mapped in
    all_made bytes _ 3 world.source.guest (next world Step.Round).source.guest (round_registers cpus world _ all (accepted _ effect is) are) same.1

-- Pages that are read

abbrev pub HasPage : Guest → ℕ → Type 0
HasPage guest addr = is_present guest.space (addr / 4096) ≡ true

-- the effect of a page that is sent, which the guest has
abbrev IsOnePage : Effect → Guest → Type 0
IsOnePage effect guest = (addr : ℕ) × HasPage guest addr × ((effect ≡ Effect.SentPage addr) ⊎ (effect ≡ Effect.SentZero addr))

either_page : (zeros : Bool) (addr : ℕ) → ((if zeros then Effect.SentZero addr else Effect.SentPage addr) ≡ Effect.SentPage addr) ⊎ ((if zeros then Effect.SentZero addr else Effect.SentPage addr) ≡ Effect.SentZero addr)
either_page true addr = inr refl
either_page false addr = inl refl

one_page : (page : ℕ) (bytes : List ℕ) (guest : Guest) → is_present guest.space page ≡ true → IsOnePage (page_effect page bytes) guest
one_page page bytes guest present = (4096 * page, ap (is_present guest.space) (pages_again page) ∙ present, either_page (is_zeros bytes) (4096 * page))

-- a page of a round is present
todo_present : (world : World) (page : ℕ) → IsSoundWorld world → is_precopy world.source.phase ≡ true → ltb 0 (length (space_of world.source).object.events) ≡ false → contains world.source.log.todo page ≡ true → is_present (space_of world.source) page ≡ true
todo_present world page kept precopy quiet planned =
    let unswitched = precopy_unswitched world.source.phase world.source.switched precopy kept.phases.source_phase in
    (kept.precopy.todo_sendable unswitched page planned (ap (λ events. is_unread events page) (no_event (space_of world.source).object.events quiet))).0

sent_one : (cpus : ℕ) (world : World) (effect : Effect) → IsBounded cpus world → outcome world Step.Send ≡ Ok effect → IsOnePage effect (next world Step.Send).source.guest
sent_one cpus world effect all is =
    made-effect (λ e new. IsOnePage e new.source.guest) world Step.Send effect
    (λ page found precopy up quiet. one_page page (bytes_of world.source page) (after_send world page).source.guest (todo_present world page all.ready.kept precopy quiet (least_below_tells (contains world.source.log.todo) HIGH_PAGE page found))) is

pub send_made : (cpus : ℕ) (world : World) (effect : Effect) (bytes : List ℕ) → IsBounded cpus world → outcome world Step.Send ≡ Ok effect → AreMade bytes (sent_calls effect) world.source.guest (next world Step.Send).source.guest
send_made cpus world effect bytes all is =
    let new = (next world Step.Send).source.guest in
    let sent = sent_one cpus world effect all is in
    elim sent.2 [
      | inl page ↦ subst (λ e. AreMade bytes (sent_calls e) world.source.guest new) (sym page)
          (new, page_protected cpus world sent.0 all (is ∙ ap (λ e. Ok e) page), (new, record { present = sent.1; leaves = refl }, refl))
      | inr zeros ↦ subst (λ e. AreMade bytes (sent_calls e) world.source.guest new) (sym zeros)
          (new, zero_protected cpus world sent.0 all (is ∙ ap (λ e. Ok e) zeros), (new, record { present = sent.1; leaves = refl }, refl))
    ]

-- Runs of pages

-- neighbouring pages that a guest has
abbrev pub HasPages : Guest → ℕ → ℕ → Type 0
HasPages guest addr count = (i : ℕ) → i < count → HasPage guest (addr + 4096 * i)

pages_read : (bytes : List ℕ) (guest : Guest) (addr count : ℕ) → HasPages guest addr count → AreMade bytes (pages_from addr count) guest guest
pages_read bytes guest addr zero has = refl
pages_read bytes guest addr (suc count) has = (
  guest,
  record { present = subst (HasPage guest) (omega arith) (has 0 (omega arith)); leaves = refl },
  pages_read bytes guest (addr + 4096) count (λ i below. subst (HasPage guest) (omega arith) (has (i + 1) (omega (arith, below)))),
)

abbrev pub IsPageRun : Effect → Guest → Type 0
IsPageRun effect guest = (addr : ℕ) × (pages : ℕ) × (effect ≡ Effect.SentRun addr pages) × HasPages guest addr pages

pub sent_run : (cpus : ℕ) (world : World) (count : ℕ) (effect : Effect) → IsBounded cpus world → outcome world (Step.SendRun count) ≡ Ok effect → IsPageRun effect (next world (Step.SendRun count)).source.guest
sent_run cpus world count effect all is =
    made-effect (λ e new. IsPageRun e new.source.guest) world (Step.SendRun count) effect
    (λ first number found many precopy up quiet. (
      4096 * first,
      number,
      refl,
      λ i below.
          let page : (4096 * first + 4096 * i) / 4096 ≡ first + i = omega arith in
          let inside : in_range first number (first + i) ≡ true = in_range-true first number (first + i) (omega arith) (omega (arith, below)) in
          let planned = member_run world.source.log.todo first _ (first + i) (subst (λ n. in_range first n (first + i) ≡ true) many inside) in
          ap (is_present (space_of world.source)) page ∙ todo_present world (first + i) all.ready.kept precopy quiet planned,
    )) is

pub run_made : (cpus : ℕ) (world : World) (count : ℕ) (effect : Effect) (bytes : List ℕ) → IsBounded cpus world → outcome world (Step.SendRun count) ≡ Ok effect → AreMade bytes (run_calls effect) world.source.guest (next world (Step.SendRun count)).source.guest
run_made cpus world count effect bytes all is =
    let new = (next world (Step.SendRun count)).source.guest in
    let sent = sent_run cpus world count effect all is in
    subst (λ e. AreMade bytes (run_calls e) world.source.guest new) (sym sent.2)
    (new, run_protected cpus world count sent.0 sent.1 all (is ∙ ap (λ e. Ok e) sent.2), pages_read bytes new sent.0 sent.1 sent.3)

-- Pages that are pushed

abbrev IsPushed : World → Effect → World → Type 0
IsPushed old effect new = (new.source.guest ≡ old.source.guest) × IsOnePage effect old.source.guest

pushed_made : (world new : World) (effect : Effect) (bytes : List ℕ) → IsPushed world effect new → AreMade bytes (pushed_calls effect) world.source.guest new.source.guest
pushed_made world new effect bytes (same, pushed) =
    let read : AreMade bytes (Call.Page pushed.0 ∷ []) world.source.guest new.source.guest = (world.source.guest, record { present = pushed.1; leaves = refl }, same) in
    elim pushed.2 [
      | inl page ↦ subst (λ e. AreMade bytes (pushed_calls e) world.source.guest new.source.guest) (sym page) read
      | inr zeros ↦ subst (λ e. AreMade bytes (pushed_calls e) world.source.guest new.source.guest) (sym zeros) read
    ]

pub push_made : (world : World) (ticket : Ticket) (effect : Effect) (bytes : List ℕ) → outcome world (Step.Push ticket) ≡ Ok effect → AreMade bytes (pushed_calls effect) world.source.guest (next world (Step.Push ticket)).source.guest
push_made world ticket effect bytes is =
    pushed_made world (next world (Step.Push ticket)) effect bytes
    (made-effect (IsPushed world) world (Step.Push ticket) effect (λ stopped up epoch present remains. (refl, one_page ticket.page (bytes_of world.source ticket.page) world.source.guest present)) is)

pub push_urgent_made : (world : World) (ticket : Ticket) (effect : Effect) (bytes : List ℕ) → outcome world (Step.PushUrgent ticket) ≡ Ok effect → AreMade bytes (pushed_calls effect) world.source.guest (next world (Step.PushUrgent ticket)).source.guest
push_urgent_made world ticket effect bytes is =
    pushed_made world (next world (Step.PushUrgent ticket)) effect bytes
    (made-effect (IsPushed world) world (Step.PushUrgent ticket) effect (λ stopped up epoch present remains. (refl, one_page ticket.page (bytes_of world.source ticket.page) world.source.guest present)) is)

-- Messages that are read

right_destination : (ran : Bool) (from to : Guest) → ran ≡ true → AllRight (guest_by ran from to).cpus → AllRight to.cpus
right_destination ran from to runs right = grind (arith, nat_tests)

-- the object of a source that runs its processors is enabled
source_enabled : (cpus : ℕ) (world : World) → IsBounded cpus world → world.source.switched ≡ false → (space_of world.source).object.enabled ≡ true
source_enabled cpus world all unswitched = grind (arith, nat_tests)

pub source_read_made : (cpus : ℕ) (world : World) (effect : Effect) (bytes : List ℕ) → IsBounded cpus world → outcome world Step.SourceRead ≡ Ok effect → AreMade bytes (read_calls effect) world.source.guest (next world Step.SourceRead).source.guest
source_read_made cpus world effect bytes all is =
    made-effect (λ e new. AreMade bytes (read_calls e) world.source.guest new.source.guest) world Step.SourceRead effect
    (λ noted some started unswitched.
    let ran = only_where world.destination.has_run world.source.switched all.ready.kept.phases.ran_after_switch unswitched in
    read_made bytes world.source.guest noted noted.cpu noted.message (source_enabled cpus world all unswitched) some (right_source world.destination.has_run world.source.guest world.destination.guest ran all.ready.right)) is

pub destination_read_made : (cpus : ℕ) (world : World) (effect : Effect) (bytes : List ℕ) → IsBounded cpus world → outcome world Step.DestRead ≡ Ok effect → AreMade bytes (read_calls effect) world.destination.guest (next world Step.DestRead).destination.guest
destination_read_made cpus world effect bytes all is =
    made-effect (λ e new. AreMade bytes (read_calls e) world.destination.guest new.destination.guest) world Step.DestRead effect
    (λ noted some ran.
    read_made bytes world.destination.guest noted noted.cpu noted.message (all.opened.destination ran).enabled some (right_destination world.destination.has_run world.source.guest world.destination.guest ran all.ready.right)) is

-- Faults that are resolved

abbrev NotRequested : Act → Type 0
NotRequested act = (origin : ℕ) → act ≡ Requested origin → ⊥

source_asks_nobody : (gone here protected : Bool) → NotRequested (source_act_by gone here protected)
source_asks_nobody gone here protected origin is = grind (arith, nat_tests)

-- how the source has resolved a fault
abbrev IsSourceAct : Effect → World → Type 0
IsSourceAct effect new = (act : Act) × (addr : ℕ) × (effect ≡ act_effect act addr) × NotRequested act

resolved_there : (cpus : ℕ) (world : World) (act : Act) (addr : ℕ) (bytes : List ℕ) → IsBounded cpus world → HasFaultsInside world → NotRequested act → outcome world Step.SourceAct ≡ Ok (act_effect act addr)
    → AreMade bytes (resolved_calls (act_effect act addr)) world.source.guest (next world Step.SourceAct).source.guest
resolved_there cpus world Unprotected addr bytes all inside none is = ((next world Step.SourceAct).source.guest, source_unprotects cpus world addr all is, refl)
resolved_there cpus world Zeroed addr bytes all inside none is = ((next world Step.SourceAct).source.guest, source_zeroes cpus world addr all is, refl)
resolved_there cpus world Woke addr bytes all inside none is = ((next world Step.SourceAct).source.guest, source_wakes cpus world addr all inside is, refl)
resolved_there cpus world Forgot addr bytes all inside none is = ((next world Step.SourceAct).source.guest, source_forgets cpus world addr all inside is, refl)
resolved_there cpus world (Requested origin) addr bytes all inside none is = absurd (none origin refl)

pub source_act_made : (cpus : ℕ) (world : World) (effect : Effect) (bytes : List ℕ) → IsBounded cpus world → HasFaultsInside world → outcome world Step.SourceAct ≡ Ok effect
    → AreMade bytes (resolved_calls effect) world.source.guest (next world Step.SourceAct).source.guest
source_act_made cpus world effect bytes all inside is =
    let told : IsSourceAct effect (next world Step.SourceAct) =
    made-effect IsSourceAct world Step.SourceAct effect
    (λ fault rest held started unswitched quiet. (source_act world.source fault, 4096 * fault.page, refl, source_asks_nobody _ _ _)) is in
    subst (λ e. AreMade bytes (resolved_calls e) world.source.guest (next world Step.SourceAct).source.guest) (sym told.2)
    (resolved_there cpus world told.0 told.1 bytes all inside told.3 (is ∙ ap (λ e. Ok e) told.2))

-- how the destination has resolved a fault: a page that it requests leaves its guest as it is
pub record IsDestinationAct (old : World) (effect : Effect) (new : World) : Type 0 where
  pub act : Act
  pub addr : ℕ
  pub is : effect ≡ act_effect act addr
  pub requested : (origin : ℕ) → act ≡ Requested origin → new.destination.guest ≡ old.destination.guest
  pub protected : act ≡ Unprotected → ⊥

asks_alone : (act : Act) (node : Destination) (page origin : ℕ) → act ≡ Requested origin → (destination_acted_by act node page).guest ≡ node.guest
asks_alone act node page origin is = ap (λ a. (destination_acted_by a node page).guest) is

nothing_protected : (gone here : Bool) (owed : Option ℕ) → destination_act_by gone here owed ≡ Unprotected → ⊥
nothing_protected gone here owed is = grind (arith, nat_tests)

resolved_here : (cpus : ℕ) (world : World) (act : Act) (addr : ℕ) (bytes : List ℕ) → IsBounded cpus world → HasFaultsInside world → ((origin : ℕ) → act ≡ Requested origin → (next world Step.DestAct).destination.guest ≡ world.destination.guest)
    → (act ≡ Unprotected → ⊥) → outcome world Step.DestAct ≡ Ok (act_effect act addr) → AreMade bytes (resolved_calls (act_effect act addr)) world.destination.guest (next world Step.DestAct).destination.guest
resolved_here cpus world Unprotected addr bytes all inside requested none is = absurd (none refl)
resolved_here cpus world Zeroed addr bytes all inside requested none is = ((next world Step.DestAct).destination.guest, destination_zeroes cpus world addr all is, refl)
resolved_here cpus world Woke addr bytes all inside requested none is = ((next world Step.DestAct).destination.guest, destination_wakes cpus world addr all inside is, refl)
resolved_here cpus world Forgot addr bytes all inside requested none is = ((next world Step.DestAct).destination.guest, destination_forgets cpus world addr all inside is, refl)
resolved_here cpus world (Requested origin) addr bytes all inside requested none is = requested origin refl

pub destination_act_made : (cpus : ℕ) (world : World) (effect : Effect) (bytes : List ℕ) → IsBounded cpus world → HasFaultsInside world → outcome world Step.DestAct ≡ Ok effect
    → AreMade bytes (resolved_calls effect) world.destination.guest (next world Step.DestAct).destination.guest
destination_act_made cpus world effect bytes all inside is =
    let told : IsDestinationAct world effect (next world Step.DestAct) =
    made-effect (IsDestinationAct world) world Step.DestAct effect
    (λ fault rest held ran quiet. record {
      act = destination_act world.destination fault;
      addr = 4096 * fault.page;
      is = refl;
      requested = λ origin asked. asks_alone (destination_act world.destination fault) world.destination fault.page origin asked;
      protected = nothing_protected _ _ _;
    }) is in
    subst (λ e. AreMade bytes (resolved_calls e) world.destination.guest (next world Step.DestAct).destination.guest) (sym told.is)
    (resolved_here cpus world told.act told.addr bytes all inside told.requested told.protected (is ∙ ap (λ e. Ok e) told.is))

-- The Package

kept_guest : (ran : Bool) (node : Destination) (copy : Copy) → (copy_came ran node copy).guest ≡ node.guest
kept_guest true node copy = refl
kept_guest false node copy = refl

resumed_guest : (received : Received) (node : Destination) → (resumed_by received node).guest ≡ node.guest
resumed_guest Received.NotRun node = refl
resumed_guest Received.Running node = refl
resumed_guest Received.Ended node = refl

-- a frame that is taken leaves the guest as it is, or is the Package
abbrev IsTaken : World → Effect → World → Type 0
IsTaken old effect new = (((areas : List Area) → taken_calls areas effect ≡ []) × (new.destination.guest ≡ old.destination.guest)) ⊎ ((owed : ℕ) × (effect ≡ Effect.TookPackage owed))

frame_taken : (node : Destination) (epoch : ℕ) (frame : Frame) → (((areas : List Area) → taken_calls areas (frame_effect frame) ≡ []) × ((destination_took node epoch frame).guest ≡ node.guest)) ⊎ ((owed : ℕ) × (frame_effect frame ≡ Effect.TookPackage owed))
frame_taken node epoch Frame.Advise = inl (λ areas. refl, refl)
frame_taken node epoch (Frame.Page page bytes) = inl (λ areas. refl, kept_guest node.has_run node (record { page = page; bytes = bytes }))
frame_taken node epoch (Frame.Zero page) = inl (λ areas. refl, kept_guest node.has_run node (record { page = page; bytes = zero_page }))
frame_taken node epoch (Frame.Run first pages) = inl (λ areas. refl, refl)
frame_taken node epoch (Frame.Discard pages) = inl (λ areas. refl, refl)
frame_taken node epoch (Frame.Package areas owed commands) = inr (len owed, refl)
frame_taken node epoch (Frame.End urgent) = inl (λ areas. refl, refl)
frame_taken node epoch Frame.Resume = inl (λ areas. refl, resumed_guest (received_of node) (record node { epoch = epoch; urgent_taken = 0 }))
frame_taken node epoch (Frame.Request page) = inl (λ areas. refl, refl)
frame_taken node epoch (Frame.Recv state owed) = inl (λ areas. refl, refl)
frame_taken node epoch Frame.Done = inl (λ areas. refl, refl)

took_frame : (world : World) (n : ℕ) (effect : Effect) → outcome world (Step.Deliver n) ≡ Ok effect → IsTaken world effect (next world (Step.Deliver n))
took_frame world n effect is =
    made-effect (IsTaken world) world (Step.Deliver n) effect
    ((λ sent rest found short. inl (λ areas. refl, refl)), (λ sent rest found full started up free early. frame_taken world.destination sent.epoch sent.frame)) is

-- the calls by which a destination begins to run
package_made : (cpus : ℕ) (world : World) (n owed : ℕ) (bytes : List ℕ) → IsBounded cpus world → outcome world (Step.Deliver n) ≡ Ok (Effect.TookPackage owed)
    → AreMade bytes (Call.Open event_features ∷ registers (areas_at Side.Destination (next world (Step.Deliver n))) 1) world.destination.guest (next world (Step.Deliver n)).destination.guest
package_made cpus world n owed bytes all is =
    let new = (next world (Step.Deliver n)).destination.guest in
    let host = new.space.host in
    let mid : Guest = record { space = handshaken (record fresh_space { host = host }) 170 event_features; cpus = new.cpus } in
    let are = areas_covered host.areas host.areas refl (has_memory cpus _ (bounded-next cpus world (Step.Deliver n) all)).destination in
    let watched = run_registers cpus world n owed _ all is are in
    (mid, record { host = host; answer = watched.handshake; leaves = refl }, all_made bytes _ 1 mid new watched.areas refl)

pub deliver_made : (cpus : ℕ) (world : World) (n : ℕ) (effect : Effect) (bytes : List ℕ) → IsBounded cpus world → outcome world (Step.Deliver n) ≡ Ok effect
    → AreMade bytes (taken_calls (areas_at Side.Destination (next world (Step.Deliver n))) effect) world.destination.guest (next world (Step.Deliver n)).destination.guest
deliver_made cpus world n effect bytes all is =
    let new = (next world (Step.Deliver n)).destination.guest in
    let areas = areas_at Side.Destination (next world (Step.Deliver n)) in
    elim (took_frame world n effect is) [
      | inl other ↦ subst (λ calls. AreMade bytes calls world.destination.guest new) (sym (other.0 areas)) other.1
      | inr running ↦ subst (λ e. AreMade bytes (taken_calls areas e) world.destination.guest new) (sym running.1) (package_made cpus world n running.0 bytes all (is ∙ ap (λ e. Ok e) running.1))
    ]

-- Install

-- a copy was dropped, or installed at an address
pub record IsPlacedCopy (old : World) (effect : Effect) : Type 0 where
  pub copy : Copy
  pub rest : List Copy
  pub first : old.destination.arrivals ≡ copy ∷ rest
  pub addr : ℕ
  pub origin : ℕ
  pub is : effect ≡ Effect.Installed addr origin

abbrev IsInstalled : World → Effect → World → Type 0
IsInstalled old effect new = ((installed_calls effect ≡ []) × (new.destination.guest ≡ old.destination.guest)) ⊎ IsPlacedCopy old effect

installed_or_dropped : (world : World) (copy : Copy) (rest : List Copy) (o : Option ℕ) → world.destination.arrivals ≡ copy ∷ rest
    → ((installed_calls (install_effect o copy.page) ≡ []) × ((install_by o world.destination copy rest).guest ≡ world.destination.guest)) ⊎ IsPlacedCopy world (install_effect o copy.page)
installed_or_dropped world copy rest None first = inl (refl, refl)
installed_or_dropped world copy rest (Some page) first = inr (record { copy = copy; rest = rest; first = first; addr = 4096 * page; origin = 4096 * copy.page; is = refl })

pub install_made : (cpus : ℕ) (world : World) (effect : Effect) → IsBounded cpus world → outcome world Step.Install ≡ Ok effect
    → AreMade (first_bytes world.destination.arrivals) (installed_calls effect) world.destination.guest (next world Step.Install).destination.guest
install_made cpus world effect all is =
    let new = (next world Step.Install).destination.guest in
    let bytes = first_bytes world.destination.arrivals in
    let put : IsInstalled world effect (next world Step.Install) =
    made-effect (IsInstalled world) world Step.Install effect (λ copy rest first ran quiet. installed_or_dropped world copy rest (home world.destination.owed copy.page) first) is in
    elim put [
      | inl dropped ↦ subst (λ calls. AreMade bytes calls world.destination.guest new) (sym dropped.0) dropped.1
      | inr placed ↦ subst (λ e. AreMade bytes (installed_calls e) world.destination.guest new) (sym placed.is) (
        new,
        subst (λ b. IsCopy world.destination.guest new placed.addr b) (sym (ap first_bytes placed.first)) (copy_installed cpus world placed.copy placed.rest placed.addr placed.origin all placed.first (is ∙ ap (λ e. Ok e) placed.is)).0,
        refl,
      )
    ]

-- Every step

pub step_made : (cpus : ℕ) (world : World) (step : Step) (effect : Effect) → IsBounded cpus world → HasFaultsInside world → is_of_host step ≡ true → outcome world step ≡ Ok effect
    → AreMade (first_bytes world.destination.arrivals) (calls_of (areas_at (node_of step) (next world step)) step effect) (guest_at (node_of step) world) (guest_at (node_of step) (next world step))
step_made cpus world (Step.Issue cpu command) effect all inside of_host is = absurd (grind (arith, nat_tests))
step_made cpus world (Step.Retry cpu) effect all inside of_host is = absurd (grind (arith, nat_tests))
step_made cpus world Step.Start effect all inside of_host is = start_made cpus world effect (first_bytes world.destination.arrivals) all is
step_made cpus world Step.Round effect all inside of_host is = round_made cpus world effect (first_bytes world.destination.arrivals) all is
step_made cpus world Step.Send effect all inside of_host is = send_made cpus world effect (first_bytes world.destination.arrivals) all is
step_made cpus world (Step.SendRun count) effect all inside of_host is = run_made cpus world count effect (first_bytes world.destination.arrivals) all is
step_made cpus world Step.SourceRead effect all inside of_host is = source_read_made cpus world effect (first_bytes world.destination.arrivals) all is
step_made cpus world Step.SourceAct effect all inside of_host is = source_act_made cpus world effect (first_bytes world.destination.arrivals) all inside is
step_made cpus world Step.Switch effect all inside of_host is = absurd (grind (arith, nat_tests))
step_made cpus world (Step.Deliver n) effect all inside of_host is = deliver_made cpus world n effect (first_bytes world.destination.arrivals) all is
step_made cpus world (Step.DeliverBack n) effect all inside of_host is = absurd (grind (arith, nat_tests))
step_made cpus world Step.DestRead effect all inside of_host is = destination_read_made cpus world effect (first_bytes world.destination.arrivals) all is
step_made cpus world Step.DestAct effect all inside of_host is = destination_act_made cpus world effect (first_bytes world.destination.arrivals) all inside is
step_made cpus world Step.Install effect all inside of_host is = install_made cpus world effect all is
step_made cpus world (Step.Push ticket) effect all inside of_host is = push_made world ticket effect (first_bytes world.destination.arrivals) is
step_made cpus world (Step.PushUrgent ticket) effect all inside of_host is = push_urgent_made world ticket effect (first_bytes world.destination.arrivals) is
step_made cpus world (Step.DeliverUrgent n) effect all inside of_host is = absurd (grind (arith, nat_tests))
step_made cpus world Step.Serve effect all inside of_host is = absurd (grind (arith, nat_tests))
step_made cpus world Step.End effect all inside of_host is = absurd (grind (arith, nat_tests))
step_made cpus world Step.Break effect all inside of_host is = absurd (grind (arith, nat_tests))
step_made cpus world (Step.Notice side) effect all inside of_host is = absurd (grind (arith, nat_tests))
step_made cpus world Step.Resume effect all inside of_host is = absurd (grind (arith, nat_tests))
