-- What frames rest on is kept by every step, so every frame in flight has a text.
use Rattle.std.proofs.Common.{◌≡◌, ℕ, ◌+◌, ◌-◌, ◌^◌, ◌<◌, ◌≤◌, ◌||◌, Bool, true, false, eqb, Option, Some, List, [], ◌∷◌, refl, sym, ◌∙◌, subst, arith, length}
use Rattle.std.specs.Ordering.{nat_cmp}
use Rattle.std.specs.FinMap as finmap
use Rattle.std.specs.FinMap.{get, get-empty}
use Rattle.std.specs.FinSet as finset
use Rattle.std.specs.FinSet.{FinSet, contains}
use Rattle.std.proofs.lemmas.Bool.{false≢true, eqb-true, not-true}
use Rattle.std.proofs.lemmas.Bool.Decides.{nat_tests}
use Rattle.std.proofs.lemmas.Option.{none-some}
use Rattle.mig_base.specs.declared.phase.Received.{Received}
use Rattle.mig_base.specs.declared.phase.SourcePhase.{SourcePhase}
use Rattle.mig_base.specs.declared.command.Command.{Command}
use Rattle.mig_base.specs.declared.schedule.Side.{Side}
use Rattle.mig_base.specs.declared.schedule.Step.{Step}
use Rattle.mig_base.specs.Commands.{is_access}
use Rattle.foundation.proofs.RangeLemmas.{least_below_tells}
use Rattle.mig_base.proofs.SetLemmas.{member_inserted, member_run, member_with_range, run_length-most, run_length-some}
use Rattle.foundation.specs.Ranges.{in_range}
use Rattle.mig_base.specs.Sets.{run_length, with_range}
use Rattle.mig_model.specs.Host.{Host, bare_host}
use Rattle.mig_base.specs.declared.act.Act.{Act}
use Rattle.mig_model.specs.Guest.{Fault, Guest, is_forgotten, is_present, tried, is_changing}
use Rattle.mig_base.specs.declared.act.Act.TheVariants.{Requested}
use Rattle.mig_base.specs.Userfault.{Noted}
use Rattle.mig_model.specs.Log.{least_of, no_pages}
use Rattle.mig_model.specs.Owed.{home}
use Rattle.mig_model.specs.Wire.{Copy, Frame, Sent, page_frame, wire_behind}
use Rattle.mig_model.specs.Wire.Frame.{Advise, Run, End, Resume, Request, Recv, Done}
use Rattle.mig_model.specs.Source.{bytes_of, is_precopy, is_released, is_source_idle, is_source_paused, is_stopped, rebuild_frames, run_of, source_act, source_acted_by, source_rebuilt, space_of, switch_frames}
use Rattle.mig_model.specs.Destination.{act_frames, destination_act, destination_acted_by, install_by}
use Rattle.mig_model.specs.Migration.{World, first_world_with, guest_by, guest_of, has_started, next, with_guest_by}
use Rattle.mig_model.proofs.steps.StepWorlds.{forward_sent, after_break, after_command, after_deliver, after_deliver_back, after_deliver_urgent, after_dest_act, after_end, after_notice, after_push, after_push_urgent, after_resume, after_run, after_send, after_source_read, after_start, after_switch}
use Rattle.mig_model.specs.NodeSteps.{is_used}
use Rattle.mig_model.specs.SourceSteps.{run_bound}
use Rattle.mig_model.specs.Invariant.{IsSoundWorld}
use Rattle.mig_model.proofs.delivery.Taken.{IsInPlaceBack}
use Rattle.mig_model.specs.Bounds.{ArePages, IsCpuCount, IsMapping, IsPage, AreListed}
use Rattle.page_stream.proofs.PageBytes.{HasBytes, changed_bytes, zeroed_bytes}
use Rattle.mig_model.proofs.steps.WokenSteps.{stopped_switched, takes_urgent}
use Rattle.mig_model.proofs.memory.Facts.{no_event, no_page}
use Rattle.mig_model.proofs.memory.PageLists.{listed-without}
use Rattle.page_stream.proofs.FrameBounds.{AreBodies, act_good, act_listed, answers_good, bodies-sending, bodies-sending_if, end_good, page_good, present_page, rebuilt_good, run_good, requested_owed, switch_good}
use Rattle.mig_model.proofs.delivery.FramesTaken.{is_taken_back}
use Rattle.mig_model.proofs.memory.MappingLemmas.{IsMapping-after, IsMapping-empty, host_tried}
use Rattle.mig_model.proofs.invariant.Bounded.{IsReady}
use Rattle.mig_model.proofs.memory.HandlerCalls.{end_below, first_in, last_in, some_bound}
use Rattle.mig_model.proofs.invariant.SourceMapped.{read_host}
use Rattle.mig_model.proofs.transcript.RightCommands.{AllRight, right_source}
use Rattle.mig_model.proofs.invariant.SourceKept.{source_holds}
use Rattle.mig_model.proofs.invariant.SourceRounds.{precopy_unswitched, precopy_started}
use Rattle.mig_model.proofs.steps.StepCases.{MakesWorld, made-next}
use Rattle.mig_model.proofs.invariant.UrgentWire.{is_paused}
use Rattle.mig_base.proofs.SetSizes.{only_where}

-- what the frames of a world rest on, and that each of them has a text, where the guest has that many processors
pub record IsLimited (cpus : ℕ) (from : SourcePhase) (epoch : ℕ) (host : Host) (sent : FinSet nat_cmp) (requests : List ℕ) (forward back urgent : List Sent) : Type 0 where
  pub areas : IsMapping host.areas
  pub bytes : HasBytes host.bytes
  pub sent_pages : ArePages sent
  -- an epoch begins only where its number has 32 bits
  pub started : is_source_idle from ≡ false → epoch < 2 ^ 32
  pub requested : AreListed requests
  pub to_destination : IsCpuCount cpus → AreBodies forward
  pub to_source : IsCpuCount cpus → AreBodies back
  pub on_urgent : IsCpuCount cpus → AreBodies urgent

abbrev pub AreLimited : ℕ → World → Type 0
AreLimited cpus world =
    IsLimited cpus world.source.phase world.source.epoch (space_of world.source).host world.source.log.sent world.destination.requests world.forward.frames world.back.frames world.urgent.frames

none_bytes : HasBytes finmap.empty
none_bytes page bytes h = absurd (none-some bytes (sym (get-empty nat_cmp page) ∙ h))

none_pages : ArePages no_pages
none_pages page h = no_page page h

pub limited-first : (cpus epoch rounds : ℕ) → AreLimited cpus (first_world_with cpus epoch rounds)
limited-first cpus epoch rounds = grind (arith, nat_tests, IsMapping-empty, none_bytes, none_pages)

-- The source

-- another host, with the rest as it was
with_host : {cpus : ℕ} {from : SourcePhase} {epoch : ℕ} {host : Host} {sent : FinSet nat_cmp} {requests : List ℕ} {forward back urgent : List Sent} (new : Host) → IsMapping new.areas → HasBytes new.bytes →
    IsLimited cpus from epoch host sent requests forward back urgent → IsLimited cpus from epoch new sent requests forward back urgent
with_host new areas bytes h = assumption

-- other frames on the wire to the destination
with_forward : {cpus : ℕ} {from : SourcePhase} {epoch : ℕ} {host : Host} {sent : FinSet nat_cmp} {requests : List ℕ} {forward back urgent : List Sent} (new : List Sent) → (IsCpuCount cpus → AreBodies new) →
    IsLimited cpus from epoch host sent requests forward back urgent → IsLimited cpus from epoch host sent requests new back urgent
with_forward new bodies h = grind (arith, nat_tests)

-- other requests, and other frames on the wire back
with_requests : {cpus : ℕ} {from : SourcePhase} {epoch : ℕ} {host : Host} {sent : FinSet nat_cmp} {requests : List ℕ} {forward back urgent : List Sent} (new : List ℕ) (frames : List Sent) → AreListed new → (IsCpuCount cpus → AreBodies frames) →
    IsLimited cpus from epoch host sent requests forward back urgent → IsLimited cpus from epoch host sent new forward frames urgent
with_requests new frames listed bodies h = grind (arith, nat_tests)

-- other frames on the urgent wire
with_urgent : {cpus : ℕ} {from : SourcePhase} {epoch : ℕ} {host : Host} {sent : FinSet nat_cmp} {requests : List ℕ} {forward back urgent : List Sent} (new : List Sent) → (IsCpuCount cpus → AreBodies new) →
    IsLimited cpus from epoch host sent requests forward back urgent → IsLimited cpus from epoch host sent requests forward back new
with_urgent new bodies h = grind (arith, nat_tests)

guest_limited : {cpus : ℕ} → (ran : Bool) (world : World) (guest : Guest) → (ran ≡ false → IsMapping guest.space.host.areas × HasBytes guest.space.host.bytes) → AreLimited cpus world → AreLimited cpus (with_guest_by ran world guest)
guest_limited ran world guest new h = grind (arith, nat_tests, with_host)

-- the source's guest after a command: it holds the flat memory until the destination has run
command_host : {cpus : ℕ} → (ran : Bool) (world : World) (cpu : ℕ) (command : Command) → world.destination.has_run ≡ ran → IsSoundWorld world → AreLimited cpus world → ran ≡ false →
    let new = (tried (is_access command) (guest_by ran world.source.guest world.destination.guest) cpu command).space.host in
    IsMapping new.areas × HasBytes new.bytes
command_host true world cpu command is kept h bare = absurd (false≢true (sym bare))
command_host false world cpu command is kept h bare =
    let host = (space_of world.source).host in
    host_tried (λ host. IsMapping host.areas × HasBytes host.bytes) (is_access command) (space_of world.source) cpu command (h.areas, h.bytes)
    (IsMapping-after host world.transcript cpu command kept.spaces.source_space.host (source_holds world kept is), changed_bytes host command _ h.bytes)

command_limited : {cpus : ℕ} → (world : World) (cpu : ℕ) (command : Command) → IsSoundWorld world → AreLimited cpus world → AreLimited cpus (after_command world cpu command)
command_limited world cpu command kept h =
    guest_limited world.destination.has_run world (tried (is_access command) (guest_of world) cpu command) (command_host world.destination.has_run world cpu command refl kept h) h

unused_next : (epoch : ℕ) → is_used epoch ≡ false → epoch + 1 < 4294967296
unused_next epoch h = grind (arith, nat_tests, h)

start_limited : {cpus : ℕ} → (world : World) → is_used world.source.epoch ≡ false → AreLimited cpus world → AreLimited cpus (after_start world)
start_limited {cpus = cpus} world unused h =
    assumption (
      unused_next world.source.epoch unused,
      λ (c : IsCpuCount cpus). bodies-sending world.forward.frames (world.source.epoch + 1) (Advise ∷ []) (h.to_destination c) (tt, tt),
    )

-- the page that is sent is present
sendable : (world : World) (page : ℕ) → IsSoundWorld world → least_of world.source.log.todo ≡ Some page → is_precopy world.source.phase ≡ true → is_changing world.source.guest ≡ false → is_present (space_of world.source) page ≡ true
sendable world page kept found precopy quiet = grind (arith, nat_tests, precopy_unswitched, least_below_tells, no_event)

one_more : (here there : Bool) {A : Type 0} → (here ≡ true → A) → (there ≡ true → A) → (here || there) ≡ true → A
one_more here there h k is = grind (arith, nat_tests)

inserted_pages : (set : FinSet nat_cmp) (page : ℕ) → ArePages set → IsPage page → ArePages (finset.insert set page)
inserted_pages set page are is q h = one_more (eqb q page) (contains set q) (λ e. subst IsPage (sym (eqb-true q page e)) is) (λ old. are q old) (sym (member_inserted set page q) ∙ h)

send_limited : {cpus : ℕ} → (world : World) (page : ℕ) → IsSoundWorld world → is_present (space_of world.source) page ≡ true → AreLimited cpus world → AreLimited cpus (after_send world page)
send_limited {cpus = cpus} world page kept here h =
    let sound = kept.spaces.source_space.host in
    assumption (
      inserted_pages world.source.log.sent page h.sent_pages (present_page (space_of world.source).host page sound h.areas here),
      λ (c : IsCpuCount cpus). bodies-sending world.forward.frames world.source.epoch (page_frame page (bytes_of world.source page) ∷ []) (h.to_destination c) (page_good world.source page sound h.areas h.bytes here, tt),
    )

-- the pages of a run: some, no more than a run may have, and all present
record IsSendable (world : World) (first number : ℕ) : Type 0 where
  some : 0 < number
  few : number ≤ 64
  present : (q : ℕ) → in_range first number q ≡ true → is_present (space_of world.source) q ≡ true

pub most_bound : (count : ℕ) → run_bound count ≤ 64
most_bound count = grind (arith, nat_tests)

run_sendable : (world : World) (first number bound : ℕ) → IsSoundWorld world → least_of world.source.log.todo ≡ Some first → number ≡ run_length world.source.log.todo first bound → 0 < bound → bound ≤ 64 → is_precopy world.source.phase ≡ true →
    is_changing world.source.guest ≡ false → IsSendable world first number
run_sendable world first number bound kept found many some most precopy quiet = grind (arith, nat_tests, run_length-some, least_below_tells, run_length-most, precopy_unswitched, member_run, no_event)

ranged_pages : (set : FinSet nat_cmp) (first number : ℕ) → ArePages set → ((q : ℕ) → in_range first number q ≡ true → IsPage q) → ArePages (with_range set first number)
ranged_pages set first number are is q h = one_more (in_range first number q) (contains set q) (is q) (are q) (sym (member_with_range set first number q) ∙ h)

run_limited : {cpus : ℕ} → (world : World) (first number : ℕ) → IsSoundWorld world → IsSendable world first number → AreLimited cpus world → AreLimited cpus (after_run world first number)
run_limited {cpus = cpus} world first number kept are h =
    let sound = kept.spaces.source_space.host in
    let pages : (q : ℕ) → in_range first number q ≡ true → IsPage q = λ q i. present_page (space_of world.source).host q sound h.areas (are.present q i) in
    let end = end_below first number are.some (pages (first + (number - 1)) (last_in first number are.some)).1 in
    let frame = run_good world.source first number sound h.bytes are.some are.few (pages first (first_in first number are.some)).0 end in
    assumption (
      ranged_pages world.source.log.sent first number h.sent_pages pages,
      λ (c : IsCpuCount cpus). bodies-sending world.forward.frames world.source.epoch (Run first (run_of world.source first number) ∷ []) (h.to_destination c) (frame, tt),
    )

read_limited : {cpus : ℕ} → (world : World) (noted : Noted) → AreLimited cpus world → AreLimited cpus (after_source_read world noted)
read_limited world noted h = grind (arith, nat_tests, read_host, with_host, HasBytes)

acted_limited : {cpus : ℕ} → (act : Act) (world : World) (page : ℕ) → AreLimited cpus world → AreLimited cpus (record world { source = source_acted_by act world.source page })
acted_limited act world page h = grind (arith, nat_tests, with_host, zeroed_bytes)

pub stopped_unreleased : (phase : SourcePhase) → is_stopped phase ≡ true → is_released phase ≡ false
stopped_unreleased phase h = grind (arith, nat_tests)

switch_limited : {cpus : ℕ} → (world : World) → IsReady cpus world → is_precopy world.source.phase ≡ true → AreLimited cpus world → AreLimited cpus (after_switch world)
switch_limited {cpus = cpus} world ready precopy h =
    let kept = ready.kept in
    let bare = only_where world.destination.has_run world.source.switched kept.phases.ran_after_switch (precopy_unswitched world.source.phase world.source.switched precopy kept.phases.source_phase) in
    assumption (
      h.started (precopy_started world.source.phase precopy),
      λ (c : IsCpuCount cpus). bodies-sending world.forward.frames world.source.epoch (switch_frames world.source) (h.to_destination c) (switch_good world.source kept.spaces.source_space.host h.areas h.sent_pages (right_source world.destination.has_run world.source.guest world.destination.guest bare ready.right) (subst IsCpuCount (sym ready.many) c)),
    )

push_limited : {cpus : ℕ} → (world : World) (page : ℕ) → IsSoundWorld world → is_present (space_of world.source) page ≡ true → AreLimited cpus world → AreLimited cpus (after_push world page)
push_limited world page kept here h =
    with_forward _
    (λ c. bodies-sending world.forward.frames world.source.epoch (page_frame page (bytes_of world.source page) ∷ []) (h.to_destination c) (page_good world.source page kept.spaces.source_space.host h.areas h.bytes here, tt)) h

push_urgent_limited : {cpus : ℕ} → (world : World) (page : ℕ) → IsSoundWorld world → is_present (space_of world.source) page ≡ true → AreLimited cpus world → AreLimited cpus (after_push_urgent world page)
push_urgent_limited world page kept here h =
    with_urgent _
    (λ c. bodies-sending world.urgent.frames world.source.epoch (page_frame page (bytes_of world.source page) ∷ []) (h.on_urgent c) (page_good world.source page kept.spaces.source_space.host h.areas h.bytes here, tt)) h

end_limited : {cpus : ℕ} → (world : World) → IsReady cpus world → is_stopped world.source.phase ≡ true → AreLimited cpus world → AreLimited cpus (after_end world)
end_limited world ready stopped h =
    let kept = ready.kept in
    let few = end_good world kept.spaces.source_space.host h.areas (stopped_switched world.source.phase world.source.switched stopped kept.phases.source_phase) (stopped_unreleased world.source.phase stopped) ready.few in
    with_forward _ (λ c. bodies-sending world.forward.frames world.source.epoch (End world.source.urgent_sent ∷ []) (h.to_destination c) (few, tt)) h

-- Frames that the destination takes

deliver_limited : {cpus : ℕ} → (world : World) (sent : Sent) (rest : List Sent) → IsSoundWorld world → world.forward.frames ≡ sent ∷ rest → AreLimited cpus world → AreLimited cpus (after_deliver world sent rest)
deliver_limited {cpus = cpus} world sent rest kept first h = grind (arith, nat_tests, AreBodies, with_forward, with_requests, AreListed, bodies-sending_if, answers_good)

urgent_limited : {cpus : ℕ} → (world : World) (sent : Sent) (rest : List Sent) → world.urgent.frames ≡ sent ∷ rest → AreLimited cpus world → AreLimited cpus (after_deliver_urgent world sent rest)
urgent_limited {cpus = cpus} world sent rest first h = grind (arith, nat_tests, AreBodies, with_urgent, with_requests, AreListed, takes_urgent)

-- Its handler, and Install

handled_limited : {cpus : ℕ} → (world : World) (fault : Fault) → IsSoundWorld world → AreLimited cpus world → AreLimited cpus (after_dest_act world fault)
handled_limited world fault kept h =
    let node = world.destination in
    let act = destination_act node fault in
    let page : (origin : ℕ) → act ≡ Requested origin → IsPage origin = λ origin is.
    let owed = requested_owed (is_forgotten node.guest.space fault.page) (is_present node.guest.space fault.page) (get node.owed fault.page) origin is in
    present_page (space_of world.source).host origin kept.spaces.source_space.host h.areas (kept.owing.origins_present fault.page origin owed) in
    with_requests (destination_acted_by act node fault.page).requests _ (act_listed act node fault.page page h.requested)
    (λ c. bodies-sending_if world.up world.back.frames (destination_acted_by act node fault.page).epoch (act_frames act node) (h.to_source c) (act_good act node page)) h

installed_limited : {cpus : ℕ} → (o : Option ℕ) (world : World) (copy : Copy) (rest : List Copy) → AreLimited cpus world → AreLimited cpus (record world { destination = install_by o world.destination copy rest })
installed_limited o world copy rest h = grind (arith, nat_tests, with_requests, listed-without)

-- Frames that the source takes

bare_notrun : (world : World) (rest : List Sent) (epoch : ℕ) (owed : FinSet nat_cmp) → IsSoundWorld world → world.up ≡ true → world.back.frames ≡ record { epoch = epoch; frame = Recv Received.NotRun owed } ∷ rest →
    is_source_paused world.source.phase ≡ true → world.destination.has_run ≡ false
bare_notrun world rest epoch owed kept up first paused = grind (arith, nat_tests, is_paused)

rebuilt_limited : {cpus : ℕ} → (switched : Bool) (world : World) (rest : List Sent) (owed : FinSet nat_cmp) → IsSoundWorld world → AllRight world.source.guest.cpus → length world.source.guest.cpus ≡ cpus → world.source.epoch < 2 ^ 32 → (IsCpuCount cpus → AreBodies rest) → AreLimited cpus world →
    AreLimited cpus (forward_sent (record world { back = wire_behind rest }) (source_rebuilt Received.NotRun owed (record world.source { switched = switched })) (rebuild_frames Received.NotRun (record world.source { switched = switched })))
rebuilt_limited {cpus = cpus} true world rest owed kept right many epoch bodies h =
    assumption (λ (c : IsCpuCount cpus). bodies-sending world.forward.frames world.source.epoch (rebuild_frames Received.NotRun (record world.source { switched = true })) (h.to_destination c) (rebuilt_good Received.NotRun (record world.source { switched = true }) kept.spaces.source_space.host h.areas (λ s. right) (subst IsCpuCount (sym many) c)))
rebuilt_limited {cpus = cpus} false world rest owed kept right many epoch bodies h = grind (arith, nat_tests, none_pages)

released_limited : {cpus : ℕ} → (world : World) (rest : List Sent) → world.source.epoch < 2 ^ 32 → (IsCpuCount cpus → AreBodies rest) → AreLimited cpus world →
    IsLimited cpus SourcePhase.Released world.source.epoch bare_host no_pages world.destination.requests world.forward.frames rest world.urgent.frames
released_limited world rest epoch bodies h = assumption (IsMapping-empty, none_bytes, none_pages)

back_limited : {cpus : ℕ} → (frame : Frame) (epoch : ℕ) (rest : List Sent) (world : World) → IsReady cpus world → world.up ≡ true → world.source.epoch < 2 ^ 32 → world.back.frames ≡ record { epoch = epoch; frame = frame } ∷ rest → IsInPlaceBack world.source frame → (IsCpuCount cpus → AreBodies rest) →
    AreLimited cpus world → AreLimited cpus (after_deliver_back world (record { epoch = epoch; frame = frame }) rest)
back_limited (Recv Received.NotRun owed) epoch rest world ready up below first place bodies h =
    rebuilt_limited world.source.switched world rest owed ready.kept
    (right_source world.destination.has_run world.source.guest world.destination.guest (bare_notrun world rest epoch owed ready.kept up first place.0) ready.right) ready.many below bodies h
back_limited (Recv Received.Running owed) epoch rest world ready up below first place bodies h = grind (arith, nat_tests)
back_limited (Recv Received.Ended owed) epoch rest world ready up below first place bodies h = released_limited world rest below bodies h
back_limited Done epoch rest world ready up below first place bodies h = released_limited world rest below bodies h
back_limited (Request page) epoch rest world ready up below first place bodies h = with_requests world.destination.requests rest h.requested bodies h
back_limited _ epoch rest world ready up below first place bodies h = absurd place

deliver_back_limited : {cpus : ℕ} → (world : World) (sent : Sent) (rest : List Sent) → IsReady cpus world → has_started world ≡ true → world.up ≡ true → world.back.frames ≡ sent ∷ rest → AreLimited cpus world → AreLimited cpus (after_deliver_back world sent rest)
deliver_back_limited {cpus = cpus} world sent rest ready started up first h =
    let bodies = λ (c : IsCpuCount cpus). subst AreBodies first (h.to_source c) in
    back_limited sent.frame sent.epoch rest world ready up (h.started (not-true (is_source_idle world.source.phase) started)) first (is_taken_back world sent rest ready.kept up first) (λ c. (bodies c).1) h

-- The channel

break_limited : {cpus : ℕ} → (world : World) → AreLimited cpus world → AreLimited cpus (after_break world)
break_limited world h = with_forward [] (λ c. tt) (with_urgent [] (λ c. tt) (with_requests world.destination.requests [] h.requested (λ c. tt) h))

notices_limited : {cpus : ℕ} → (world : World) → has_started world ≡ true → AreLimited cpus world → AreLimited cpus (after_notice world Side.Source)
notices_limited {cpus = cpus} world started h = grind (arith, nat_tests, not-true)

resume_limited : {cpus : ℕ} → (world : World) → is_used world.source.epoch ≡ false → AreLimited cpus world → AreLimited cpus (after_resume world)
resume_limited {cpus = cpus} world unused h =
    assumption (
      unused_next world.source.epoch unused,
      λ (c : IsCpuCount cpus). bodies-sending world.forward.frames (world.source.epoch + 1) (Resume ∷ []) (h.to_destination c) (tt, tt),
    )

-- Steps

pub limited-answer : {cpus : ℕ} → (world : World) (step : Step) → IsReady cpus world → AreLimited cpus world → MakesWorld (AreLimited cpus) world step
limited-answer world (Step.Issue cpu command) ready h = λ there idle may. command_limited world cpu command ready.kept h
limited-answer world (Step.Retry cpu) ready h = λ command waits woken may. command_limited world cpu command ready.kept h
limited-answer world Step.Start ready h = λ idle unused. start_limited world unused h
limited-answer world Step.Send ready h = λ page is precopy up quiet. send_limited world page ready.kept (sendable world page ready.kept is precopy quiet) h
limited-answer world (Step.SendRun count) ready h =
    λ first number is many precopy up quiet.
    run_limited world first number ready.kept (run_sendable world first number (run_bound count) ready.kept is many (some_bound count) (most_bound count) precopy quiet) h
limited-answer world Step.SourceRead ready h = λ noted is started unswitched. read_limited world noted h
limited-answer world Step.SourceAct ready h = λ fault rest is started unswitched quiet. acted_limited (source_act world.source fault) world fault.page h
limited-answer world Step.Switch ready h = λ precopy up quiet. switch_limited world ready precopy h
limited-answer world (Step.Deliver n) ready h = ((λ sent rest is short. h), (λ sent rest is full started up free early. deliver_limited world sent rest ready.kept is h))
limited-answer world (Step.DeliverBack n) ready h = ((λ sent rest is short. h), (λ sent rest is full started up. deliver_back_limited world sent rest ready started up is h))
limited-answer world Step.DestAct ready h = λ fault rest is ran quiet. handled_limited world fault ready.kept h
limited-answer world Step.Install ready h = λ copy rest is ran quiet. installed_limited (home world.destination.owed copy.page) world copy rest h
limited-answer world (Step.Push ticket) ready h = λ stopped up own present remains. push_limited world ticket.page ready.kept present h
limited-answer world (Step.PushUrgent ticket) ready h = λ stopped up own present remains. push_urgent_limited world ticket.page ready.kept present h
limited-answer world (Step.DeliverUrgent n) ready h = ((λ sent rest is short. h), (λ sent rest is full ran up. urgent_limited world sent rest is h))
limited-answer world Step.End ready h = λ stopped other up none. end_limited world ready stopped h
limited-answer world Step.Break ready h = λ started unreleased up. break_limited world h
limited-answer world (Step.Notice Side.Source) ready h = λ started unreleased down. notices_limited world started h
limited-answer world Step.Resume ready h = λ from to down unused. resume_limited world unused h
limited-answer world _ ready h = assumption

pub limited-next : {cpus : ℕ} → (world : World) (step : Step) → IsReady cpus world → AreLimited cpus world → AreLimited cpus (next world step)
limited-next {cpus = cpus} world step ready h = made-next (AreLimited cpus) world step h (limited-answer world step ready h)
