-- The steps of a source once all contents are changed.
use Rattle.std.proofs.Common.{◌≡◌, ℕ, zero, suc, ◌+◌, ◌*◌, ◌&&◌, Bool, true, false, cond, not, List, [], ◌∷◌, map, refl, sym, ap, ◌∙◌}
use Rattle.std.specs.Prelude.{ok_or, nat_eq}
use Rattle.std.specs.Option.{option_map}
use Rattle.std.specs.Ordering.{nat_cmp}
use Rattle.std.specs.FinMap.{FinMap}
use Rattle.std.specs.FinSet as finset
use Rattle.std.specs.FinSet.{FinSet, contains}
use Rattle.mig_base.specs.declared.effect.Effect.{Effect}
use Rattle.mig_base.specs.declared.phase.Received.{Received}
use Rattle.mig_base.specs.declared.phase.SourcePhase.{SourcePhase}
use Rattle.mig_base.specs.declared.refusal.Refusal.{Refusal}
use Rattle.mig_base.specs.declared.schedule.Side.{Side}
use Rattle.mig_base.specs.declared.schedule.Ticket.{Ticket}
use Rattle.mig_base.specs.Sets.{pages_where, run_length}
use Rattle.mig_base.specs.Userfault.{Noted, next_message}
use Rattle.mig_model.specs.Cpus.{outstanding}
use Rattle.mig_base.specs.Acts.{act_effect}
use Rattle.mig_model.specs.Effects.{page_effect, read_effect}
use Rattle.mig_model.specs.Host.{bare_host}
use Rattle.mig_base.specs.declared.act.Act.{Act}
use Rattle.mig_model.specs.Guest.{Fault, Guest, is_forgotten}
use Rattle.mig_base.specs.declared.act.Act.TheVariants.{Unprotected, Zeroed, Woke, Forgot, Requested}
use Rattle.mig_model.specs.GuestSteps.{when_quiet}
use Rattle.mig_model.specs.Log.{forgotten, less, no_pages, present}
use Rattle.mig_model.specs.NodeSteps.{acted, and_then, first_of, rest_of, sent, unless}
use Rattle.mig_model.specs.Source.{Source, bytes_of, end_sent, is_handling, is_source_paused, is_stopped, is_under_way, not_clean, package_frames, page_pushed, page_sent, rebuild_frames, released, request_served, resumed, round_made, run_of, run_sent, source_act, source_act_by, source_acted, source_acted_by, source_answers, source_paused, source_read, source_rebuilt, source_started, source_took, space_of, switch_frames, switch_made, urgent_pushed}
use Rattle.mig_model.specs.SourceSteps as source
use Rattle.mig_model.specs.SourceSteps.{next_to_send, push_page, run_bound, send_pages}
use Rattle.mig_model.specs.Space.{Space, fresh_space}
use Rattle.mig_model.specs.Wire.{Frame, is_zeros, page_frame}
use Rattle.mig_model.specs.Wire.Frame.{Advise, Page, Zero, Run, Discard, Package, End, Resume, Request, Recv, Done}
use Rattle.mig_model.proofs.memory.Facts.{page_again}
use Rattle.mig_laws.specs.Contents.{command_under, cpu_under, guest_under, space_under}
use Rattle.mig_laws.specs.Nodes.{map_ok, own_bytes, source_acted_under, source_sends_under}
use Rattle.mig_laws.specs.Worlds.{bytes_in, effect_under, frame_under, source_under}
use Rattle.mig_laws.proofs.Frames.{frame_effect-under, page_effect-under, page_frame-under}
use Rattle.mig_laws.proofs.GuestSteps.{outstanding-under, read_effect-under, read_guest-under, resolved-under}
use Rattle.mig_laws.proofs.Hosts.{contents-under}
use Rattle.mig_laws.proofs.ObjectCalls.{present-under, protected_in-under, zero_installed-under}
use Rattle.mig_laws.proofs.PageMaps.{map_values-empty}
use Rattle.mig_laws.proofs.StepForms.{and_then-same, in_phase-map, map-twice, unless-map}

-- What it has

pub present_set-under : (f : ℕ → ℕ) (space : Space) → present (space_under f space) ≡ present space
present_set-under f space = ap pages_where (λ i page. present-under f space page i)

pub not_clean-under : (f : ℕ → ℕ) (node : Source) → not_clean (source_under f node) ≡ not_clean node
not_clean-under f node = ap (λ (s : FinSet nat_cmp). less s node.log.clean) (present_set-under f (space_of node))

bytes_of-under : (f : ℕ → ℕ) → f 0 ≡ 0 → (node : Source) (page : ℕ) → bytes_of (source_under f node) page ≡ map f (bytes_of node page)
bytes_of-under f h node page = contents-under f (space_of node).host.bytes page h

own_page : (node : Source) (page : ℕ) → own_bytes node (4096 * page) ≡ bytes_of node page
own_page node page = ap (bytes_of node) (sym (page_again page (4096 * page) refl))

run_of-under : (f : ℕ → ℕ) → f 0 ≡ 0 → (node : Source) (first count : ℕ) → run_of (source_under f node) first count ≡ map (map f) (run_of node first count)
run_of-under f h node first zero = refl
run_of-under f h node first (suc count) = λ i. bytes_of-under f h node first i ∷ run_of-under f h node (1 + first) count i

-- Pre-copy

pub start-under : (f : ℕ → ℕ) (bytes : ℕ → List ℕ) (node : Source) → source.start (source_under f node) ≡ map_ok (source_sends_under f bytes) (source.start node)
start-under f bytes node = unless-map (source_sends_under f bytes) _ (sent (Effect.Started (node.epoch + 1)) (Advise ∷ []) (source_started node)) _ refl

pub round-under : (f : ℕ → ℕ) (bytes : ℕ → List ℕ) (node : Source) → source.round (source_under f node) ≡ map_ok (source_acted_under f bytes) (source.round node)
round-under f bytes node =
    unless-map (source_acted_under f bytes) _ (acted (Effect.RoundMade (node.rounds + 1) (finset.len (not_clean node))) (round_made node)) _
    (ap (λ (s : FinSet nat_cmp). acted (Effect.RoundMade (node.rounds + 1) (finset.len s)) (record (round_made (source_under f node)) { log = record node.log { todo = s } })) (not_clean-under f node))

page_sent-under : (f : ℕ → ℕ) (node : Source) (page : ℕ) → page_sent (source_under f node) page ≡ source_under f (page_sent node page)
page_sent-under f node page = ap (λ (s : Space). record (source_under f (page_sent node page)) { guest = record (guest_under f node.guest) { space = s } }) (protected_in-under f (space_of node) page 1 true)

run_sent-under : (f : ℕ → ℕ) (node : Source) (first count : ℕ) → run_sent (source_under f node) first count ≡ source_under f (run_sent node first count)
run_sent-under f node first count =
    ap (λ (s : Space). record (source_under f (run_sent node first count)) { guest = record (guest_under f node.guest) { space = s } }) (protected_in-under f (space_of node) first count true)

page_sends : (f : ℕ → ℕ) → f 0 ≡ 0 → (node : Source) (page : ℕ) (left new : Source) → new ≡ source_under f left →
    sent (page_effect page (bytes_of (source_under f node) page)) (page_frame page (bytes_of (source_under f node) page) ∷ []) new
    ≡ map_ok (source_sends_under f (own_bytes node)) (sent (page_effect page (bytes_of node page)) (page_frame page (bytes_of node page) ∷ []) left)
page_sends f h node page left new same =
    let bytes = bytes_of node page in
    let effect = page_effect-under f h page (own_bytes node) bytes (own_page node page) in
    let frame = page_frame-under f h page bytes in
    ap (λ (b : List ℕ). sent (page_effect page b) (page_frame page b ∷ []) new) (bytes_of-under f h node page)
    ∙ (λ i. sent (effect i) (frame i ∷ []) (same i))

pub send-under : (f : ℕ → ℕ) → f 0 ≡ 0 → (node : Source) → source.send (source_under f node) ≡ map_ok (source_sends_under f (own_bytes node)) (source.send node)
send-under f h node =
    and_then-same (source_sends_under f (own_bytes node)) (next_to_send node) (λ page. sent (page_effect page (bytes_of node page)) (page_frame page (bytes_of node page) ∷ []) (page_sent node page)) _
    (λ page. page_sends f h node page (page_sent node page) (page_sent (source_under f node) page) (page_sent-under f node page))

run_sends : (f : ℕ → ℕ) → f 0 ≡ 0 → (bytes : ℕ → List ℕ) (node : Source) (first count : ℕ) → send_pages (source_under f node) first count ≡ map_ok (source_sends_under f bytes) (send_pages node first count)
run_sends f h bytes node first count =
    let pages = run_of-under f h node first count in
    let left = run_sent-under f node first count in
    λ i. sent (Effect.SentRun (4096 * first) count) (Run first (pages i) ∷ []) (left i)

pub send_run-under : (f : ℕ → ℕ) → f 0 ≡ 0 → (bytes : ℕ → List ℕ) (node : Source) (count : ℕ) → source.send_run (source_under f node) count ≡ map_ok (source_sends_under f bytes) (source.send_run node count)
send_run-under f h bytes node count =
    and_then-same (source_sends_under f bytes) (next_to_send node) (λ first. send_pages node first (run_length node.log.todo first (run_bound count))) _
    (λ first. run_sends f h bytes node first (run_length node.log.todo first (run_bound count)))

-- The handler

source_read-under : (f : ℕ → ℕ) (node : Source) (noted : Noted) → source_read (source_under f node) noted ≡ source_under f (source_read node noted)
source_read-under f node noted = ap (λ (g : Guest). record (source_read node noted) { guest = g }) (read_guest-under f node.guest noted.cpu noted.message)

pub read-under : (f : ℕ → ℕ) (bytes : ℕ → List ℕ) (node : Source) → source.read (source_under f node) ≡ map_ok (source_acted_under f bytes) (source.read node)
read-under f bytes node =
    in_phase-map (source_acted_under f bytes) (is_handling node)
    (and_then (ok_or (next_message (space_of node).object) Refusal.NothingThere) (λ noted. acted (read_effect node.guest.cpus noted.cpu noted.message) (source_read node noted))) _
    (and_then-same (source_acted_under f bytes) (ok_or (next_message (space_of node).object) Refusal.NothingThere) (λ noted. acted (read_effect node.guest.cpus noted.cpu noted.message) (source_read node noted)) _
    (λ noted i. acted (read_effect-under f bytes node.guest.cpus noted.cpu noted.message i) (source_read-under f node noted i)))

act-same : (f : ℕ → ℕ) (node : Source) (fault : Fault) → source_act (source_under f node) fault ≡ source_act node fault
act-same f node fault =
    ap (λ b. source_act_by (is_forgotten (space_of node) fault.page) b (contains (space_of node).protected fault.page && fault.wp)) (present-under f (space_of node) fault.page)

acted_by-under : (f : ℕ → ℕ) → f 0 ≡ 0 → (act : Act) (node : Source) (page : ℕ) → source_acted_by act (source_under f node) page ≡ source_under f (source_acted_by act node page)
acted_by-under f h Unprotected node page =
    ap (λ (g : Guest). record (source_acted_by Unprotected node page) { guest = g }) (resolved-under f node.guest page _ _ (protected_in-under f (space_of node) page 1 false))
acted_by-under f h Zeroed node page =
    ap (λ (g : Guest). record (source_acted_by Zeroed node page) { guest = g }) (resolved-under f node.guest page _ _ (zero_installed-under f h (space_of node) page))
acted_by-under f h Woke node page = ap (λ (g : Guest). record (source_acted_by Woke node page) { guest = g }) (resolved-under f node.guest page (space_of node) _ refl)
acted_by-under f h Forgot node page = ap (λ (g : Guest). record (source_acted_by Forgot node page) { guest = g }) (resolved-under f node.guest page (space_of node) _ refl)
acted_by-under f h (Requested origin) node page = ap (λ (g : Guest). record (source_acted_by (Requested origin) node page) { guest = g }) (resolved-under f node.guest page (space_of node) _ refl)

pub act_effect-under : (f : ℕ → ℕ) (bytes : ℕ → List ℕ) (act : Act) (addr : ℕ) → act_effect act addr ≡ effect_under f bytes (act_effect act addr)
act_effect-under f bytes Unprotected addr = refl
act_effect-under f bytes Zeroed addr = refl
act_effect-under f bytes Woke addr = refl
act_effect-under f bytes Forgot addr = refl
act_effect-under f bytes (Requested origin) addr = refl

acts : (f : ℕ → ℕ) → f 0 ≡ 0 → (bytes : ℕ → List ℕ) (node : Source) (fault : Fault) →
    acted (act_effect (source_act (source_under f node) fault) (4096 * fault.page)) (source_acted (source_under f node) fault) ≡ map_ok (source_acted_under f bytes) (acted (act_effect (source_act node fault) (4096 * fault.page)) (source_acted node fault))
acts f h bytes node fault =
    let act = source_act node fault in
    let effect = act_effect-under f bytes act (4096 * fault.page) in
    let left = acted_by-under f h act node fault.page in
    ap (λ (a : Act). acted (act_effect a (4096 * fault.page)) (source_acted_by a (source_under f node) fault.page)) (act-same f node fault)
    ∙ (λ i. acted (effect i) (left i))

pub act-under : (f : ℕ → ℕ) → f 0 ≡ 0 → (bytes : ℕ → List ℕ) (node : Source) → source.act (source_under f node) ≡ map_ok (source_acted_under f bytes) (source.act node)
act-under f h bytes node =
    in_phase-map (source_acted_under f bytes) (is_handling node)
    (and_then (when_quiet node.guest (first_of node.log.held)) (λ fault. acted (act_effect (source_act node fault) (4096 * fault.page)) (source_acted node fault))) _
    (and_then-same (source_acted_under f bytes) (when_quiet node.guest (first_of node.log.held)) (λ fault. acted (act_effect (source_act node fault) (4096 * fault.page)) (source_acted node fault)) _ (acts f h bytes node))

-- Post-copy

package-under : (f : ℕ → ℕ) (node : Source) (discarded owed : FinSet nat_cmp) → package_frames (source_under f node) discarded owed ≡ map (frame_under f) (package_frames node discarded owed)
package-under f node discarded owed =
    ap (λ commands. Discard discarded ∷ Package (space_of node).host.areas owed commands ∷ []) (map-twice (cpu_under f) outstanding outstanding (option_map (command_under f)) (outstanding-under f) node.guest.cpus)

pub switch-under : (f : ℕ → ℕ) (bytes : ℕ → List ℕ) (node : Source) → source.switch (source_under f node) ≡ map_ok (source_sends_under f bytes) (source.switch node)
switch-under f bytes node =
    let discarded = less node.log.sent node.log.clean in
    unless-map (source_sends_under f bytes) _ (sent (Effect.Switched (finset.len discarded) (finset.len (not_clean node))) (switch_frames node) (switch_made node)) _
    (ap (λ (s : FinSet nat_cmp).
    sent (Effect.Switched (finset.len discarded) (finset.len s)) (package_frames (source_under f node) discarded s) (record (switch_made (source_under f node)) { remaining = s; packaged = finset.len s })) (not_clean-under f node)
    ∙ ap (λ (frames : List Frame). sent (Effect.Switched (finset.len discarded) (finset.len (not_clean node))) frames (source_under f (switch_made node))) (package-under f node discarded (not_clean node)))

push_page-under : (f : ℕ → ℕ) → f 0 ≡ 0 → (node : Source) (ticket : Ticket) (left : Source) → push_page (source_under f node) ticket (source_under f left) ≡ map_ok (source_sends_under f (own_bytes node)) (push_page node ticket left)
push_page-under f h node ticket left =
    let new = source_under f node in
    ap (λ (b : Bool). unless ((not (is_stopped node.phase), Refusal.Phase) ∷ (not (nat_eq ticket.epoch node.epoch), Refusal.StaleEpoch) ∷ (not b, Refusal.PageNotSendable) ∷ (not (contains node.remaining ticket.page), Refusal.NotRemaining) ∷ [])
    (sent (page_effect ticket.page (bytes_of new ticket.page)) (page_frame ticket.page (bytes_of new ticket.page) ∷ []) (source_under f left))) (present-under f (space_of node) ticket.page)
    ∙ unless-map (source_sends_under f (own_bytes node)) _ (sent (page_effect ticket.page (bytes_of node ticket.page)) (page_frame ticket.page (bytes_of node ticket.page) ∷ []) left) _
    (page_sends f h node ticket.page left (source_under f left) refl)

pub push-under : (f : ℕ → ℕ) → f 0 ≡ 0 → (node : Source) (ticket : Ticket) → source.push (source_under f node) ticket ≡ map_ok (source_sends_under f (own_bytes node)) (source.push node ticket)
push-under f h node ticket = push_page-under f h node ticket (page_pushed node ticket.page)

pub push_urgent-under : (f : ℕ → ℕ) → f 0 ≡ 0 → (node : Source) (ticket : Ticket) → source.push_urgent (source_under f node) ticket ≡ map_ok (source_sends_under f (own_bytes node)) (source.push_urgent node ticket)
push_urgent-under f h node ticket = push_page-under f h node ticket (urgent_pushed node ticket.page)

pub serve-under : (f : ℕ → ℕ) (bytes : ℕ → List ℕ) (node : Source) → source.serve (source_under f node) ≡ map_ok (source_acted_under f bytes) (source.serve node)
serve-under f bytes node =
    in_phase-map (source_acted_under f bytes) (is_stopped node.phase)
    (and_then (ok_or (first_of node.asked) Refusal.NothingThere) (λ page. acted (Effect.Asked (4096 * page)) (request_served node (rest_of node.asked)))) _
    (and_then-same (source_acted_under f bytes) (ok_or (first_of node.asked) Refusal.NothingThere) (λ page. acted (Effect.Asked (4096 * page)) (request_served node (rest_of node.asked))) _ (λ page. refl))

pub end-under : (f : ℕ → ℕ) (bytes : ℕ → List ℕ) (node : Source) → source.end (source_under f node) ≡ map_ok (source_sends_under f bytes) (source.end node)
end-under f bytes node = unless-map (source_sends_under f bytes) _ (sent Effect.EndSent (End node.urgent_sent ∷ []) (end_sent node)) _ refl

-- The wire back, and a broken channel

-- a space without a page is the same
released-under : (f : ℕ → ℕ) (node : Source) → released (source_under f node) ≡ source_under f (released node)
released-under f node =
    ap (λ (pages : FinMap nat_cmp (List ℕ)). record (released (source_under f node)) { guest = record (guest_under f node.guest) { space = record fresh_space { host = record bare_host { bytes = pages } } } }) (sym (map_values-empty (map f)))

rebuilt_by : (f : ℕ → ℕ) (switched : Bool) (node : Source) (pages new : FinSet nat_cmp) → new ≡ pages →
    cond switched (record (source_under f node) { phase = SourcePhase.Stopped; asked = []; remaining = new; packaged = finset.len new }) (record (source_under f node) { phase = SourcePhase.Precopy; asked = []; log = forgotten node.log })
    ≡ source_under f (cond switched (record node { phase = SourcePhase.Stopped; asked = []; remaining = pages; packaged = finset.len pages }) (record node { phase = SourcePhase.Precopy; asked = []; log = forgotten node.log }))
rebuilt_by f true node pages new h = ap (λ (s : FinSet nat_cmp). record (source_under f node) { phase = SourcePhase.Stopped; asked = []; remaining = s; packaged = finset.len s }) h
rebuilt_by f false node pages new h = refl

frames_by : (f : ℕ → ℕ) (switched : Bool) (node : Source) (pages : FinSet nat_cmp) → cond switched (package_frames (source_under f node) no_pages pages) [] ≡ map (frame_under f) (cond switched (package_frames node no_pages pages) [])
frames_by f true node pages = package-under f node no_pages pages
frames_by f false node pages = refl

ignored : (f : ℕ → ℕ) (node : Source) (page : ℕ) (bytes : List ℕ) (zeros : Bool) → source_took (source_under f node) (cond zeros (Zero page) (Page page bytes)) ≡ source_under f node
ignored f node page bytes true = refl
ignored f node page bytes false = refl

unanswered : (f : ℕ → ℕ) (node : Source) (page : ℕ) (bytes : List ℕ) (zeros : Bool) → source_answers (source_under f node) (cond zeros (Zero page) (Page page bytes)) ≡ []
unanswered f node page bytes true = refl
unanswered f node page bytes false = refl

rebuilt-under : (f : ℕ → ℕ) (state : Received) (owed : FinSet nat_cmp) (node : Source) → source_rebuilt state owed (source_under f node) ≡ source_under f (source_rebuilt state owed node)
rebuilt-under f Received.NotRun owed node = rebuilt_by f node.switched node (present (space_of node)) (present (space_of (source_under f node))) (present_set-under f (space_of node))
rebuilt-under f Received.Running owed node = refl
rebuilt-under f Received.Ended owed node = released-under f node

frames-under : (f : ℕ → ℕ) (state : Received) (node : Source) → rebuild_frames state (source_under f node) ≡ map (frame_under f) (rebuild_frames state node)
frames-under f Received.NotRun node =
    ap (λ (s : FinSet nat_cmp). cond node.switched (package_frames (source_under f node) no_pages s) []) (present_set-under f (space_of node)) ∙ frames_by f node.switched node (present (space_of node))
frames-under f Received.Running node = refl
frames-under f Received.Ended node = refl

took-under : (f : ℕ → ℕ) (node : Source) (frame : Frame) → source_took (source_under f node) (frame_under f frame) ≡ source_under f (source_took node frame)
took-under f node (Page page bytes) = ignored f node page (map f bytes) (is_zeros (map f bytes))
took-under f node (Recv state owed) = rebuilt-under f state owed node
took-under f node Done = released-under f node
took-under f node Advise = refl
took-under f node (Zero page) = refl
took-under f node (Run first pages) = refl
took-under f node (Discard pages) = refl
took-under f node (Package areas owed commands) = refl
took-under f node (End urgent) = refl
took-under f node Resume = refl
took-under f node (Request page) = refl

answers-under : (f : ℕ → ℕ) (node : Source) (frame : Frame) → source_answers (source_under f node) (frame_under f frame) ≡ map (frame_under f) (source_answers node frame)
answers-under f node (Page page bytes) = unanswered f node page (map f bytes) (is_zeros (map f bytes))
answers-under f node (Recv state owed) = frames-under f state node
answers-under f node Done = refl
answers-under f node Advise = refl
answers-under f node (Zero page) = refl
answers-under f node (Run first pages) = refl
answers-under f node (Discard pages) = refl
answers-under f node (Package areas owed commands) = refl
answers-under f node (End urgent) = refl
answers-under f node Resume = refl
answers-under f node (Request page) = refl

pub take-under : (f : ℕ → ℕ) (node : Source) (frame : Frame) → source.take (source_under f node) (frame_under f frame) ≡ map_ok (source_sends_under f (λ addr. bytes_in frame)) (source.take node frame)
take-under f node frame =
    let effect = frame_effect-under f frame in
    let answers = answers-under f node frame in
    let left = took-under f node frame in
    λ i. sent (effect i) (answers i) (left i)

pub pause-under : (f : ℕ → ℕ) (bytes : ℕ → List ℕ) (node : Source) → source.pause (source_under f node) ≡ map_ok (source_acted_under f bytes) (source.pause node)
pause-under f bytes node = in_phase-map (source_acted_under f bytes) (is_under_way node && not (is_source_paused node.phase)) (acted (Effect.Noticed Side.Source) (source_paused node)) _ refl

pub resume-under : (f : ℕ → ℕ) (bytes : ℕ → List ℕ) (node : Source) → source.resume (source_under f node) ≡ map_ok (source_sends_under f bytes) (source.resume node)
resume-under f bytes node = unless-map (source_sends_under f bytes) _ (sent (Effect.Resumed (node.epoch + 1)) (Resume ∷ []) (resumed node)) _ refl
