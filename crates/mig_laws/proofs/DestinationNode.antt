-- The steps of a destination once all contents are changed.
use Rattle.std.proofs.Common.{◌≡◌, ℕ, ◌+◌, ◌*◌, ◌&&◌, Bool, true, false, cond, not, Option, Some, None, List, [], ◌∷◌, ◌++◌, map, refl, sym, ap, ◌∙◌}
use Rattle.std.specs.Prelude.{ok_or}
use Rattle.std.specs.Option.{option_map}
use Rattle.std.specs.Ordering.{nat_cmp}
use Rattle.std.specs.FinMap as finmap
use Rattle.std.specs.FinMap.{FinMap, get}
use Rattle.std.specs.FinSet.{FinSet, contains}
use Rattle.std.proofs.lemmas.List.{map-append}
use Rattle.mig_base.specs.Bytes.{zero_page}
use Rattle.foundation.specs.Tests.{is_empty}
use Rattle.mig_base.specs.declared.Prot.{Prot}
use Rattle.mig_base.specs.declared.command.Command.{Command}
use Rattle.mig_base.specs.declared.effect.Effect.{Effect}
use Rattle.mig_base.specs.declared.phase.DestPhase.{DestPhase}
use Rattle.mig_base.specs.declared.phase.Received.{Received}
use Rattle.mig_base.specs.declared.refusal.Refusal.{Refusal}
use Rattle.mig_base.specs.declared.schedule.Side.{Side}
use Rattle.mig_base.specs.Userfault.{Noted, next_message}
use Rattle.mig_model.specs.Cpus.{taken_over}
use Rattle.mig_model.specs.Destination.{Destination, act_frames, copy_came, destination_act, destination_act_by, destination_acted, destination_acted_by, destination_answers, destination_paused, destination_ran, destination_read, destination_took, install_by, is_dest_paused, recv_by, received_of, resumed_by, urgent_came, urgent_took}
use Rattle.mig_model.specs.DestinationSteps as destination
use Rattle.mig_base.specs.Acts.{act_effect}
use Rattle.mig_model.specs.Effects.{frame_effect, install_effect, read_effect}
use Rattle.mig_model.specs.Faults.{is_early, is_end}
use Rattle.mig_base.specs.declared.act.Act.{Act}
use Rattle.mig_model.specs.Guest.{Fault, Guest, is_forgotten}
use Rattle.mig_base.specs.declared.act.Act.TheVariants.{Unprotected, Zeroed, Woke, Forgot, Requested}
use Rattle.mig_model.specs.GuestSteps.{when_quiet}
use Rattle.mig_model.specs.NodeSteps.{acted, and_then, first_of, rest_of, sent, unless}
use Rattle.mig_model.specs.Owed.{home, origins}
use Rattle.mig_model.specs.Wire.{Copy, Frame, is_zeros, kept_with, run_copies}
use Rattle.mig_model.specs.Wire.Frame.{Advise, Page, Zero, Run, Discard, Package, End, Resume, Request, Recv, Done}
use Rattle.mig_laws.specs.Contents.{command_under, cpu_under, guest_under, pages_under}
use Rattle.mig_laws.specs.Nodes.{destination_acted_under, destination_sends_under, map_ok}
use Rattle.mig_laws.specs.Worlds.{IsWholeFrame, bytes_in, copy_under, destination_under, effect_under, frame_under}
use Rattle.mig_laws.proofs.Frames.{copy_of_page, frame_effect-under, kept_with-under, run_copies-under}
use Rattle.mig_laws.proofs.GuestSteps.{read_effect-under, read_guest-under, resolved-under, when_quiet-under}
use Rattle.mig_laws.proofs.Hosts.{zeros-under}
use Rattle.mig_laws.proofs.ObjectCalls.{installed-under, present-under, zero_installed-under}
use Rattle.mig_laws.proofs.PageMaps.{map_values-empty, map_values-insert, map_values-retain_keys}
use Rattle.mig_laws.proofs.SourceNode.{act_effect-under}
use Rattle.mig_laws.proofs.StepForms.{and_then-map, and_then-same, first_of-map, in_phase-map, is_empty-map, map-twice, rest_of-map, unless-map}

-- the node with another guest
abbrev with_guest : Destination → Guest → Destination
with_guest node guest = record node { guest = guest }

-- Its handler

read-left : (f : ℕ → ℕ) (node : Destination) (noted : Noted) → destination_read (destination_under f node) noted ≡ destination_under f (destination_read node noted)
read-left f node noted = ap (λ (g : Guest). with_guest (destination_under f (destination_read node noted)) g) (read_guest-under f node.guest noted.cpu noted.message)

pub read-under : (f : ℕ → ℕ) (bytes : ℕ → List ℕ) (node : Destination) → destination.read (destination_under f node) ≡ map_ok (destination_acted_under f bytes) (destination.read node)
read-under f bytes node =
    let step = λ (noted : Noted). acted (read_effect node.guest.cpus noted.cpu noted.message) (destination_read node noted) in
    in_phase-map (destination_acted_under f bytes) node.has_run (and_then (ok_or (next_message node.guest.space.object) Refusal.NothingThere) step) _
    (and_then-same (destination_acted_under f bytes) (ok_or (next_message node.guest.space.object) Refusal.NothingThere) step _
    (λ noted i. acted (read_effect-under f bytes node.guest.cpus noted.cpu noted.message i) (read-left f node noted i)))

act-same : (f : ℕ → ℕ) (node : Destination) (fault : Fault) → destination_act (destination_under f node) fault ≡ destination_act node fault
act-same f node fault =
    ap (λ b. destination_act_by (is_forgotten node.guest.space fault.page) b (get node.owed fault.page)) (present-under f node.guest.space fault.page)

woken : (f : ℕ → ℕ) (node : Destination) (page : ℕ) → destination_acted_by Woke (destination_under f node) page ≡ destination_under f (destination_acted_by Woke node page)
woken f node page = ap (λ (g : Guest). with_guest (destination_under f (destination_acted_by Woke node page)) g) (resolved-under f node.guest page node.guest.space _ refl)

acted_by-under : (f : ℕ → ℕ) → f 0 ≡ 0 → (act : Act) (node : Destination) (page : ℕ) → destination_acted_by act (destination_under f node) page ≡ destination_under f (destination_acted_by act node page)
acted_by-under f h Zeroed node page =
    ap (λ (g : Guest). with_guest (destination_under f (destination_acted_by Zeroed node page)) g) (resolved-under f node.guest page _ _ (zero_installed-under f h node.guest.space page))
acted_by-under f h (Requested origin) node page = refl
acted_by-under f h Woke node page = woken f node page
acted_by-under f h Forgot node page = woken f node page
acted_by-under f h Unprotected node page = woken f node page

asks : (f : ℕ → ℕ) (b : Bool) (origin : ℕ) → cond b [] (Request origin ∷ []) ≡ map (frame_under f) (cond b [] (Request origin ∷ []))
asks f true origin = refl
asks f false origin = refl

act_frames-under : (f : ℕ → ℕ) (act : Act) (node : Destination) → act_frames act (destination_under f node) ≡ map (frame_under f) (act_frames act node)
act_frames-under f (Requested origin) node = asks f _ origin
act_frames-under f Zeroed node = refl
act_frames-under f Woke node = refl
act_frames-under f Forgot node = refl
act_frames-under f Unprotected node = refl

acts : (f : ℕ → ℕ) → f 0 ≡ 0 → (bytes : ℕ → List ℕ) (node : Destination) (fault : Fault) →
    sent (act_effect (destination_act (destination_under f node) fault) (4096 * fault.page)) (act_frames (destination_act (destination_under f node) fault) (destination_under f node)) (destination_acted (destination_under f node) fault)
    ≡ map_ok (destination_sends_under f bytes) (sent (act_effect (destination_act node fault) (4096 * fault.page)) (act_frames (destination_act node fault) node) (destination_acted node fault))
acts f h bytes node fault =
    let act = destination_act node fault in
    let new = destination_under f node in
    let effect = act_effect-under f bytes act (4096 * fault.page) in
    let frames = act_frames-under f act node in
    let left = acted_by-under f h act node fault.page in
    ap (λ (a : Act). sent (act_effect a (4096 * fault.page)) (act_frames a new) (destination_acted_by a new fault.page)) (act-same f node fault) ∙ (λ i. sent (effect i) (frames i) (left i))

pub act-under : (f : ℕ → ℕ) → f 0 ≡ 0 → (bytes : ℕ → List ℕ) (node : Destination) → destination.act (destination_under f node) ≡ map_ok (destination_sends_under f bytes) (destination.act node)
act-under f h bytes node =
    let step = λ (fault : Fault). sent (act_effect (destination_act node fault) (4096 * fault.page)) (act_frames (destination_act node fault) node) (destination_acted node fault) in
    in_phase-map (destination_sends_under f bytes) node.has_run (and_then (when_quiet node.guest (first_of node.held)) step) _
    (and_then-same (destination_sends_under f bytes) (when_quiet node.guest (first_of node.held)) step _ (acts f h bytes node))

-- Install

install_by-under : (f : ℕ → ℕ) (o : Option ℕ) (node : Destination) (copy : Copy) (rest : List Copy) → install_by o (destination_under f node) (copy_under f copy) (map (copy_under f) rest) ≡ destination_under f (install_by o node copy rest)
install_by-under f None node copy rest = refl
install_by-under f (Some page) node copy rest =
    ap (λ (g : Guest). with_guest (destination_under f (install_by (Some page) node copy rest)) g)
    (resolved-under f node.guest page _ _ (installed-under f node.guest.space page 1 (λ i. copy.bytes) (λ i. map f copy.bytes) false refl))

install_effect-under : (f : ℕ → ℕ) (bytes : ℕ → List ℕ) (o : Option ℕ) (origin : ℕ) → install_effect o origin ≡ effect_under f bytes (install_effect o origin)
install_effect-under f bytes None origin = refl
install_effect-under f bytes (Some page) origin = refl

installs : (f : ℕ → ℕ) (bytes : ℕ → List ℕ) (node : Destination) (copy : Copy) →
    acted (install_effect (home node.owed copy.page) copy.page) (install_by (home node.owed copy.page) (destination_under f node) (copy_under f copy) (rest_of (map (copy_under f) node.arrivals)))
    ≡ map_ok (destination_acted_under f bytes) (acted (install_effect (home node.owed copy.page) copy.page) (install_by (home node.owed copy.page) node copy (rest_of node.arrivals)))
installs f bytes node copy =
    let effect = install_effect-under f bytes (home node.owed copy.page) copy.page in
    let left = install_by-under f (home node.owed copy.page) node copy (rest_of node.arrivals) in
    ap (λ (rest : List Copy). acted (install_effect (home node.owed copy.page) copy.page) (install_by (home node.owed copy.page) (destination_under f node) (copy_under f copy) rest)) (rest_of-map (copy_under f) node.arrivals)
    ∙ (λ i. acted (effect i) (left i))

pub install-under : (f : ℕ → ℕ) (bytes : ℕ → List ℕ) (node : Destination) → destination.install (destination_under f node) ≡ map_ok (destination_acted_under f bytes) (destination.install node)
install-under f bytes node =
    let step = λ (copy : Copy). acted (install_effect (home node.owed copy.page) copy.page) (install_by (home node.owed copy.page) node copy (rest_of node.arrivals)) in
    let found = ap (λ (o : Option Copy). when_quiet (guest_under f node.guest) o) (first_of-map (copy_under f) node.arrivals) ∙ when_quiet-under f (copy_under f) node.guest (first_of node.arrivals) in
    in_phase-map (destination_acted_under f bytes) node.has_run (and_then (when_quiet node.guest (first_of node.arrivals)) step) _
    (and_then-map (copy_under f) (destination_acted_under f bytes) (when_quiet node.guest (first_of node.arrivals)) _ step _ found (installs f bytes node))

-- Frames

came-under : (f : ℕ → ℕ) (ran : Bool) (node : Destination) (page : ℕ) (bytes new : List ℕ) → new ≡ map f bytes →
    copy_came ran (destination_under f node) (record { page = page; bytes = new }) ≡ destination_under f (copy_came ran node (record { page = page; bytes = bytes }))
came-under f true node page bytes new h =
    ap (λ (b : List ℕ). record (destination_under f node) { arrivals = map (copy_under f) node.arrivals ++ record { page = page; bytes = b } ∷ [] }) h
    ∙ ap (λ (l : List Copy). record (destination_under f node) { arrivals = l }) (sym (map-append (copy_under f) node.arrivals (record { page = page; bytes = bytes } ∷ [])))
came-under f false node page bytes new h =
    ap (λ (b : List ℕ). record (destination_under f node) { kept = finmap.insert (pages_under f node.kept) page b }) h
    ∙ ap (λ (k : FinMap nat_cmp (List ℕ)). record (destination_under f node) { kept = k }) (sym (map_values-insert (map f) node.kept page bytes))

page_came : (f : ℕ → ℕ) (node : Destination) (epoch page : ℕ) (bytes : List ℕ) (zeros : Bool) → (zeros ≡ true → zero_page ≡ map f bytes) →
    destination_took (destination_under f node) epoch (cond zeros (Zero page) (Page page (map f bytes))) ≡ destination_under f (destination_took node epoch (Page page bytes))
page_came f node epoch page bytes true same = came-under f node.has_run node page bytes zero_page (same refl)
page_came f node epoch page bytes false same = came-under f node.has_run node page bytes (map f bytes) refl

none_kept : (f : ℕ → ℕ) → pages_under f finmap.empty ≡ finmap.empty
none_kept f = map_values-empty (map f)

resumed-under : (f : ℕ → ℕ) (state : Received) (node : Destination) → resumed_by state (destination_under f node) ≡ destination_under f (resumed_by state node)
resumed-under f Received.NotRun node = ap (λ (k : FinMap nat_cmp (List ℕ)). record (destination_under f node) { phase = DestPhase.Advised; kept = k }) (sym (none_kept f))
resumed-under f Received.Running node = refl
resumed-under f Received.Ended node = refl

taken_over-under : (f : ℕ → ℕ) (o : Option Command) → taken_over (option_map (command_under f) o) ≡ cpu_under f (taken_over o)
taken_over-under f None = refl
taken_over-under f (Some command) = refl

ran-under : (f : ℕ → ℕ) (node : Destination) (areas : FinMap nat_cmp Prot) (owed : FinSet nat_cmp) (commands : List (Option Command)) →
    destination_ran (destination_under f node) areas owed (map (option_map (command_under f)) commands) ≡ destination_under f (destination_ran node areas owed commands)
ran-under f node areas owed commands =
    let new = destination_under f (destination_ran node areas owed commands) in
    let none = sym (none_kept f) in
    let cpus = map-twice (option_map (command_under f)) taken_over taken_over (cpu_under f) (taken_over-under f) commands in
    λ i. record new { kept = none i; guest = record new.guest { cpus = cpus i } }

took-under : (f : ℕ → ℕ) → f 0 ≡ 0 → (node : Destination) (epoch : ℕ) (frame : Frame) → IsWholeFrame frame → destination_took (destination_under f node) epoch (frame_under f frame) ≡ destination_under f (destination_took node epoch frame)
took-under f h node epoch Advise whole = refl
took-under f h node epoch (Page page bytes) whole = page_came f node epoch page bytes (is_zeros (map f bytes)) (copy_of_page f bytes whole.0.0)
took-under f h node epoch (Zero page) whole = came-under f node.has_run node page zero_page zero_page (sym (zeros-under f h))
took-under f h node epoch (Run first pages) whole =
    ap (λ (copies : List Copy). record (destination_under f node) { kept = kept_with (pages_under f node.kept) copies }) (run_copies-under f first pages)
    ∙ ap (λ (k : FinMap nat_cmp (List ℕ)). record (destination_under f node) { kept = k }) (kept_with-under f node.kept (run_copies first pages))
took-under f h node epoch (Discard pages) whole =
    ap (λ (k : FinMap nat_cmp (List ℕ)). record (destination_under f node) { phase = DestPhase.Discarding; kept = k }) (sym (map_values-retain_keys (map f) node.kept (λ page. not (contains pages page))))
took-under f h node epoch (Package areas owed commands) whole = ran-under f node areas owed commands
took-under f h node epoch (End urgent) whole = refl
took-under f h node epoch Resume whole = resumed-under f (received_of node) (record node { epoch = epoch; urgent_taken = 0 })
took-under f h node epoch (Request page) whole = refl
took-under f h node epoch (Recv state owed) whole = refl
took-under f h node epoch Done whole = refl

requests-under : (f : ℕ → ℕ) (requests : List ℕ) → map Request requests ≡ map (frame_under f) (map Request requests)
requests-under f [] = refl
requests-under f (request ∷ requests) = ap (λ (l : List Frame). Request request ∷ l) (requests-under f requests)

recv-under : (f : ℕ → ℕ) (state : Received) (node : Destination) → recv_by state (destination_under f node) ≡ map (frame_under f) (recv_by state node)
recv-under f Received.NotRun node = refl
recv-under f Received.Running node = ap (λ (l : List Frame). Recv Received.Running (origins node.owed) ∷ l) (requests-under f node.requests)
recv-under f Received.Ended node = refl

unanswered : (f : ℕ → ℕ) (node : Destination) (page : ℕ) (bytes : List ℕ) (zeros : Bool) → destination_answers (destination_under f node) (cond zeros (Zero page) (Page page bytes)) ≡ []
unanswered f node page bytes true = refl
unanswered f node page bytes false = refl

answers-under : (f : ℕ → ℕ) (node : Destination) (frame : Frame) → destination_answers (destination_under f node) (frame_under f frame) ≡ map (frame_under f) (destination_answers node frame)
answers-under f node Advise = refl
answers-under f node (Page page bytes) = unanswered f node page (map f bytes) (is_zeros (map f bytes))
answers-under f node (Zero page) = refl
answers-under f node (Run first pages) = refl
answers-under f node (Discard pages) = refl
answers-under f node (Package areas owed commands) = refl
answers-under f node (End urgent) = refl
answers-under f node Resume = recv-under f (received_of node) node
answers-under f node (Request page) = refl
answers-under f node (Recv state owed) = refl
answers-under f node Done = refl

no_end : (page : ℕ) (bytes : List ℕ) (zeros : Bool) → is_end (cond zeros (Zero page) (Page page bytes)) ≡ false
no_end page bytes true = refl
no_end page bytes false = refl

pub is_end-under : (f : ℕ → ℕ) (frame : Frame) → is_end (frame_under f frame) ≡ is_end frame
is_end-under f (Page page bytes) = no_end page (map f bytes) (is_zeros (map f bytes))
is_end-under f (Run first pages) = refl
is_end-under f (Package areas owed commands) = refl
is_end-under f _ = refl

not_early : (node : Destination) (page : ℕ) (bytes : List ℕ) (zeros : Bool) → is_early node (cond zeros (Zero page) (Page page bytes)) ≡ false
not_early node page bytes true = refl
not_early node page bytes false = refl

is_early-under : (f : ℕ → ℕ) (node : Destination) (frame : Frame) → is_early (destination_under f node) (frame_under f frame) ≡ is_early node frame
is_early-under f node (Page page bytes) = not_early (destination_under f node) page (map f bytes) (is_zeros (map f bytes))
is_early-under f node (Run first pages) = refl
is_early-under f node (Package areas owed commands) = refl
is_early-under f node _ = refl

pub take-under : (f : ℕ → ℕ) → f 0 ≡ 0 → (node : Destination) (epoch : ℕ) (frame : Frame) → IsWholeFrame frame → destination.take (destination_under f node) epoch (frame_under f frame) ≡ map_ok (destination_sends_under f (λ addr. bytes_in frame)) (destination.take node epoch frame)
take-under f h node epoch frame whole =
    let new = frame_under f frame in
    let there = destination_under f node in
    let result = sent (frame_effect new) (destination_answers there new) (destination_took there epoch new) in
    let effect = frame_effect-under f frame in
    let answers = answers-under f node frame in
    let left = took-under f h node epoch frame whole in
    ap (λ (b : Bool). unless ((b && not (is_empty (map (copy_under f) node.arrivals)), Refusal.InstallFirst) ∷ (is_early there new, Refusal.UrgentFirst) ∷ []) result) (is_end-under f frame)
    ∙ ap (λ (b : Bool). unless ((is_end frame && not b, Refusal.InstallFirst) ∷ (is_early there new, Refusal.UrgentFirst) ∷ []) result) (is_empty-map (copy_under f) node.arrivals)
    ∙ ap (λ (b : Bool). unless ((is_end frame && not (is_empty node.arrivals), Refusal.InstallFirst) ∷ (b, Refusal.UrgentFirst) ∷ []) result) (is_early-under f node frame)
    ∙ unless-map (destination_sends_under f (λ addr. bytes_in frame)) _ (sent (frame_effect frame) (destination_answers node frame) (destination_took node epoch frame)) _ (λ i. sent (effect i) (answers i) (left i))

urgent_came-under : (f : ℕ → ℕ) (node : Destination) (page : ℕ) (bytes new : List ℕ) → new ≡ map f bytes →
    urgent_came (destination_under f node) (record { page = page; bytes = new }) ≡ destination_under f (urgent_came node (record { page = page; bytes = bytes }))
urgent_came-under f node page bytes new h = ap (λ (d : Destination). record d { urgent_taken = node.urgent_taken + 1 }) (came-under f true node page bytes new h)

urgent_page : (f : ℕ → ℕ) (node : Destination) (page : ℕ) (bytes : List ℕ) (zeros : Bool) → (zeros ≡ true → zero_page ≡ map f bytes) →
    urgent_took (destination_under f node) (cond zeros (Zero page) (Page page (map f bytes))) ≡ destination_under f (urgent_took node (Page page bytes))
urgent_page f node page bytes true same = urgent_came-under f node page bytes zero_page (same refl)
urgent_page f node page bytes false same = urgent_came-under f node page bytes (map f bytes) refl

urgent-under : (f : ℕ → ℕ) → f 0 ≡ 0 → (node : Destination) (frame : Frame) → IsWholeFrame frame → urgent_took (destination_under f node) (frame_under f frame) ≡ destination_under f (urgent_took node frame)
urgent-under f h node (Page page bytes) whole = urgent_page f node page bytes (is_zeros (map f bytes)) (copy_of_page f bytes whole.0.0)
urgent-under f h node (Zero page) whole = urgent_came-under f node page zero_page zero_page (sym (zeros-under f h))
urgent-under f h node (Run first pages) whole = refl
urgent-under f h node (Package areas owed commands) whole = refl
urgent-under f h node _ whole = refl

pub take_urgent-under : (f : ℕ → ℕ) → f 0 ≡ 0 → (node : Destination) (frame : Frame) → IsWholeFrame frame → destination.take_urgent (destination_under f node) (frame_under f frame) ≡ map_ok (destination_acted_under f (λ addr. bytes_in frame)) (destination.take_urgent node frame)
take_urgent-under f h node frame whole =
    let effect = frame_effect-under f frame in
    let left = urgent-under f h node frame whole in
    λ i. acted (effect i) (left i)

-- A broken channel

pub pause-under : (f : ℕ → ℕ) (bytes : ℕ → List ℕ) (node : Destination) → destination.pause (destination_under f node) ≡ map_ok (destination_acted_under f bytes) (destination.pause node)
pause-under f bytes node = in_phase-map (destination_acted_under f bytes) (not (is_dest_paused node.phase)) (acted (Effect.Noticed Side.Destination) (destination_paused node)) _ refl
