-- A line of a destination that holds all bytes does to them what a driver does.
use Rattle.std.proofs.Common.{◌≡◌, ℕ, ◌*◌, not, Bool, true, false, cond, Option, Some, None, List, [], ◌∷◌, ◌++◌, map, refl, sym, ap, subst, ◌∙◌}
use Rattle.std.specs.Prelude.{Ok, ok_or}
use Rattle.std.proofs.lemmas.List.{append-nil}
use Rattle.std.specs.FinMap as finmap
use Rattle.mig_base.specs.Acts.{act_effect}
use Rattle.mig_base.specs.Bytes.{zero_page}
use Rattle.mig_base.specs.Commands.{is_access}
use Rattle.mig_base.specs.Userfault.{next_message}
use Rattle.mig_base.specs.declared.act.Act.{Act}
use Rattle.mig_base.specs.declared.act.Act.TheVariants.{Unprotected, Zeroed, Woke, Forgot, Requested}
use Rattle.mig_base.specs.declared.command.Command.{Command}
use Rattle.mig_base.specs.declared.command.Entry.{Entry}
use Rattle.mig_base.specs.declared.phase.Received.{Received}
use Rattle.mig_base.specs.declared.refusal.Refusal.{Refusal}
use Rattle.mig_base.specs.declared.schedule.Side.{Side}
use Rattle.mig_base.specs.declared.schedule.Step.{Step}
use Rattle.mig_model.specs.Cpus.{entries_of, idle_answer, taken_over, woken_answer}
use Rattle.mig_model.specs.Destination.{Destination, act_frames, copy_came, destination_act, destination_acted_by, destination_answers, destination_took, install_by, is_dest_paused, received_by, recv_by, received_of, resumed_by, urgent_took}
use Rattle.mig_model.specs.DestinationSteps as destination
use Rattle.mig_model.specs.Effects.{install_effect, try_effect}
use Rattle.mig_model.specs.Guest.{took_by, tried}
use Rattle.mig_model.specs.GuestSteps.{issue, retry, when_quiet}
use Rattle.mig_model.specs.NodeSteps.{first_of, rest_of}
use Rattle.mig_model.specs.Owed.{home, origins}
use Rattle.mig_model.specs.Source.{commands_of}
use Rattle.mig_model.specs.Wire.{Copy, Frame}
use Rattle.mig_model.specs.Wire.Frame.{Advise, Page, Zero, Run, Discard, Package, End, Resume, Request, Recv, Done}
use Rattle.mig_model.proofs.steps.StepLemmas.{first_and_rest, holds-and_then, holds-in_phase, holds-unless, holds-when_quiet}
use Rattle.mig_laws.specs.Drivers.{Held, There, comes, no_byte, puts, takes, there_after, zeroes}
use Rattle.mig_laws.specs.Sides.{Did, Line, acts, destination_line, sends}
use Rattle.mig_laws.specs.Worlds.{AreWholeCopies, IsWholeFrame, frame_under}
use Rattle.mig_laws.proofs.AcceptedSteps.{ok-holds}
use Rattle.mig_laws.proofs.HeldGuests.{held_of, put_one, read_waits, still, tried-held, page_woken}
use Rattle.mig_laws.proofs.HeldSource.{each-is, retried-held}
use Rattle.mig_laws.proofs.OrderRuns.{each, never, over_map}
use Rattle.mig_laws.proofs.WholePages.{tried_whole}
use Rattle.mig_laws.proofs.WholeWorlds.{AllWhole, HasWholeCopies, act_frames_whole, acted_whole, installed_whole, there_answers_whole, took_whole, urgent_whole}

-- all that a driver has of a destination which holds all bytes
abbrev pub there_of : Destination → List Entry → There
there_of node entries = record { held = held_of node.guest entries; kept = node.kept; came = node.arrivals }

-- what holds of a line of a destination whose guest has entered these entries so far
pub record LineThere (node : Destination) (line : Line) (entries : List Entry) (did : Did Destination) : Type 0 where
  pub there : there_after line did.effect node (there_of node entries) ≡ there_of did.node (entries ++ did.entries)
  pub whole : HasWholeCopies did.node
  pub whole_frames : AllWhole did.frames
  -- what it sends has no bytes
  pub bare : map (frame_under no_byte) did.frames ≡ did.frames

-- the same destination with nothing more entered
calm : (node : Destination) (entries : List Entry) → there_of node entries ≡ there_of node (entries ++ [])
calm node entries = λ i. there_of node (sym (append-nil entries) i)

-- Frames without bytes

asked-bare : (b : Bool) (origin : ℕ) → map (frame_under no_byte) (cond b [] (Request origin ∷ [])) ≡ cond b [] (Request origin ∷ [])
asked-bare true origin = refl
asked-bare false origin = refl

act-bare : (act : Act) (node : Destination) → map (frame_under no_byte) (act_frames act node) ≡ act_frames act node
act-bare (Requested origin) node = asked-bare _ origin
act-bare Unprotected node = refl
act-bare Zeroed node = refl
act-bare Woke node = refl
act-bare Forgot node = refl

requests-bare : (requests : List ℕ) → map (frame_under no_byte) (map Request requests) ≡ map Request requests
requests-bare [] = refl
requests-bare (request ∷ requests) = ap (λ (frames : List Frame). Request request ∷ frames) (requests-bare requests)

recv-bare : (state : Received) (node : Destination) → map (frame_under no_byte) (recv_by state node) ≡ recv_by state node
recv-bare Received.NotRun node = refl
recv-bare Received.Running node = ap (λ (frames : List Frame). Recv Received.Running (origins node.owed) ∷ frames) (requests-bare node.requests)
recv-bare Received.Ended node = refl

answers-bare : (node : Destination) (frame : Frame) → map (frame_under no_byte) (destination_answers node frame) ≡ destination_answers node frame
answers-bare node (End urgent) = refl
answers-bare node Resume = recv-bare (received_of node) node
answers-bare node Advise = refl
answers-bare node (Page page bytes) = refl
answers-bare node (Zero page) = refl
answers-bare node (Run first pages) = refl
answers-bare node (Discard pages) = refl
answers-bare node (Package areas owed commands) = refl
answers-bare node (Request page) = refl
answers-bare node (Recv state owed) = refl
answers-bare node Done = refl

-- Commands

try-there : (node : Destination) (cpu : ℕ) (command : Command) (line : Line) (entries : List Entry) → HasWholeCopies node →
    there_after line (try_effect cpu (took_by (is_access command) node.guest.space command)) node (there_of node entries)
    ≡ record (there_of node entries) { held = held_of (tried (is_access command) node.guest cpu command) (entries ++ entries_of cpu command (took_by (is_access command) node.guest.space command)) } →
    LineThere node line entries
    (record {
      effect = try_effect cpu (took_by (is_access command) node.guest.space command);
      frames = [];
      urgent = [];
      entries = entries_of cpu command (took_by (is_access command) node.guest.space command);
      node = record node { guest = tried (is_access command) node.guest cpu command };
    })
try-there node cpu command line entries whole is =
    record {
      there = is;
      whole = record { memory = tried_whole (is_access command) node.guest cpu command whole.memory; kept = whole.kept; arrivals = whole.arrivals };
      whole_frames = tt;
      bare = refl;
    }

-- The handler

acted-there : (act : Act) (node : Destination) (page : ℕ) (entries : List Entry) → zeroes (act_effect act (4096 * page)) (held_of node.guest entries) ≡ held_of (destination_acted_by act node page).guest (entries ++ [])
acted-there Unprotected node page entries = still node.guest (destination_acted_by Unprotected node page).guest entries refl (page_woken page node.guest.cpus)
acted-there Zeroed node page entries = λ i. record { pages = put_one node.guest.space.host.bytes page zero_page i; waits = sym (page_woken page node.guest.cpus) i; entries = sym (append-nil entries) i }
acted-there Woke node page entries = still node.guest (destination_acted_by Woke node page).guest entries refl (page_woken page node.guest.cpus)
acted-there Forgot node page entries = still node.guest (destination_acted_by Forgot node page).guest entries refl (page_woken page node.guest.cpus)
acted-there (Requested origin) node page entries = still node.guest (destination_acted_by (Requested origin) node page).guest entries refl refl

acted-kept : (act : Act) (node : Destination) (page : ℕ) → (destination_acted_by act node page).kept ≡ node.kept
acted-kept Unprotected node page = refl
acted-kept Zeroed node page = refl
acted-kept Woke node page = refl
acted-kept Forgot node page = refl
acted-kept (Requested origin) node page = refl

acted-came : (act : Act) (node : Destination) (page : ℕ) → (destination_acted_by act node page).arrivals ≡ node.arrivals
acted-came Unprotected node page = refl
acted-came Zeroed node page = refl
acted-came Woke node page = refl
acted-came Forgot node page = refl
acted-came (Requested origin) node page = refl

-- the first copy is put, or dropped
put-there : (o : Option ℕ) (node : Destination) (copy : Copy) (rest : List Copy) (entries : List Entry) → puts (install_effect o copy.page) (copy ∷ rest) (there_of node entries) ≡ there_of (install_by o node copy rest) (entries ++ [])
put-there (Some page) node copy rest entries =
    λ i. record {
      held = record { pages = put_one node.guest.space.host.bytes page copy.bytes i; waits = sym (page_woken page node.guest.cpus) i; entries = sym (append-nil entries) i };
      kept = node.kept;
      came = rest;
    }
put-there None node copy rest entries = λ i. record { held = held_of node.guest (sym (append-nil entries) i); kept = node.kept; came = rest }

install-there : (node : Destination) (copy : Copy) (entries : List Entry) → HasWholeCopies node → first_of node.arrivals ≡ Some copy →
    LineThere node (Line.Made Step.Install) entries
    (record { effect = install_effect (home node.owed copy.page) copy.page; frames = []; urgent = []; entries = []; node = install_by (home node.owed copy.page) node copy (rest_of node.arrivals) })
install-there node copy entries whole first =
    let is = first_and_rest node.arrivals copy first in
    record {
      there = ap (λ (came : List Copy). puts (install_effect (home node.owed copy.page) copy.page) came (there_of node entries)) is ∙ put-there (home node.owed copy.page) node copy (rest_of node.arrivals) entries;
      whole = installed_whole (home node.owed copy.page) node copy (rest_of node.arrivals) (subst AreWholeCopies is whole.arrivals) whole;
      whole_frames = tt;
      bare = refl;
    }

-- Frames

resumed-there : (ended : Bool) (node : Destination) (epoch : ℕ) (entries : List Entry) → there_of node entries ≡ there_of (resumed_by (received_by true ended) (record node { epoch = epoch; urgent_taken = 0 })) entries
resumed-there true node epoch entries = refl
resumed-there false node epoch entries = refl

taken-waits : (commands : List (Option Command)) → commands_of (map taken_over commands) ≡ commands
taken-waits [] = refl
taken-waits (None ∷ commands) = λ i. None ∷ taken-waits commands i
taken-waits (Some command ∷ commands) = λ i. Some command ∷ taken-waits commands i

-- a destination that has run, or has not, and takes a frame
took-there : (ran : Bool) (node : Destination) (epoch : ℕ) (frame : Frame) (entries : List Entry) → node.has_run ≡ ran → takes ran frame (there_of node entries) ≡ there_of (destination_took node epoch frame) entries
took-there true node epoch Advise entries is = refl
took-there false node epoch Advise entries is = refl
took-there true node epoch (Page page bytes) entries is = ap (λ b. there_of (copy_came b node (record { page = page; bytes = bytes })) entries) (sym is)
took-there false node epoch (Page page bytes) entries is = ap (λ b. there_of (copy_came b node (record { page = page; bytes = bytes })) entries) (sym is)
took-there true node epoch (Zero page) entries is = ap (λ b. there_of (copy_came b node (record { page = page; bytes = zero_page })) entries) (sym is)
took-there false node epoch (Zero page) entries is = ap (λ b. there_of (copy_came b node (record { page = page; bytes = zero_page })) entries) (sym is)
took-there true node epoch (Run first pages) entries is = refl
took-there false node epoch (Run first pages) entries is = refl
took-there true node epoch (Discard pages) entries is = refl
took-there false node epoch (Discard pages) entries is = refl
took-there true node epoch (Package areas owed commands) entries is = λ i. record { held = record { pages = node.kept; waits = sym (taken-waits commands) i; entries = entries }; kept = finmap.empty; came = node.arrivals }
took-there false node epoch (Package areas owed commands) entries is = λ i. record { held = record { pages = node.kept; waits = sym (taken-waits commands) i; entries = entries }; kept = finmap.empty; came = node.arrivals }
took-there true node epoch (End urgent) entries is = refl
took-there false node epoch (End urgent) entries is = refl
took-there true node epoch Resume entries is =
    resumed-there node.ended node epoch entries ∙ ap (λ b. there_of (resumed_by (received_by b node.ended) (record node { epoch = epoch; urgent_taken = 0 })) entries) (sym is)
took-there false node epoch Resume entries is = ap (λ b. there_of (resumed_by (received_by b node.ended) (record node { epoch = epoch; urgent_taken = 0 })) entries) (sym is)
took-there true node epoch (Request page) entries is = refl
took-there false node epoch (Request page) entries is = refl
took-there true node epoch (Recv state owed) entries is = refl
took-there false node epoch (Recv state owed) entries is = refl
took-there true node epoch Done entries is = refl
took-there false node epoch Done entries is = refl

came-there : (node : Destination) (frame : Frame) (entries : List Entry) → comes frame (there_of node entries) ≡ there_of (urgent_took node frame) entries
came-there node Advise entries = refl
came-there node (Page page bytes) entries = refl
came-there node (Zero page) entries = refl
came-there node (Run first pages) entries = refl
came-there node (Discard pages) entries = refl
came-there node (Package areas owed commands) entries = refl
came-there node (End urgent) entries = refl
came-there node Resume entries = refl
came-there node (Request page) entries = refl
came-there node (Recv state owed) entries = refl
came-there node Done entries = refl

-- Every line

step-there : (node : Destination) (step : Step) (entries : List Entry) (did : Did Destination) → HasWholeCopies node → destination_line node (Line.Made step) ≡ Ok did → LineThere node (Line.Made step) entries did
step-there node (Step.Issue cpu command) entries did whole gives =
    ok-holds (LineThere node (Line.Made (Step.Issue cpu command)) entries) (destination_line node (Line.Made (Step.Issue cpu command))) did
    (over_map _ _ (issue node.guest node.has_run cpu command)
    (holds-and_then _ (idle_answer node.guest.cpus cpu) _ (each _ (idle_answer node.guest.cpus cpu) (λ idle.
    holds-in_phase _ node.has_run _ (λ runs.
    try-there node cpu command _ entries whole (ap (λ (held : Held). record (there_of node entries) { held = held }) (tried-held (is_access command) node.guest cpu command entries))))))) gives
step-there node (Step.Retry cpu) entries did whole gives =
    ok-holds (LineThere node (Line.Made (Step.Retry cpu)) entries) (destination_line node (Line.Made (Step.Retry cpu))) did
    (over_map _ _ (retry node.guest node.has_run cpu)
    (holds-and_then _ (woken_answer node.guest.cpus cpu) _ (each-is _ (woken_answer node.guest.cpus cpu) (λ command woken.
    holds-in_phase _ node.has_run _ (λ runs.
    try-there node cpu command _ entries whole
    (ap (λ (held : Held). record (there_of node entries) { held = held }) (retried-held node.guest cpu command entries _ _ woken (tried-held (is_access command) node.guest cpu command entries)))))))) gives
step-there node Step.DestRead entries did whole gives =
    ok-holds (LineThere node (Line.Made Step.DestRead) entries) (acts (destination.read node)) did
    (over_map _ _ (destination.read node)
    (holds-in_phase _ node.has_run _ (λ ran.
    holds-and_then _ (ok_or (next_message node.guest.space.object) Refusal.NothingThere) _ (each _ (ok_or (next_message node.guest.space.object) Refusal.NothingThere) (λ noted.
    record {
      there = λ i. record { held = record { pages = node.guest.space.host.bytes; waits = sym (read_waits node.guest.cpus noted.cpu noted.message) i; entries = sym (append-nil entries) i }; kept = node.kept; came = node.arrivals };
      whole = record { memory = whole.memory; kept = whole.kept; arrivals = whole.arrivals };
      whole_frames = tt;
      bare = refl;
    }))))) gives
step-there node Step.DestAct entries did whole gives =
    ok-holds (LineThere node (Line.Made Step.DestAct) entries) (sends (destination.act node)) did
    (over_map _ _ (destination.act node)
    (holds-in_phase _ node.has_run _ (λ ran.
    holds-and_then _ (when_quiet node.guest (first_of node.held)) _ (each _ (when_quiet node.guest (first_of node.held)) (λ fault.
    let act = destination_act node fault in
    record {
      there = λ i. record { held = acted-there act node fault.page entries i; kept = sym (acted-kept act node fault.page) i; came = sym (acted-came act node fault.page) i };
      whole = acted_whole act node fault.page whole;
      whole_frames = act_frames_whole act node;
      bare = act-bare act node;
    }))))) gives
step-there node Step.Install entries did whole gives =
    ok-holds (LineThere node (Line.Made Step.Install) entries) (acts (destination.install node)) did
    (over_map _ _ (destination.install node)
    (holds-in_phase _ node.has_run _ (λ ran.
    holds-and_then _ (when_quiet node.guest (first_of node.arrivals)) _ (holds-when_quiet _ node.guest (first_of node.arrivals) (λ copy first quiet. install-there node copy entries whole first))))) gives
step-there node (Step.Notice Side.Destination) entries did whole gives =
    ok-holds (LineThere node (Line.Made (Step.Notice Side.Destination)) entries) (acts (destination.pause node)) did
    (over_map _ _ (destination.pause node)
    (holds-in_phase _ (not (is_dest_paused node.phase)) _ (λ may. record { there = calm node entries; whole = record { memory = whole.memory; kept = whole.kept; arrivals = whole.arrivals }; whole_frames = tt; bare = refl }))) gives
step-there node _ entries did whole gives = absurd (never Refusal.Phase did gives)

-- the frame of a line is whole, if it takes one
abbrev pub TakesWhole : Line → Type 0
TakesWhole (Line.Made step) = Unit {0}
TakesWhole (Line.Took sent) = IsWholeFrame sent.frame
TakesWhole (Line.TookUrgent sent) = IsWholeFrame sent.frame

pub line-there : (node : Destination) (line : Line) (entries : List Entry) (did : Did Destination) → HasWholeCopies node → TakesWhole line → destination_line node line ≡ Ok did → LineThere node line entries did
line-there node (Line.Made step) entries did whole taken gives = step-there node step entries did whole gives
line-there node (Line.Took sent) entries did whole taken gives =
    ok-holds (LineThere node (Line.Took sent) entries) (sends (destination.take node sent.epoch sent.frame)) did
    (over_map _ _ (destination.take node sent.epoch sent.frame)
    (holds-unless _ _ _ (λ none.
    record {
      there = took-there node.has_run node sent.epoch sent.frame entries refl ∙ (λ i. there_of (destination_took node sent.epoch sent.frame) (sym (append-nil entries) i));
      whole = took_whole node sent.epoch sent.frame taken whole;
      whole_frames = there_answers_whole node sent.frame;
      bare = answers-bare node sent.frame;
    }))) gives
line-there node (Line.TookUrgent sent) entries did whole taken gives =
    ok-holds (LineThere node (Line.TookUrgent sent) entries) (destination_line node (Line.TookUrgent sent)) did
    (holds-in_phase _ node.has_run _ (λ ran.
    record {
      there = came-there node sent.frame entries ∙ (λ i. there_of (urgent_took node sent.frame) (sym (append-nil entries) i));
      whole = urgent_whole node sent.frame taken whole;
      whole_frames = tt;
      bare = refl;
    })) gives
