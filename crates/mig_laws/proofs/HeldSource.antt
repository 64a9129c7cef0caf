-- A line of a source that holds all bytes does to them what a driver does, and sends frames that a driver fills.
use Rattle.std.proofs.Common.{◌≡◌, ℕ, zero, suc, ◌+◌, ◌*◌, ◌&&◌, not, Bool, true, false, cond, ltb, Option, Some, None, List, [], ◌∷◌, ◌++◌, map, get_or, length, refl, sym, ap, subst, ◌∙◌}
use Rattle.std.specs.Prelude.{Result, Ok, Err, ok_or}
use Rattle.std.proofs.lemmas.List.{append-nil}
use Rattle.std.proofs.Math.ListN.{get_or-map}
use Rattle.std.specs.FinMap as finmap
use Rattle.std.specs.FinSet.{FinSet}
use Rattle.std.specs.Ordering.{nat_cmp}
use Rattle.mig_base.specs.Acts.{act_effect}
use Rattle.mig_base.specs.Bytes.{zero_page}
use Rattle.mig_base.specs.Commands.{is_access}
use Rattle.mig_base.specs.Userfault.{next_message}
use Rattle.mig_base.specs.declared.act.Act.{Act}
use Rattle.mig_base.specs.declared.act.Act.TheVariants.{Unprotected, Zeroed, Woke, Forgot, Requested}
use Rattle.mig_base.specs.declared.command.Command.{Command}
use Rattle.mig_base.specs.declared.command.Entry.{Entry}
use Rattle.mig_base.specs.declared.cpu_state.CpuState.{CpuState}
use Rattle.mig_base.specs.declared.effect.Effect.{Effect}
use Rattle.mig_base.specs.declared.phase.Received.{Received}
use Rattle.mig_base.specs.declared.refusal.Refusal.{Refusal}
use Rattle.mig_base.specs.declared.schedule.Side.{Side}
use Rattle.mig_base.specs.declared.schedule.Step.{Step}
use Rattle.mig_model.specs.Cpus.{Cpus, entries_of, idle_answer, outstanding, processor_at, woken_answer, woken_command}
use Rattle.mig_model.specs.Effects.{frame_effect, try_effect}
use Rattle.mig_model.specs.Guest.{Guest, took_by, tried}
use Rattle.mig_model.specs.GuestSteps.{issue, retry, when_quiet}
use Rattle.mig_model.specs.Log.{no_pages, present}
use Rattle.mig_model.specs.NodeSteps.{first_of}
use Rattle.mig_model.specs.Source.{Source, bytes_of, commands_of, is_handling, is_source_paused, is_stopped, is_under_way, package_frames, page_pushed, page_sent, released, run_of, source_act, source_acted_by, source_answers, source_rebuilt, source_took, space_of, urgent_pushed}
use Rattle.mig_model.specs.SourceSteps as source
use Rattle.mig_model.specs.SourceSteps.{next_to_send}
use Rattle.mig_model.specs.Wire.{Frame, page_frame}
use Rattle.mig_model.specs.Wire.Frame.{Advise, Page, Zero, Run, Discard, Package, End, Resume, Request, Recv, Done}
use Rattle.mig_model.proofs.steps.StepLemmas.{Holds, holds-and_then, holds-in_phase, holds-unless}
use Rattle.mig_laws.specs.Contents.{AreWholePages}
use Rattle.mig_laws.specs.Drivers.{Held, filled, here_after, pages_from, tries, tries_again}
use Rattle.mig_laws.specs.Sides.{Did, Line, acts, sends, sends_urgently, source_line}
use Rattle.mig_laws.proofs.AcceptedSteps.{ok-holds}
use Rattle.mig_laws.proofs.HeldGuests.{filled-page, held_of, put_one, read_waits, still, tried-held, page_woken}
use Rattle.mig_laws.proofs.OrderRuns.{each, never, over_map}
use Rattle.mig_laws.proofs.WholePages.{none_whole, tried_whole}
use Rattle.mig_laws.proofs.WholeWorlds.{AllWhole, page_whole, run_whole, source_acted_whole}

-- what holds of a line of a source whose guest has entered these entries so far
pub record LineHere (node : Source) (line : Line) (entries : List Entry) (did : Did Source) : Type 0 where
  pub held : here_after line did.effect node.guest (held_of node.guest entries) ≡ held_of did.node.guest (entries ++ did.entries)
  pub frames : map (filled (held_of node.guest entries)) did.frames ≡ did.frames
  pub urgent : map (filled (held_of node.guest entries)) did.urgent ≡ did.urgent
  pub whole : AreWholePages did.node.guest.space.host.bytes
  pub whole_frames : AllWhole did.frames
  pub whole_urgent : AllWhole did.urgent

-- a line that changes no page and no waiting command
keeps : (node new : Source) (line : Line) (effect : Effect) (frames urgent : List Frame) (entries : List Entry) → here_after line effect node.guest (held_of node.guest entries) ≡ held_of node.guest entries →
    new.guest.space.host.bytes ≡ node.guest.space.host.bytes → commands_of new.guest.cpus ≡ commands_of node.guest.cpus → map (filled (held_of node.guest entries)) frames ≡ frames → map (filled (held_of node.guest entries)) urgent ≡ urgent →
    AreWholePages node.guest.space.host.bytes → AllWhole frames → AllWhole urgent → LineHere node line entries (record { effect = effect; frames = frames; urgent = urgent; entries = []; node = new })
keeps node new line effect frames urgent entries same bytes waits full full_urgent whole whole_frames whole_urgent =
    record {
      held = same ∙ still node.guest new.guest entries bytes waits;
      frames = full;
      urgent = full_urgent;
      whole = subst AreWholePages (sym bytes) whole;
      whole_frames = whole_frames;
      whole_urgent = whole_urgent;
    }

-- Commands

pub each-is : {A : Type 0} (Q : A → Type 0) (result : Result A Refusal) → ((done : A) → result ≡ Ok done → Q done) → Holds Q result
each-is Q (Ok done) h = h done refl
each-is Q (Err refusal) h = tt

abbrev found : Result Command Refusal → Option Command
found (Ok command) = Some command
found (Err refusal) = None

woken_by : (there : Bool) (state : CpuState) (command : Command) → cond there (woken_command state) (Err Refusal.NoCpu) ≡ Ok command → outstanding state ≡ Some command
woken_by true CpuState.Idle command is = absurd (never Refusal.NotAsleep command is)
woken_by true (CpuState.Asleep other) command is = absurd (never Refusal.NotWoken command is)
woken_by true (CpuState.Woken other) command is = ap found is
woken_by true (CpuState.InCall reply left) command is = absurd (never Refusal.NotAsleep command is)
woken_by false state command is = absurd (never Refusal.NoCpu command is)

-- a processor that was woken waits with its command
pub woken_waits_at : (cpus : Cpus) (k : ℕ) (command : Command) → woken_answer cpus k ≡ Ok command → get_or (commands_of cpus) k None ≡ Some command
woken_waits_at cpus k command is = get_or-map outstanding cpus k CpuState.Idle ∙ woken_by (ltb k (length cpus)) (processor_at cpus k) command is

pub retried-held : (guest : Guest) (cpu : ℕ) (command : Command) (entries : List Entry) (effect : Effect) (new : Held) → woken_answer guest.cpus cpu ≡ Ok command → tries effect guest (held_of guest entries) cpu command ≡ new →
    tries_again effect guest (held_of guest entries) cpu (get_or (held_of guest entries).waits cpu None) ≡ new
retried-held guest cpu command entries effect new woken is = ap (λ o. tries_again effect guest (held_of guest entries) cpu o) (woken_waits_at guest.cpus cpu command woken) ∙ is

-- Frames

page-filled : (node : Source) (page : ℕ) (entries : List Entry) → map (filled (held_of node.guest entries)) (page_frame page (bytes_of node page) ∷ []) ≡ page_frame page (bytes_of node page) ∷ []
page-filled node page entries = λ i. filled-page (held_of node.guest entries) page (bytes_of node page) i ∷ []

run-from : (node : Source) (first count : ℕ) → pages_from (space_of node).host.bytes first (length (run_of node first count)) ≡ run_of node first count
run-from node first zero = refl
run-from node first (suc count) = ap (λ (pages : List (List ℕ)). bytes_of node first ∷ pages) (run-from node (1 + first) count)

run-filled : (node : Source) (first count : ℕ) (entries : List Entry) → map (filled (held_of node.guest entries)) (Run first (run_of node first count) ∷ []) ≡ Run first (run_of node first count) ∷ []
run-filled node first count entries = ap (λ (pages : List (List ℕ)). Run first pages ∷ []) (run-from node first count)

-- The handler

acted-here : (act : Act) (node : Source) (page : ℕ) (entries : List Entry) → AreWholePages (space_of node).host.bytes →
    LineHere node (Line.Made Step.SourceAct) entries (record { effect = act_effect act (4096 * page); frames = []; urgent = []; entries = []; node = source_acted_by act node page })
acted-here Unprotected node page entries whole = keeps node (source_acted_by Unprotected node page) _ _ [] [] entries refl refl (page_woken page node.guest.cpus) refl refl whole tt tt
acted-here Zeroed node page entries whole =
    record {
      held = λ i. record { pages = put_one (space_of node).host.bytes page zero_page i; waits = sym (page_woken page node.guest.cpus) i; entries = sym (append-nil entries) i };
      frames = refl;
      urgent = refl;
      whole = source_acted_whole Zeroed node page whole;
      whole_frames = tt;
      whole_urgent = tt;
    }
acted-here Woke node page entries whole = keeps node (source_acted_by Woke node page) _ _ [] [] entries refl refl (page_woken page node.guest.cpus) refl refl whole tt tt
acted-here Forgot node page entries whole = keeps node (source_acted_by Forgot node page) _ _ [] [] entries refl refl (page_woken page node.guest.cpus) refl refl whole tt tt
acted-here (Requested origin) node page entries whole = keeps node (source_acted_by (Requested origin) node page) _ _ [] [] entries refl refl (page_woken page node.guest.cpus) refl refl whole tt tt

-- Frames that come back

abbrev took : ℕ → Frame → Line
took epoch frame = Line.Took (record { epoch = epoch; frame = frame })

-- what the source sends anew, if it does
rebuilt-here : (switched : Bool) (node one other : Source) (epoch : ℕ) (owed pages : FinSet nat_cmp) (entries : List Entry) → AreWholePages (space_of node).host.bytes → one.guest ≡ node.guest → other.guest ≡ node.guest →
    LineHere node (took epoch (Recv Received.NotRun owed)) entries
    (record { effect = frame_effect (Recv Received.NotRun owed); frames = cond switched (package_frames node no_pages pages) []; urgent = []; entries = []; node = cond switched one other })
rebuilt-here true node one other epoch owed pages entries whole first second =
    keeps node one _ _ (package_frames node no_pages pages) [] entries refl (ap (λ (g : Guest). g.space.host.bytes) first) (ap (λ (g : Guest). commands_of g.cpus) first) refl refl whole (tt, (tt, tt)) tt
rebuilt-here false node one other epoch owed pages entries whole first second =
    keeps node other _ _ [] [] entries refl (ap (λ (g : Guest). g.space.host.bytes) second) (ap (λ (g : Guest). commands_of g.cpus) second) refl refl whole tt tt

released-here : (node : Source) (epoch : ℕ) (frame : Frame) (entries : List Entry) → here_after (took epoch frame) (frame_effect frame) node.guest (held_of node.guest entries) ≡ record (held_of node.guest entries) { pages = finmap.empty } →
    LineHere node (took epoch frame) entries (record { effect = frame_effect frame; frames = []; urgent = []; entries = []; node = released node })
released-here node epoch frame entries is =
    record {
      held = is ∙ (λ i. record { pages = finmap.empty; waits = commands_of node.guest.cpus; entries = sym (append-nil entries) i });
      frames = refl;
      urgent = refl;
      whole = none_whole;
      whole_frames = tt;
      whole_urgent = tt;
    }

took-here : (node : Source) (epoch : ℕ) (frame : Frame) (entries : List Entry) → AreWholePages (space_of node).host.bytes →
    LineHere node (took epoch frame) entries (record { effect = frame_effect frame; frames = source_answers node frame; urgent = []; entries = []; node = source_took node frame })
took-here node epoch (Request page) entries whole = keeps node (source_took node (Request page)) _ _ [] [] entries refl refl refl refl refl whole tt tt
took-here node epoch (Recv Received.NotRun owed) entries whole = rebuilt-here node.switched node _ _ epoch owed (present (space_of node)) entries whole refl refl
took-here node epoch (Recv Received.Running owed) entries whole = keeps node (source_rebuilt Received.Running owed node) _ _ [] [] entries refl refl refl refl refl whole tt tt
took-here node epoch (Recv Received.Ended owed) entries whole = released-here node epoch (Recv Received.Ended owed) entries refl
took-here node epoch Done entries whole = released-here node epoch Done entries refl
took-here node epoch Advise entries whole = keeps node node _ _ [] [] entries refl refl refl refl refl whole tt tt
took-here node epoch (Page page bytes) entries whole = keeps node node _ _ [] [] entries refl refl refl refl refl whole tt tt
took-here node epoch (Zero page) entries whole = keeps node node _ _ [] [] entries refl refl refl refl refl whole tt tt
took-here node epoch (Run first pages) entries whole = keeps node node _ _ [] [] entries refl refl refl refl refl whole tt tt
took-here node epoch (Discard pages) entries whole = keeps node node _ _ [] [] entries refl refl refl refl refl whole tt tt
took-here node epoch (Package areas owed commands) entries whole = keeps node node _ _ [] [] entries refl refl refl refl refl whole tt tt
took-here node epoch (End urgent) entries whole = keeps node node _ _ [] [] entries refl refl refl refl refl whole tt tt
took-here node epoch Resume entries whole = keeps node node _ _ [] [] entries refl refl refl refl refl whole tt tt

-- Every line

try-here : (node : Source) (cpu : ℕ) (command : Command) (line : Line) (entries : List Entry) → AreWholePages (space_of node).host.bytes →
    here_after line (try_effect cpu (took_by (is_access command) (space_of node) command)) node.guest (held_of node.guest entries) ≡ held_of (tried (is_access command) node.guest cpu command) (entries ++ entries_of cpu command (took_by (is_access command) (space_of node) command)) →
    LineHere node line entries
    (record {
      effect = try_effect cpu (took_by (is_access command) (space_of node) command);
      frames = [];
      urgent = [];
      entries = entries_of cpu command (took_by (is_access command) (space_of node) command);
      node = record node { guest = tried (is_access command) node.guest cpu command };
    })
try-here node cpu command line entries whole is =
    record { held = is; frames = refl; urgent = refl; whole = tried_whole (is_access command) node.guest cpu command whole; whole_frames = tt; whole_urgent = tt }

step-here : (node : Source) (step : Step) (entries : List Entry) (did : Did Source) → AreWholePages (space_of node).host.bytes → source_line node (Line.Made step) ≡ Ok did → LineHere node (Line.Made step) entries did
step-here node (Step.Issue cpu command) entries did whole gives =
    ok-holds (LineHere node (Line.Made (Step.Issue cpu command)) entries) (source_line node (Line.Made (Step.Issue cpu command))) did
    (over_map _ _ (issue node.guest (not node.switched) cpu command)
    (holds-and_then _ (idle_answer node.guest.cpus cpu) _ (each _ (idle_answer node.guest.cpus cpu) (λ idle.
    holds-in_phase _ (not node.switched) _ (λ runs. try-here node cpu command _ entries whole (tried-held (is_access command) node.guest cpu command entries)))))) gives
step-here node (Step.Retry cpu) entries did whole gives =
    ok-holds (LineHere node (Line.Made (Step.Retry cpu)) entries) (source_line node (Line.Made (Step.Retry cpu))) did
    (over_map _ _ (retry node.guest (not node.switched) cpu)
    (holds-and_then _ (woken_answer node.guest.cpus cpu) _ (each-is _ (woken_answer node.guest.cpus cpu) (λ command woken.
    holds-in_phase _ (not node.switched) _ (λ runs.
    try-here node cpu command _ entries whole (retried-held node.guest cpu command entries _ _ woken (tried-held (is_access command) node.guest cpu command entries))))))) gives
step-here node Step.Start entries did whole gives =
    ok-holds (LineHere node (Line.Made Step.Start) entries) (sends (source.start node)) did
    (over_map _ _ (source.start node) (holds-unless _ _ _ (λ none. keeps node _ _ _ _ [] entries refl refl refl refl refl whole (tt, tt) tt))) gives
step-here node Step.Round entries did whole gives =
    ok-holds (LineHere node (Line.Made Step.Round) entries) (acts (source.round node)) did
    (over_map _ _ (source.round node) (holds-unless _ _ _ (λ none. keeps node _ _ _ [] [] entries refl refl refl refl refl whole tt tt))) gives
step-here node Step.Send entries did whole gives =
    ok-holds (LineHere node (Line.Made Step.Send) entries) (sends (source.send node)) did
    (over_map _ _ (source.send node)
    (holds-and_then _ (next_to_send node) _ (each _ (next_to_send node) (λ page.
    keeps node (page_sent node page) _ _ _ [] entries refl refl refl (page-filled node page entries) refl whole (page_whole node page whole, tt) tt)))) gives
step-here node (Step.SendRun count) entries did whole gives =
    ok-holds (LineHere node (Line.Made (Step.SendRun count)) entries) (sends (source.send_run node count)) did
    (over_map _ _ (source.send_run node count)
    (holds-and_then _ (next_to_send node) _ (each _ (next_to_send node) (λ first.
    keeps node _ _ _ _ [] entries refl refl refl (run-filled node first _ entries) refl whole (run_whole node first _ whole, tt) tt)))) gives
step-here node Step.SourceRead entries did whole gives =
    ok-holds (LineHere node (Line.Made Step.SourceRead) entries) (acts (source.read node)) did
    (over_map _ _ (source.read node)
    (holds-in_phase _ (is_handling node) _ (λ handling.
    holds-and_then _ (ok_or (next_message (space_of node).object) Refusal.NothingThere) _ (each _ (ok_or (next_message (space_of node).object) Refusal.NothingThere) (λ noted.
    keeps node _ _ _ [] [] entries refl refl (read_waits node.guest.cpus noted.cpu noted.message) refl refl whole tt tt))))) gives
step-here node Step.SourceAct entries did whole gives =
    ok-holds (LineHere node (Line.Made Step.SourceAct) entries) (acts (source.act node)) did
    (over_map _ _ (source.act node)
    (holds-in_phase _ (is_handling node) _ (λ handling.
    holds-and_then _ (when_quiet node.guest (first_of node.log.held)) _ (each _ (when_quiet node.guest (first_of node.log.held)) (λ fault.
    acted-here (source_act node fault) node fault.page entries whole))))) gives
step-here node Step.Switch entries did whole gives =
    ok-holds (LineHere node (Line.Made Step.Switch) entries) (sends (source.switch node)) did
    (over_map _ _ (source.switch node) (holds-unless _ _ _ (λ none. keeps node _ _ _ _ [] entries refl refl refl refl refl whole (tt, (tt, tt)) tt))) gives
step-here node (Step.Push ticket) entries did whole gives =
    ok-holds (LineHere node (Line.Made (Step.Push ticket)) entries) (sends (source.push node ticket)) did
    (over_map _ _ (source.push node ticket)
    (holds-unless _ _ _ (λ none. keeps node (page_pushed node ticket.page) _ _ _ [] entries refl refl refl (page-filled node ticket.page entries) refl whole (page_whole node ticket.page whole, tt) tt))) gives
step-here node (Step.PushUrgent ticket) entries did whole gives =
    ok-holds (LineHere node (Line.Made (Step.PushUrgent ticket)) entries) (sends_urgently (source.push_urgent node ticket)) did
    (over_map _ _ (source.push_urgent node ticket)
    (holds-unless _ _ _ (λ none. keeps node (urgent_pushed node ticket.page) _ _ [] _ entries refl refl refl refl (page-filled node ticket.page entries) whole tt (page_whole node ticket.page whole, tt)))) gives
step-here node Step.Serve entries did whole gives =
    ok-holds (LineHere node (Line.Made Step.Serve) entries) (acts (source.serve node)) did
    (over_map _ _ (source.serve node)
    (holds-in_phase _ (is_stopped node.phase) _ (λ stopped.
    holds-and_then _ (ok_or (first_of node.asked) Refusal.NothingThere) _ (each _ (ok_or (first_of node.asked) Refusal.NothingThere) (λ page.
    keeps node _ _ _ [] [] entries refl refl refl refl refl whole tt tt))))) gives
step-here node Step.End entries did whole gives =
    ok-holds (LineHere node (Line.Made Step.End) entries) (sends (source.end node)) did
    (over_map _ _ (source.end node) (holds-unless _ _ _ (λ none. keeps node _ _ _ _ [] entries refl refl refl refl refl whole (tt, tt) tt))) gives
step-here node (Step.Notice Side.Source) entries did whole gives =
    ok-holds (LineHere node (Line.Made (Step.Notice Side.Source)) entries) (acts (source.pause node)) did
    (over_map _ _ (source.pause node) (holds-in_phase _ (is_under_way node && not (is_source_paused node.phase)) _ (λ may. keeps node _ _ _ [] [] entries refl refl refl refl refl whole tt tt))) gives
step-here node Step.Resume entries did whole gives =
    ok-holds (LineHere node (Line.Made Step.Resume) entries) (sends (source.resume node)) did
    (over_map _ _ (source.resume node) (holds-unless _ _ _ (λ none. keeps node _ _ _ _ [] entries refl refl refl refl refl whole (tt, tt) tt))) gives
step-here node _ entries did whole gives = absurd (never Refusal.Phase did gives)

pub line-here : (node : Source) (line : Line) (entries : List Entry) (did : Did Source) → AreWholePages (space_of node).host.bytes → source_line node line ≡ Ok did → LineHere node line entries did
line-here node (Line.Made step) entries did whole gives = step-here node step entries did whole gives
line-here node (Line.Took sent) entries did whole gives =
    ok-holds (LineHere node (Line.Took sent) entries) (sends (source.take node sent.frame)) did (took-here node sent.epoch sent.frame entries whole) gives
line-here node (Line.TookUrgent sent) entries did whole gives = absurd (never Refusal.Phase did gives)
