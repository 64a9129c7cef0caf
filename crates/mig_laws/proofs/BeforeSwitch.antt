-- A source that has not switched sends neither a Package nor an End, and stays out of the phase Stopped unless a Recv says that the
-- destination runs.
use Rattle.std.proofs.Common.{◌≡◌, ℕ, ◌&&◌, ◌==◌, Bool, true, false, not, List, [], ◌∷◌, refl, sym, ap, subst, ◌∙◌, if◌then◌else◌}
use Rattle.std.specs.Prelude.{Ok, ok_or}
use Rattle.std.proofs.lemmas.Bool.{false≢true}
use Rattle.std.specs.FinSet as finset
use Rattle.mig_base.specs.Userfault.{next_message}
use Rattle.mig_base.specs.declared.act.Act.{Act}
use Rattle.mig_base.specs.declared.act.Act.TheVariants.{Unprotected, Zeroed, Woke, Forgot, Requested}
use Rattle.mig_base.specs.declared.phase.Received.{Received}
use Rattle.mig_base.specs.declared.phase.SourcePhase.{SourcePhase}
use Rattle.mig_base.specs.declared.refusal.Refusal.{Refusal}
use Rattle.mig_base.specs.declared.schedule.Side.{Side}
use Rattle.mig_base.specs.declared.schedule.Step.{Step}
use Rattle.foundation.proofs.TestLemmas.{or_first}
use Rattle.mig_model.specs.GuestSteps.{issue, retry, when_quiet}
use Rattle.mig_model.specs.Log.{forgotten, no_pages, present}
use Rattle.mig_model.specs.NodeSteps.{first_of}
use Rattle.mig_model.specs.Source.{Source, bytes_of, is_handling, is_stopped, is_under_way, is_source_paused, package_frames, source_act, source_acted_by, source_answers, source_took, space_of}
use Rattle.mig_model.specs.SourceSteps as source
use Rattle.mig_model.specs.Wire.{Frame, is_zeros}
use Rattle.mig_model.specs.Wire.Frame.{Advise, Page, Zero, Run, Discard, Package, End, Resume, Request, Recv, Done}
use Rattle.mig_model.proofs.steps.StepLemmas.{holds-and_then, holds-in_phase, holds-unless}
use Rattle.mig_laws.specs.Sides.{Did, Line, acts, sends, sends_urgently, source_line, source_step}
use Rattle.mig_laws.proofs.AcceptedSteps.{ok-holds}
use Rattle.mig_laws.proofs.OrderRuns.{each, never, over_map}
use Rattle.mig_laws.proofs.NotRun.{comes_before_run}

-- whether a frame that comes back does not say that the destination runs
abbrev pub is_quiet : Frame → Bool
is_quiet (Recv Received.Running owed) = false
is_quiet frame = true

-- whether a line takes no such frame
abbrev pub takes_quiet : Line → Bool
takes_quiet (Line.Took sent) = is_quiet sent.frame
takes_quiet line = true

-- frames that come before the destination runs
abbrev pub Come : List Frame → Type 0
Come [] = Unit {0}
Come (frame ∷ frames) = (comes_before_run frame ≡ true) × Come frames

-- a source that has not switched after a line had not before, and it is not Stopped and has sent such frames, if it was not
abbrev pub StaysBefore : Bool → Source → Did Source → Type 0
StaysBefore quiet node did =
    did.node.switched ≡ false → (node.switched ≡ false) × (is_stopped node.phase ≡ false → quiet ≡ true → (is_stopped did.node.phase ≡ false) × Come did.frames)

page-comes : (page : ℕ) (bytes : List ℕ) (zeros : Bool) → comes_before_run (if zeros then Zero page else Page page bytes) ≡ true
page-comes page bytes true = refl
page-comes page bytes false = refl

acted-same : (act : Act) (node : Source) (page : ℕ) → ((source_acted_by act node page).switched ≡ node.switched) × ((source_acted_by act node page).phase ≡ node.phase)
acted-same Unprotected node page = (refl, refl)
acted-same Zeroed node page = (refl, refl)
acted-same Woke node page = (refl, refl)
acted-same Forgot node page = (refl, refl)
acted-same (Requested origin) node page = (refl, refl)

-- a step that only a source makes which is Stopped
stopped : (phase : SourcePhase) → not (is_stopped phase) ≡ false → is_stopped phase ≡ false → ⊥
stopped phase may calm = false≢true (sym may ∙ ap not calm)

step-before : (node : Source) (step : Step) (did : Did Source) → source_step node step ≡ Ok did → StaysBefore true node did
step-before node (Step.Issue cpu command) did gives =
    let tried = issue node.guest (not node.switched) cpu command in
    ok-holds (StaysBefore true node) (source_step node (Step.Issue cpu command)) did (over_map _ _ tried (each _ tried (λ t off. (off, λ calm is. (calm, tt))))) gives
step-before node (Step.Retry cpu) did gives =
    let tried = retry node.guest (not node.switched) cpu in
    ok-holds (StaysBefore true node) (source_step node (Step.Retry cpu)) did (over_map _ _ tried (each _ tried (λ t off. (off, λ calm is. (calm, tt))))) gives
step-before node Step.Start did gives =
    ok-holds (StaysBefore true node) (sends (source.start node)) did (over_map _ _ (source.start node) (holds-unless _ _ _ (λ none off. (off, λ calm is. (refl, (refl, tt)))))) gives
step-before node Step.Round did gives =
    ok-holds (StaysBefore true node) (acts (source.round node)) did (over_map _ _ (source.round node) (holds-unless _ _ _ (λ none off. (off, λ calm is. (calm, tt))))) gives
step-before node Step.Send did gives =
    ok-holds (StaysBefore true node) (sends (source.send node)) did
    (over_map _ _ (source.send node) (holds-and_then _ (source.next_to_send node) _ (each _ (source.next_to_send node) (λ page off. (off, λ calm is. (calm, (page-comes page (bytes_of node page) (is_zeros (bytes_of node page)), tt))))))) gives
step-before node (Step.SendRun count) did gives =
    ok-holds (StaysBefore true node) (sends (source.send_run node count)) did
    (over_map _ _ (source.send_run node count) (holds-and_then _ (source.next_to_send node) _ (each _ (source.next_to_send node) (λ page off. (off, λ calm is. (calm, (refl, tt))))))) gives
step-before node Step.SourceRead did gives =
    ok-holds (StaysBefore true node) (acts (source.read node)) did
    (over_map _ _ (source.read node) (holds-in_phase _ (is_handling node) _ (λ may.
    holds-and_then _ (ok_or (next_message (space_of node).object) Refusal.NothingThere) _ (each _ (ok_or (next_message (space_of node).object) Refusal.NothingThere) (λ noted off. (off, λ calm is. (calm, tt))))))) gives
step-before node Step.SourceAct did gives =
    ok-holds (StaysBefore true node) (acts (source.act node)) did
    (over_map _ _ (source.act node) (holds-in_phase _ (is_handling node) _ (λ may.
    holds-and_then _ (when_quiet node.guest (first_of node.log.held)) _ (each _ (when_quiet node.guest (first_of node.log.held)) (λ fault off.
    let kept = acted-same (source_act node fault) node fault.page in
    (sym kept.0 ∙ off, λ calm is. (ap is_stopped kept.1 ∙ calm, tt))))))) gives
step-before node Step.Switch did gives =
    ok-holds (StaysBefore true node) (sends (source.switch node)) did (over_map _ _ (source.switch node) (holds-unless _ _ _ (λ none off. absurd (false≢true (sym off))))) gives
step-before node (Step.Push ticket) did gives =
    ok-holds (StaysBefore true node) (sends (source.push node ticket)) did (over_map _ _ (source.push node ticket) (holds-unless _ _ _ (λ none off. (off, λ calm is. absurd (stopped node.phase none.0 calm))))) gives
step-before node (Step.PushUrgent ticket) did gives =
    ok-holds (StaysBefore true node) (sends_urgently (source.push_urgent node ticket)) did (over_map _ _ (source.push_urgent node ticket) (holds-unless _ _ _ (λ none off. (off, λ calm is. absurd (stopped node.phase none.0 calm))))) gives
step-before node Step.Serve did gives =
    ok-holds (StaysBefore true node) (acts (source.serve node)) did
    (over_map _ _ (source.serve node) (holds-in_phase _ (is_stopped node.phase) _ (λ may.
    holds-and_then _ (ok_or (first_of node.asked) Refusal.NothingThere) _ (each _ (ok_or (first_of node.asked) Refusal.NothingThere) (λ page off. (off, λ calm is. (calm, tt))))))) gives
step-before node Step.End did gives =
    ok-holds (StaysBefore true node) (sends (source.end node)) did (over_map _ _ (source.end node) (holds-unless _ _ _ (λ none off. (off, λ calm is. absurd (stopped node.phase (or_first (not (is_stopped node.phase)) (node.end_epoch == node.epoch) none.0) calm))))) gives
step-before node (Step.Notice Side.Source) did gives =
    ok-holds (StaysBefore true node) (acts (source.pause node)) did
    (over_map _ _ (source.pause node) (holds-in_phase _ (is_under_way node && not (is_source_paused node.phase)) _ (λ may off. (off, λ calm is. (refl, tt))))) gives
step-before node Step.Resume did gives =
    ok-holds (StaysBefore true node) (sends (source.resume node)) did (over_map _ _ (source.resume node) (holds-unless _ _ _ (λ none off. (off, λ calm is. (calm, (refl, tt)))))) gives
step-before node _ did gives = absurd (never Refusal.Phase did gives)

-- A frame that comes back

-- a source that takes a Recv of a destination that has not run, by whether it has switched
abbrev rebuilt_by : Bool → Source → Source
rebuilt_by switched node =
    if switched
    then record node { phase = SourcePhase.Stopped; asked = []; remaining = present (space_of node); packaged = finset.len (present (space_of node)) }
    else record node { phase = SourcePhase.Precopy; asked = []; log = forgotten node.log }

rebuilt-switched : (switched : Bool) (node : Source) → (rebuilt_by switched node).switched ≡ node.switched
rebuilt-switched true node = refl
rebuilt-switched false node = refl

took-before : (node : Source) (frame : Frame) →
    (source_took node frame).switched ≡ false → (node.switched ≡ false) × (is_stopped node.phase ≡ false → is_quiet frame ≡ true → (is_stopped (source_took node frame).phase ≡ false) × Come (source_answers node frame))
took-before node (Recv Received.NotRun owed) off =
    let before = sym (rebuilt-switched node.switched node) ∙ off in (
      before,
      λ calm is. (
        ap (λ switched. is_stopped (rebuilt_by switched node).phase) before,
        subst Come (sym (ap (λ switched. if switched then package_frames node no_pages (present (space_of node)) else []) before)) tt,
      ),
    )
took-before node (Recv Received.Running owed) off = (off, λ calm is. absurd (false≢true is))
took-before node (Recv Received.Ended owed) off = (off, λ calm is. (refl, tt))
took-before node Done off = (off, λ calm is. (refl, tt))
took-before node (Request page) off = (off, λ calm is. (calm, tt))
took-before node Advise off = (off, λ calm is. (calm, tt))
took-before node (Page page bytes) off = (off, λ calm is. (calm, tt))
took-before node (Zero page) off = (off, λ calm is. (calm, tt))
took-before node (Run first pages) off = (off, λ calm is. (calm, tt))
took-before node (Discard pages) off = (off, λ calm is. (calm, tt))
took-before node (Package areas owed commands) off = (off, λ calm is. (calm, tt))
took-before node (End urgent) off = (off, λ calm is. (calm, tt))
took-before node Resume off = (off, λ calm is. (calm, tt))

pub line-before : (node : Source) (line : Line) (did : Did Source) → source_line node line ≡ Ok did → StaysBefore (takes_quiet line) node did
line-before node (Line.Made step) did gives = step-before node step did gives
line-before node (Line.Took sent) did gives =
    ok-holds (StaysBefore (is_quiet sent.frame) node) (sends (source.take node sent.frame)) did (took-before node sent.frame) gives
line-before node (Line.TookUrgent sent) did gives = absurd (never Refusal.Phase did gives)
