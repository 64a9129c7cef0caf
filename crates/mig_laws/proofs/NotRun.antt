-- A destination that has taken no Package knows of a migration no more than its phase, its epoch and its copies.
use Rattle.std.proofs.Common.{◌≡◌, ◌⊎◌, inl, inr, ℕ, Bool, true, false, not, List, [], ◌∷◌, refl}
use Rattle.std.specs.Prelude.{Ok}
use Rattle.std.specs.Ordering.{nat_cmp}
use Rattle.std.specs.FinMap as finmap
use Rattle.std.specs.FinMap.{FinMap}
use Rattle.std.proofs.lemmas.Bool.{false≢true}
use Rattle.mig_base.specs.Bytes.{zero_page}
use Rattle.mig_base.specs.declared.phase.DestPhase.{DestPhase}
use Rattle.mig_base.specs.declared.phase.Received.{Received}
use Rattle.mig_base.specs.declared.refusal.Refusal.{Refusal}
use Rattle.mig_base.specs.declared.schedule.Side.{Side}
use Rattle.mig_base.specs.declared.schedule.Step.{Step}
use Rattle.mig_model.specs.Destination.{Destination, destination_answers, destination_took, is_dest_paused}
use Rattle.mig_model.specs.DestinationSteps as destination
use Rattle.mig_model.specs.Log.{no_pages}
use Rattle.mig_model.specs.NodeSteps.{unless}
use Rattle.mig_model.specs.Wire.{Frame, kept_after}
use Rattle.mig_model.specs.Wire.Frame.{Advise, Page, Zero, Run, Discard, Package, End, Resume, Request, Recv, Done}
use Rattle.mig_model.proofs.steps.StepLemmas.{holds-in_phase, holds-unless}
use Rattle.mig_laws.specs.Replacements.{not_run, resume_of, resume_taken}
use Rattle.mig_laws.specs.Sides.{Did, Line, acts, destination_line, sends}
use Rattle.mig_laws.proofs.AcceptedSteps.{ok-holds}
use Rattle.mig_laws.proofs.OrderRuns.{issue-runs, never, over_map, retry-runs}

-- whether a frame comes before the destination runs: any but Package, with which it runs, and End, which follows that
abbrev pub comes_before_run : Frame → Bool
comes_before_run (Package areas owed commands) = false
comes_before_run (End urgent) = false
comes_before_run frame = true

-- whether a line of the destination does, if it takes a frame
abbrev pub is_before_run : Line → Bool
is_before_run (Line.Took sent) = comes_before_run sent.frame
is_before_run line = true

-- a destination is such a one
abbrev pub IsNotRun : ℕ → Destination → Type 0
IsNotRun cpus node = (phase : DestPhase) × (epoch : ℕ) × (kept : FinMap nat_cmp (List ℕ)) × (node ≡ not_run cpus phase epoch kept)

abbrev pub Copies : Type 0
Copies = FinMap nat_cmp (List ℕ)

took-not_run : (cpus : ℕ) (phase : DestPhase) (epoch : ℕ) (kept : Copies) (at : ℕ) (frame : Frame) → comes_before_run frame ≡ true → IsNotRun cpus (destination_took (not_run cpus phase epoch kept) at frame)
took-not_run cpus phase epoch kept at Advise before = (DestPhase.Advised, at, kept, refl)
took-not_run cpus phase epoch kept at (Page page bytes) before = (phase, epoch, finmap.insert kept page bytes, refl)
took-not_run cpus phase epoch kept at (Zero page) before = (phase, epoch, finmap.insert kept page zero_page, refl)
took-not_run cpus phase epoch kept at (Run first pages) before = (phase, epoch, kept_after kept (Run first pages), refl)
took-not_run cpus phase epoch kept at (Discard pages) before = (DestPhase.Discarding, epoch, kept_after kept (Discard pages), refl)
took-not_run cpus phase epoch kept at (Package areas owed commands) before = absurd (false≢true before)
took-not_run cpus phase epoch kept at (End urgent) before = absurd (false≢true before)
took-not_run cpus phase epoch kept at Resume before = (DestPhase.Advised, at, finmap.empty, refl)
took-not_run cpus phase epoch kept at (Request page) before = (phase, epoch, kept, refl)
took-not_run cpus phase epoch kept at (Recv state owed) before = (phase, epoch, kept, refl)
took-not_run cpus phase epoch kept at Done before = (phase, epoch, kept, refl)

-- it answers a Resume alone
abbrev pub AnswersNotRun : List Frame → Type 0
AnswersNotRun frames = (frames ≡ []) ⊎ (frames ≡ Recv Received.NotRun no_pages ∷ [])

answers-not_run : (cpus : ℕ) (phase : DestPhase) (epoch : ℕ) (kept : Copies) (frame : Frame) → comes_before_run frame ≡ true → AnswersNotRun (destination_answers (not_run cpus phase epoch kept) frame)
answers-not_run cpus phase epoch kept (End urgent) before = absurd (false≢true before)
answers-not_run cpus phase epoch kept Resume before = inr refl
answers-not_run cpus phase epoch kept _ before = inl refl

-- what a line of it gives
pub record StaysNotRun (cpus : ℕ) (did : Did Destination) : Type 0 where
  pub node : IsNotRun cpus did.node
  pub frames : AnswersNotRun did.frames
  pub entries : did.entries ≡ []

step-not_run : (cpus : ℕ) (phase : DestPhase) (epoch : ℕ) (kept : Copies) (step : Step) (did : Did Destination) → destination_line (not_run cpus phase epoch kept) (Line.Made step) ≡ Ok did → StaysNotRun cpus did
step-not_run cpus phase epoch kept (Step.Issue cpu command) did gives = absurd (false≢true (issue-runs _ (not_run cpus phase epoch kept).guest false cpu command did gives))
step-not_run cpus phase epoch kept (Step.Retry cpu) did gives = absurd (false≢true (retry-runs _ (not_run cpus phase epoch kept).guest false cpu did gives))
step-not_run cpus phase epoch kept (Step.Notice Side.Destination) did gives =
    let node = not_run cpus phase epoch kept in
    ok-holds (StaysNotRun cpus) (acts (destination.pause node)) did
    (over_map _ _ (destination.pause node)
    (holds-in_phase _ (not (is_dest_paused phase)) _ (λ may. record { node = (DestPhase.Paused, epoch, kept, refl); frames = inl refl; entries = refl }))) gives
step-not_run cpus phase epoch kept _ did gives = absurd (never Refusal.Phase did gives)

pub line-not_run : (cpus : ℕ) (phase : DestPhase) (epoch : ℕ) (kept : Copies) (line : Line) (did : Did Destination) → is_before_run line ≡ true → destination_line (not_run cpus phase epoch kept) line ≡ Ok did → StaysNotRun cpus did
line-not_run cpus phase epoch kept (Line.Made step) did before gives = step-not_run cpus phase epoch kept step did gives
line-not_run cpus phase epoch kept (Line.Took sent) did before gives =
    let node = not_run cpus phase epoch kept in
    ok-holds (StaysNotRun cpus) (sends (destination.take node sent.epoch sent.frame)) did
    (over_map _ _ (destination.take node sent.epoch sent.frame)
    (holds-unless _ _ _ (λ none_applies.
    record { node = took-not_run cpus phase epoch kept sent.epoch sent.frame before; frames = answers-not_run cpus phase epoch kept sent.frame before; entries = refl }))) gives
line-not_run cpus phase epoch kept (Line.TookUrgent sent) did before gives = absurd (never Refusal.Phase did gives)

-- Its log

-- A Resume

pub takes-resume : (cpus : ℕ) (phase : DestPhase) (epoch : ℕ) (kept : Copies) (at : ℕ) → destination_line (not_run cpus phase epoch kept) (Line.Took (resume_of at)) ≡ Ok (resume_taken cpus at)
unfolding unless
takes-resume cpus phase epoch kept at = refl

abbrev first : ℕ → Destination
first cpus = not_run cpus DestPhase.Idle 0 finmap.empty
