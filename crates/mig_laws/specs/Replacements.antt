-- Another destination takes the place of one that has not run: a process that knows of no migration, to which the source connects before it
-- has switched.
use Rattle.std.specs.Prelude.{◌≡◌, ℕ, true, false, List, [], ◌∷◌, ◌++◌}
use Rattle.std.specs.Ordering.{nat_cmp}
use Rattle.std.specs.FinMap as finmap
use Rattle.std.specs.FinMap.{FinMap}
use Rattle.mig_base.specs.declared.effect.Effect.{Effect}
use Rattle.mig_base.specs.declared.phase.DestPhase.{DestPhase}
use Rattle.mig_base.specs.declared.phase.Received.{Received}
use Rattle.mig_base.specs.declared.schedule.Side.{Side}
use Rattle.mig_base.specs.declared.schedule.Step.{Step}
use Rattle.mig_model.specs.Destination.{Destination, first_destination}
use Rattle.mig_model.specs.Log.{no_pages}
use Rattle.mig_model.specs.Wire.{Sent, sending}
use Rattle.mig_model.specs.Wire.Frame.{Resume, Recv}
use Rattle.mig_laws.specs.Processes.{Channel, Event, IsEvent, Processes, logged_here, logged_there}
use Rattle.mig_laws.specs.Sides.{Did, Line}

-- A destination that has not run

-- a destination that knows of a migration no more than its phase and its epoch, and has no more than the copies that it keeps
abbrev pub not_run : (cpus : ℕ) → DestPhase → (epoch : ℕ) → (kept : FinMap nat_cmp (List ℕ)) → Destination
not_run cpus phase epoch kept = record (first_destination cpus) { phase = phase; epoch = epoch; kept = kept }

-- a Resume of an epoch
abbrev pub resume_of : ℕ → Sent
resume_of epoch = record { epoch = epoch; frame = Resume }

-- a destination that has taken a Resume and keeps nothing, and what the Resume gives: a Recv that says that it has not run
abbrev pub resume_taken : (cpus epoch : ℕ) → Did Destination
resume_taken cpus epoch =
    record {
      effect = Effect.TookResume;
      frames = Recv Received.NotRun no_pages ∷ [];
      urgent = [];
      entries = [];
      node = not_run cpus DestPhase.Advised epoch finmap.empty;
    }

-- Another destination

-- the first two lines of its log: it is Paused by a Notice, so that it can take a Resume
abbrev pub newcomer_log : ℕ → List Line
newcomer_log epoch = Line.Made (Step.Notice Side.Destination) ∷ Line.Took (resume_of epoch) ∷ []

-- before the source has switched, another destination takes the first frame of a channel that the source has opened since, a Resume. What is
-- in flight on the channels before that one is lost, with the destination that there was
pub record IsReplaced (cpus : ℕ) (old : Processes) (epoch : ℕ) (new : Processes) : Type 0 where
  pub before : old.source.switched ≡ false
  pub skipped : List Channel
  pub next : Channel
  pub rest : List Channel
  pub opened : old.later ≡ skipped ++ next ∷ rest
  pub forward : List Sent
  pub takes : next.forward ≡ resume_of epoch ∷ forward
  pub is : new ≡ record old {
    destination = (resume_taken cpus epoch).node;
    first = record { forward = forward; back = sending next.back epoch (resume_taken cpus epoch).frames; urgent = next.urgent };
    later = rest;
    there = true;
  }

-- what happens to two processes of which the second may be replaced: an event, or another destination that takes a Resume of this epoch
pub data Change : Type 0 where
  Happens : (event : Event) → Change
  Replaced : (epoch : ℕ) → Change

-- a change leads from two processes to two processes
abbrev pub IsChange : ℕ → Processes → Change → Processes → Type 0
IsChange cpus old (Change.Happens event) new = IsEvent old event new
IsChange cpus old (Change.Replaced epoch) new = IsReplaced cpus old epoch new

-- changes in the order in which they happened
abbrev pub AreChanges : ℕ → Processes → List Change → Processes → Type 0
AreChanges cpus old [] new = new ≡ old
AreChanges cpus old (change ∷ changes) new = (mid : Processes) × IsChange cpus old change mid × AreChanges cpus mid changes new

-- the source's log of them
abbrev pub source_log : List Change → List Line
source_log [] = []
source_log (Change.Happens event ∷ changes) = logged_here event ++ source_log changes
source_log (Change.Replaced epoch ∷ changes) = source_log changes

-- the log of the destination that there is in the end, which has these lines so far: one that was replaced takes its log with it
abbrev pub last_log : List Line → List Change → List Line
last_log lines [] = lines
last_log lines (Change.Happens event ∷ changes) = last_log (lines ++ logged_there event) changes
last_log lines (Change.Replaced epoch ∷ changes) = last_log (newcomer_log epoch) changes
