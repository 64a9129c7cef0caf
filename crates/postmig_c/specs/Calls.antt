-- The effect of the calls on a world.
use Rattle.std.specs.Prelude.{◌≡◌, ◌↔◌, ◌⊎◌, ℕ, Bool, true, List, []}
use Rattle.std.specs.declared.option.Option.{Option}
use Rattle.std.specs.declared.option.Option.TheVariants.{None, Some}
use Rattle.mig_base.specs.declared.phase.WorldPhase.{WorldPhase}
use Rattle.mig_base.specs.declared.phase.WorldPhase.TheVariants as phases
use Rattle.grammar.specs.declared.line.Line.{Line}
use Rattle.grammar.specs.Spelling.{Spells}
use Rattle.engine.specs.declared.fault.RunFault.TheVariants as faults
use Rattle.engine.specs.declared.line_runner.Mode.{Mode}
use Rattle.engine.specs.Checking.{CheckStops}
use Rattle.engine.specs.Engine.{Work, Gathered, Made, Loses, Running, language_of, run_world, tested_mode}
use Rattle.engine.specs.Script.{ScriptStops}
use Rattle.explain.specs.declared.explain.Asks.{Asks}
use Rattle.mig_model.specs.Migration.{World as Machine}
use Rattle.engine.specs.Worlds.{epoch_in, progress_in}
use Rattle.postmig_c.specs.declared.handle.Content.{Content}
use Rattle.postmig_c.specs.declared.handle.Content.TheVariants.{World}
use Rattle.postmig_c.specs.declared.worlds.Counts.{Counts}

-- a world, or the entries of a transcript, of which no line has printed anything
abbrev pub a_world : Work → Content
a_world work = World (record { work = work; output = [] })

-- the handle has no world
abbrev pub HasNoWorld : Option Content → Type 0
HasNoWorld (Some (World runner)) = ⊥
HasNoWorld content = Unit {0}

-- the handle has no world that is run
abbrev pub HasNoRun : Option Content → Type 0
HasNoRun (Some (World runner)) = run_world runner.work ≡ None
HasNoRun content = Unit {0}

-- the handle has a world, and this holds of it
abbrev pub OfWorld : Option Content → (Gathered → Type 0) → Type 0
OfWorld (Some (World runner)) P = P runner
OfWorld content P = ⊥

-- the handle had a world and has one, and this holds of the two
abbrev pub Has : Option Content → Option Content → (Gathered → Gathered → Type 0) → Type 0
Has old new P = OfWorld old (λ before. OfWorld new (P before))

-- the handle has the world that is run, for lines or for a transcript, and no line has printed anything
pub record HasCopy (runner : Gathered) (is_transcript : Bool) (content : Option Content) : Type 0 where
  pub state : Machine
  pub runs : run_world runner.work ≡ Some state
  pub has : content ≡ Some (a_world (Running (tested_mode is_transcript) state))

-- the handles have worlds that are run, and this says whether they are the same
pub record AreCompared (runner other : Gathered) (is_same : Bool) : Type 0 where
  pub state : Machine
  pub other_state : Machine
  pub runs : run_world runner.work ≡ Some state
  pub other_runs : run_world other.work ≡ Some other_state
  pub told : (is_same ≡ true) ↔ (state ≡ other_state)

-- A line

-- what was printed before is dropped
abbrev pub cleared : Gathered → Gathered
cleared runner = record { work = runner.work; output = [] }

-- the text spells a line, which was done, and the output is what it printed
abbrev pub IsDone : Gathered → List ℕ → Gathered → Type 0
IsDone old text new = Made (cleared old) text new

-- no line of the language has this text, and nothing was done
abbrev pub IsNoLine : Gathered → List ℕ → Gathered → Type 0
IsNoLine old text new = ((line : Line) → Spells (language_of old.work) text line → ⊥) × (new ≡ cleared old)

-- memory ran out: nothing was done, or the line was done and what it printed is lost
abbrev pub IsCutShort : Gathered → List ℕ → Gathered → Type 0
IsCutShort old text new = (new ≡ cleared old) ⊎ ((line : Line) × Spells (language_of old.work) text line × Loses (cleared old) line new)

-- Counters

-- the number of a phase
abbrev pub phase_number : WorldPhase → ℕ
phase_number phases.Idle = 0
phase_number phases.Precopy = 1
phase_number phases.Switching = 2
phase_number phases.Postcopy = 3
phase_number phases.Complete = 4

-- how far the migration of a world has come, in numbers
abbrev pub counts_in : Machine → Counts
counts_in state =
    record {
      phase = phase_number (progress_in state).phase;
      epoch = epoch_in state;
      rounds = (progress_in state).rounds;
      left = (progress_in state).left;
      sent = (progress_in state).sent;
      installed = (progress_in state).installed;
      dropped = (progress_in state).dropped;
      faults = (progress_in state).faults;
    }

-- these are the numbers of the world that is run
pub record CountsAre (runner : Gathered) (counts : Counts) : Type 0 where
  pub state : Machine
  pub runs : run_world runner.work ≡ Some state
  pub counts_are : counts ≡ counts_in state

-- Whole scripts

-- the first line of the script that is not one has this number
abbrev pub StopsAtLine : Mode → Machine → List ℕ → ℕ → Type 0
StopsAtLine mode start script number = (unread : Option (List ℕ)) × (text : Option (List ℕ)) × ScriptStops mode start script unread (faults.Line number) (Some []) text

-- the first line of the transcript that is not one has this number
abbrev pub CheckStopsAtLine : List ℕ → ℕ → Type 0
CheckStopsAtLine transcript number = (unread : Option (List ℕ)) × (text : Option (List ℕ)) × CheckStops transcript unread (faults.Line number) (Some []) text

-- the reason of each wrong entry that is listed is asked for, of all or of the first alone
abbrev pub asks_reasons : Bool → Asks
asks_reasons all = record { all = all; reasons = true }
