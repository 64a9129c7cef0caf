-- The parts of the engine, and their effect for the bytes of one piece.
use Rattle.std.specs.Prelude.{◌≡◌, ℕ, ◌+◌, ◌<◌, ◌⊎◌, Bool, true, false, List, [], ◌∷◌, ◌++◌, length, Option, Some, None, IfSome, ⊤, refl}
use Rattle.std.proofs.Common.{inl, inr}
use Rattle.std.specs.Coded.{Coded, code_by, coded×, coded⊎, coded_ℕ, coded_bool, coded_list}
use Rattle.std.specs.Io.KnownBytes.{Appends}
use Rattle.mig_base.specs.declared.command.Entry.{Entry}
use Rattle.mig_base.specs.contracts.command.Entry as entry
use Rattle.grammar.specs.declared.line.Language.{Language}
use Rattle.grammar.specs.declared.line.Language.TheVariants as language
use Rattle.grammar.specs.declared.line.Line.{Line}
use Rattle.grammar.specs.declared.line.Line.TheVariants.{Skipped, Do, Enter}
use Rattle.engine.specs.declared.line_runner.Mode.{Mode}
use Rattle.engine.specs.declared.line_runner.Mode.TheVariants.{Lines, Transcript}
use Rattle.engine.specs.declared.line_runner.Job.{Job}
use Rattle.engine.specs.declared.line_runner.Job.TheVariants.{Run, Keep}
use Rattle.engine.specs.declared.fault.RunFault.{RunFault}
use Rattle.engine.specs.declared.fault.RunFault.TheVariants as faults
use Rattle.grammar.specs.Spelling.{Spells}
use Rattle.grammar.specs.Lines.{EndedLine, Reads, BeginsWrong}
use Rattle.engine.specs.Script.{Obeys, StopsBy}
use Rattle.mig_model.specs.Migration.{World}
use Rattle.world.specs.Codes.{coded_world}

-- Work: a world that is run, or the entries that are kept

-- the work that the lines do: on a world, or on a list of entries
pub data Work : Type 0 where
  -- orders are carried out on a world, and their output is that of the mode
  Running : (mode : Mode) → (state : World) → Work
  -- entries are kept
  Keeping : (entries : List Entry) → Work

-- a mode as a bool, for its code
abbrev pub mode_test : Mode → Bool
mode_test Lines = false
mode_test Transcript = true

-- the mode of a bool
abbrev pub tested_mode : Bool → Mode
tested_mode false = Lines
tested_mode true = Transcript

-- no mode is lost
abbrev pub tested_mode-mode_test : (mode : Mode) → tested_mode (mode_test mode) ≡ mode
tested_mode-mode_test Lines = refl
tested_mode-mode_test Transcript = refl

-- the code of a mode
abbrev pub coded_mode : Coded Mode
coded_mode = code_by Bool coded_bool mode_test tested_mode tested_mode-mode_test

-- the parts of the work: a mode and a world, or entries
abbrev pub WorkParts : Type 0
WorkParts = (Mode × World) ⊎ List Entry

-- work as its parts
abbrev pub work_parts : Work → WorkParts
work_parts (Running mode state) = inl (mode, state)
work_parts (Keeping entries) = inr entries

-- the work of the parts
abbrev pub parts_work : WorkParts → Work
parts_work (inl parts) = Running parts.0 parts.1
parts_work (inr entries) = Keeping entries

-- no work is lost: the work of its parts is the work itself
abbrev pub parts_work-work_parts : (work : Work) → parts_work (work_parts work) ≡ work
parts_work-work_parts (Running mode state) = refl
parts_work-work_parts (Keeping entries) = refl

-- the code of the work
abbrev pub coded_work : Coded Work
coded_work = code_by WorkParts (coded⊎ (coded× coded_mode coded_world) (coded_list entry.the_row.coded)) work_parts parts_work parts_work-work_parts

-- bridges a job of the code to its work
abbrev pub work_of : Job → Work
work_of (Run world mode) = Running mode world
work_of (Keep entries) = Keeping entries.items

-- the language of its lines
abbrev pub language_of : Work → Language
language_of (Running mode state) = language.Script
language_of (Keeping entries) = language.Transcript

-- the entries that were kept
abbrev pub kept_entries : Work → List Entry
kept_entries (Running mode state) = []
kept_entries (Keeping entries) = entries

-- the world that is run; none if entries are kept
abbrev pub run_world : Work → Option World
run_world (Running mode state) = Some state
run_world (Keeping entries) = None

-- no entry is kept yet
abbrev pub nothing_kept : Work
nothing_kept = Keeping []

-- a line's effect on the work, and its output
abbrev pub Does : Work → Line → Work → List ℕ → Type 0
Does old Skipped new text = (new ≡ old) × (text ≡ [])
Does (Running mode old) (Do order) new text = (state : World) × (new ≡ Running mode state) × Obeys mode old order state text
Does (Running mode old) (Enter entry) new text = ⊥
Does (Keeping entries) (Do order) new text = ⊥
Does (Keeping entries) (Enter entry) new text = (new ≡ Keeping (entries ++ entry ∷ [])) × (text ≡ [])

-- the effect of lines on the work, one after the other, and their output
abbrev pub Works : Work → List Line → Work → List ℕ → Type 0
Works old [] new text = (new ≡ old) × (text ≡ [])
Works old (line ∷ lines) new text = (mid : Work) × (out : List ℕ) × (more : List ℕ) × Does old line mid out × (text ≡ out ++ more) × Works mid lines new more

-- the output of lines that begin with this work
abbrev pub Outputs : Work → List Line → List ℕ → Type 0
Outputs start lines text = (end : Work) × Works start lines end text

-- work, and the output that is not written yet
pub record Gathered : Type 0 where
  pub work : Work
  pub output : List ℕ

-- the code of these
abbrev pub coded_gathered : Coded Gathered
coded_gathered = code_by (Work × List ℕ) (coded× coded_work (coded_list coded_ℕ)) (λ g. (g.work, g.output)) (λ p. record { work = p.0; output = p.1 }) (λ _. refl)

-- work, the output that is not written yet, the bytes of the line that has no end yet, and the number of lines before it
pub record Place : Type 0 where
  pub work : Work
  pub output : List ℕ
  pub line : List ℕ
  pub number : ℕ

-- the code of a place
abbrev pub coded_place : Coded Place
coded_place =
    code_by (Work × (List ℕ × (List ℕ × ℕ))) (coded× coded_work (coded× (coded_list coded_ℕ) (coded× (coded_list coded_ℕ) coded_ℕ)))
    (λ a. (a.work, (a.output, (a.line, a.number)))) (λ p. record { work = p.0; output = p.1.0; line = p.1.1.0; number = p.1.1.1 }) (λ _. refl)

-- the place before the first byte
abbrev pub start_of : Work → Place
start_of work = record { work = work; output = []; line = []; number = 0 }

-- the bytes are these lines, each with its line feed, and then the rest
abbrev pub ReadsEnded : Language → List ℕ → List Line → List ℕ → Type 0
ReadsEnded language bytes [] rest = bytes ≡ rest
ReadsEnded language bytes (line ∷ lines) rest = (mid : List ℕ) × EndedLine language bytes line mid × ReadsEnded language mid lines rest

-- Lines

-- the line was done, and its output gathered
pub record Takes (old : Gathered) (line : Line) (new : Gathered) : Type 0 where
  pub out : List ℕ
  pub does : Does old.work line new.work out
  pub gathers : new.output ≡ old.output ++ out

-- the text spells a line, which was done, and its output gathered
abbrev pub Made : Gathered → List ℕ → Gathered → Type 0
Made old text new = (line : Line) × Spells (language_of old.work) text line × Takes old line new

-- the line with this number and text ended with a fault: it is not a line of the language, or memory ran out
abbrev pub MakeFault : Language → ℕ → List ℕ → RunFault → Type 0
MakeFault language number text (faults.Line n) = (n ≡ number) × ((line : Line) → Spells language text line → ⊥)
MakeFault language number text faults.ReadFault = ⊥
MakeFault language number text faults.WriteFault = ⊥
MakeFault language number text faults.NoMemory = ⊤

-- nothing changed, or the line was done and its output is lost
abbrev pub Loses : Gathered → Line → Gathered → Type 0
Loses old line new = (new ≡ old) ⊎ ((out : List ℕ) × Does old.work line new.work out × (new.output ≡ old.output))

-- what a text leaves that ended with this fault: nothing changed if it is not a line of the language; nothing changed either if memory ran
-- out, or the line was done and its output is lost
abbrev pub Leaves : Gathered → List ℕ → RunFault → Gathered → Type 0
Leaves old text (faults.Line n) new = new ≡ old
Leaves old text faults.ReadFault new = ⊥
Leaves old text faults.WriteFault new = ⊥
Leaves old text faults.NoMemory new = (new ≡ old) ⊎ ((line : Line) × Spells (language_of old.work) text line × Loses old line new)

-- Pieces

-- these bytes lead from one place to the other, with this output
pub record Advances (old : Place) (bytes : List ℕ) (new : Place) (text : List ℕ) : Type 0 where
  pub lines : List Line
  pub reads : ReadsEnded (language_of old.work) (old.line ++ bytes) lines new.line
  pub number : new.number ≡ old.number + length lines
  pub works : Works old.work lines new.work text

-- the same, and the output was gathered
pub record Fed (old : Place) (bytes : List ℕ) (new : Place) : Type 0 where
  pub text : List ℕ
  pub advances : Advances old bytes new text
  pub gathers : new.output ≡ old.output ++ text

-- line `n` is wrong, whatever comes after these bytes; `text` is the output of the lines before it
pub record FaultAt (old : Place) (bytes : List ℕ) (n : ℕ) (text : List ℕ) : Type 0 where
  pub lines : List Line
  pub rest : List ℕ
  pub end : Work
  pub reads : ReadsEnded (language_of old.work) (old.line ++ bytes) lines rest
  pub number : n ≡ old.number + length lines + 1
  pub wrong : (more : List ℕ) → BeginsWrong (language_of old.work) (rest ++ more)
  pub works : Works old.work lines end text

-- some lines were done, and `text` is the first part of their output; `more` is the rest
pub record FaultWithin (old : Place) (bytes text more : List ℕ) : Type 0 where
  pub lines : List Line
  pub rest : List ℕ
  pub end : Work
  pub reads : ReadsEnded (language_of old.work) (old.line ++ bytes) lines rest
  pub works : Works old.work lines end (text ++ more)

-- a fault among these bytes; `text` is the output of the lines before it
abbrev pub Faults : Place → List ℕ → RunFault → List ℕ → Type 0
Faults old bytes (faults.Line n) text = FaultAt old bytes n text
Faults old bytes faults.ReadFault text = ⊥
Faults old bytes faults.WriteFault text = ⊥
Faults old bytes faults.NoMemory text = FaultWithin old bytes text []

-- the same, and the output was gathered
pub record FedUntil (old : Place) (bytes : List ℕ) (fault : RunFault) (output : List ℕ) : Type 0 where
  pub text : List ℕ
  pub faults : Faults old bytes fault text
  pub gathers : output ≡ old.output ++ text

-- Pieces with their output written

-- the first of the bytes were written, and some were not
abbrev pub Front : List ℕ → Option (List ℕ) → Option (List ℕ) → Type 0
Front bytes before after = (written : List ℕ) × (more : List ℕ) × (bytes ≡ written ++ more) × (0 < length more) × Appends before after written

-- the bytes lead from one place to the other, and all output was written
pub record Passes (old : Place) (bytes : List ℕ) (new : Place) (before after : Option (List ℕ)) : Type 0 where
  pub text : List ℕ
  pub advances : Advances old bytes new text
  pub appends : Appends before after text

-- a fault among these bytes: all output before it was written, or its first part if writing failed
abbrev pub Halts : Place → List ℕ → RunFault → Option (List ℕ) → Option (List ℕ) → Type 0
Halts old bytes (faults.Line n) before after = (text : List ℕ) × FaultAt old bytes n text × Appends before after text
Halts old bytes faults.ReadFault before after = ⊥
Halts old bytes faults.WriteFault before after = (text : List ℕ) × (more : List ℕ) × FaultWithin old bytes text more × (0 < length more) × Appends before after text
Halts old bytes faults.NoMemory before after = (text : List ℕ) × FaultWithin old bytes text [] × Appends before after text

-- The last line, which lacks its line feed

-- the open line was done, or nothing; `rest` is left of it, and `more` of its output was not written
pub record Closes (old : Place) (end : Work) (rest written more : List ℕ) (before after : Option (List ℕ)) : Type 0 where
  pub lines : List Line
  pub reads : Reads (language_of old.work) old.line lines rest
  pub works : Works old.work lines end (written ++ more)
  pub appends : Appends before after written

-- the open line is wrong
pub record ClosesWrong (old : Place) (n : ℕ) (before after : Option (List ℕ)) : Type 0 where
  pub number : n ≡ old.number + 1
  pub wrong : BeginsWrong (language_of old.work) old.line
  pub appends : Appends before after []

-- a fault at the open line
abbrev pub CloseFault : Place → RunFault → Option (List ℕ) → Option (List ℕ) → Type 0
CloseFault old (faults.Line n) before after = ClosesWrong old n before after
CloseFault old faults.ReadFault before after = ⊥
CloseFault old faults.WriteFault before after = (end : Work) × (rest : List ℕ) × (written : List ℕ) × (more : List ℕ) × (0 < length more) × Closes old end rest written more before after
CloseFault old faults.NoMemory before after = (end : Work) × (rest : List ℕ) × (written : List ℕ) × Closes old end rest written [] before after

-- The whole input

-- the whole input was read, and all its output written
pub record ReadsAll (start : Work) (input : List ℕ) (end : Work) (unread before after : Option (List ℕ)) : Type 0 where
  pub lines : List Line
  pub text : List ℕ
  pub reads : Reads (language_of start) input lines []
  pub left : IfSome unread (λ bytes. bytes ≡ [])
  pub works : Works start lines end text
  pub appends : Appends before after text

-- reading the lines that begin with this work ended with a fault
abbrev pub WorkStops : Work → List ℕ → Option (List ℕ) → RunFault → Option (List ℕ) → Option (List ℕ) → Type 0
WorkStops start input unread fault before after = StopsBy (language_of start) (Outputs start) input unread fault before after
