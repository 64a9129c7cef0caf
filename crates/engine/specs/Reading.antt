-- The parts of the reader of lines, and their effect for the bytes of one piece.
use Rattle.std.specs.Prelude.{◌≡◌, ℕ, ◌+◌, Bool, List, [], ◌++◌, length, take, Option, Some}
use Rattle.std.specs.Io.KnownBytes.{Appends}
use Rattle.grammar.specs.Lines.{HasNoFeed}
use Rattle.engine.specs.declared.fault.RunFault.{RunFault}
use Rattle.engine.specs.declared.line_reader.LineReader.{LineReader}
use Rattle.engine.specs.Lines.{RawLine, held_line, TakesAll, joined, Finishes, Breaks, Stops}

-- these are the bytes of the open line
abbrev pub IsHeld : LineReader → List ℕ → Type 0
IsHeld reader held = (reader.line.items ≡ take 256 held) × (reader.len ≡ length held)

-- the open line as a sink takes it
abbrev pub open_line : LineReader → Bool → RawLine
open_line reader ended = held_line reader.line.items reader.len ended

-- the bytes were added to the open line
pub record Adds (old : LineReader) (bytes : List ℕ) (new : LineReader) : Type 0 where
  pub held : (held : List ℕ) → IsHeld old held → IsHeld new (held ++ bytes)
  pub len : new.len ≡ old.len + length bytes
  pub number : new.number ≡ old.number
  pub output : new.output.items ≡ old.output.items

-- the sink took the open line, and its output was gathered
pub record Ended {S : Type 0} (takes : S → ℕ → RawLine → S → List ℕ → Type 0) (a : S) (old : LineReader) (ended : Bool) (b : S) (new : LineReader) : Type 0 where
  pub text : List ℕ
  pub took : takes a (old.number + 1) (open_line old ended) b text
  pub gathers : new.output.items ≡ old.output.items ++ text
  pub line : new.line.items ≡ []
  pub len : new.len ≡ 0
  pub number : new.number ≡ old.number + 1

-- the bytes that were read led to this state of the sink and of the reader
pub record At {S : Type 0} (takes : S → ℕ → RawLine → S → List ℕ → Type 0) (start : S) (read : List ℕ) (before : Option (List ℕ)) (sink : S) (reader : LineReader) (after : Option (List ℕ)) : Type 0 where
  pub raws : List (List ℕ)
  pub held : List ℕ
  pub written : List ℕ
  pub whole : read ≡ joined raws ++ held
  pub all : TakesAll takes start 1 raws [] sink (written ++ reader.output.items)
  pub number : reader.number ≡ length raws
  pub is : IsHeld reader held
  pub one : HasNoFeed held
  pub appends : Appends before after written

-- the bytes lead from one state to the other
abbrev pub Leads : {S : Type 0} → (S → ℕ → RawLine → S → List ℕ → Type 0) → S → LineReader → Option (List ℕ) → List ℕ → S → LineReader → Option (List ℕ) → Type 0
Leads {S} takes a old u bytes b new v =
    (start : S) (read : List ℕ) (before : Option (List ℕ)) → At takes start read before a old u → At takes start (read ++ bytes) before b new v

-- reading ended with this fault among the bytes, whatever comes after them; `output` is not written yet
abbrev pub BreaksIn : {S : Type 0} → (S → ℕ → RawLine → S → List ℕ → Type 0) → (S → ℕ → RawLine → Type 0) → S → LineReader → List ℕ → List ℕ → RunFault → Option (List ℕ) → Type 0
BreaksIn {S} takes refuses a old bytes output fault w =
    (start : S) (read : List ℕ) (before : Option (List ℕ)) (more : List ℕ) → At takes start read before a old w
    → Breaks takes refuses start ((read ++ bytes) ++ more) (Some more) output fault before w

-- the same, and the output was written
abbrev pub StopsIn : {S : Type 0} → (S → ℕ → RawLine → S → List ℕ → Type 0) → (S → ℕ → RawLine → Type 0) → S → LineReader → Option (List ℕ) → List ℕ → RunFault → Option (List ℕ) → Type 0
StopsIn {S} takes refuses a old u bytes fault v =
    (start : S) (read : List ℕ) (before : Option (List ℕ)) (more : List ℕ) → At takes start read before a old u
    → Stops takes refuses start ((read ++ bytes) ++ more) (Some more) fault before v

-- At the end of the input

-- whatever led to this state of the sink and of the reader, the whole input was taken; of the output `more` is not written yet
abbrev pub EndsIn : {S : Type 0} → (S → ℕ → RawLine → S → List ℕ → Type 0) → S → LineReader → Option (List ℕ) → S → List ℕ → Option (List ℕ) → Type 0
EndsIn {S} takes a old u b more v =
    (start : S) (read : List ℕ) (before : Option (List ℕ)) → At takes start read before a old u → Finishes takes start read b more before v

-- reading ended with this fault; `output` is not written yet
abbrev pub BreaksAtEnd : {S : Type 0} → (S → ℕ → RawLine → S → List ℕ → Type 0) → (S → ℕ → RawLine → Type 0) → S → LineReader → List ℕ → RunFault → Option (List ℕ) → Type 0
BreaksAtEnd {S} takes refuses a old output fault w =
    (start : S) (read : List ℕ) (before : Option (List ℕ)) → At takes start read before a old w → Breaks takes refuses start read (Some []) output fault before w

-- the same, and the output was written
abbrev pub StopsAtEnd : {S : Type 0} → (S → ℕ → RawLine → S → List ℕ → Type 0) → (S → ℕ → RawLine → Type 0) → S → LineReader → Option (List ℕ) → RunFault → Option (List ℕ) → Type 0
StopsAtEnd {S} takes refuses a old u fault v =
    (start : S) (read : List ℕ) (before : Option (List ℕ)) → At takes start read before a old u → Stops takes refuses start read (Some []) fault before v
