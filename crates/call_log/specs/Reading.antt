-- The parts of the reader of a log, and what each does.
use Rattle.std.specs.Prelude.{◌≡◌, ℕ, ◌+◌, ◌<◌, ◌≤◌, ◌↔◌, ◌⊎◌, IsTrue, Bool, true, false, List, [], ◌∷◌, ◌++◌, length, take, codes, Option, IfSome, string_bytes}
use Rattle.std.specs.List.{concat}
use Rattle.std.specs.Io.KnownBytes.{Appends, Consumes}
use Rattle.uffd_log.specs.declared.line.Line.{Line}
use Rattle.uffd_log.specs.Lines.{Spells}
use Rattle.log_entries.specs.declared.entry_reader.EntryReader.{EntryReader}
use Rattle.log_entries.specs.declared.log_line.LogLine.{LogLine}
use Rattle.log_entries.specs.Readers.{HasRead}
use Rattle.call_log.specs.declared.head.Head.{Head}
use Rattle.call_log.specs.declared.log_reader.LogReader.{LogReader}
use Rattle.call_log.specs.declared.input.LineReader.{LineReader}
use Rattle.call_log.specs.Listing.{HasNoFeed, AreListed, AreLines, BeginsWith, IsLog, Lists, IsRead, head_word, joined}

-- One line

-- no line was read, and this is the name of the log
pub record IsNew (name : List ℕ) (reader : LogReader) : Type 0 where
  pub named : string_bytes reader.name ≡ name
  pub output : reader.output.items ≡ []
  pub right : reader.is_right ≡ true
  pub line : reader.line ≡ 0
  pub head : reader.head.read ≡ 0
  pub entries : HasRead [] reader.entries

-- these lines were added to the listing, for the line with this number
pub record Adds (number : ℕ) (old : LogReader) (texts : List (List ℕ)) (new : LogReader) : Type 0 where
  pub listed : AreListed (string_bytes old.name) number texts
  pub output : new.output.items ≡ old.output.items ++ concat texts
  pub right : IsTrue new.is_right ↔ (IsTrue old.is_right × (texts ≡ []))
  pub name : string_bytes new.name ≡ string_bytes old.name
  pub line : new.line ≡ old.line

-- lines were added; where none was, this holds
abbrev pub AddsAny : Type 0 → LogReader → LogReader → Type 0
AddsAny Right old new = (texts : List (List ℕ)) × Adds old.line old texts new × (new.head ≡ old.head) × (new.entries ≡ old.entries) × (texts ≡ [] → Right)

-- the entries of a line with this number were read
abbrev pub Reads : ℕ → Line → EntryReader → EntryReader → Type 0
Reads number line old new = (lines : List LogLine) → HasRead lines old → HasRead (lines ++ record { number = number; line = line } ∷ []) new

-- a line with this number is the next of the head, or below it one of the language, and its entries were read
abbrev pub Enters : ℕ → Head → EntryReader → List ℕ → LogReader → Type 0
Enters number head entries raw new =
    (head.read < 6) × BeginsWith (head_word head.read) raw × (new.head.read ≡ head.read + 1) × (new.entries ≡ entries)
    ⊎ (6 ≤ head.read) × ((line : Line) × Spells raw line × Reads number line entries new.entries) × (new.head.read ≡ head.read)

-- a line that has the form of one was taken
pub record Takes (old : LogReader) (raw : List ℕ) (new : LogReader) : Type 0 where
  pub texts : List (List ℕ)
  pub adds : Adds old.line old texts new
  pub is_right : texts ≡ [] → Enters old.line old.head old.entries raw new
  pub more : old.head.read ≤ new.head.read

-- a line was taken
pub record TakesLine (old : LogReader) (raw : List ℕ) (ended : Bool) (new : LogReader) : Type 0 where
  pub texts : List (List ℕ)
  pub listed : AreListed (string_bytes old.name) (old.line + 1) texts
  pub output : new.output.items ≡ old.output.items ++ concat texts
  pub right : IsTrue new.is_right ↔ (IsTrue old.is_right × (texts ≡ []))
  pub name : string_bytes new.name ≡ string_bytes old.name
  pub line : new.line ≡ old.line + 1
  pub first : old.line ≡ 0 → raw ≡ codes "uffdlog 1"
  pub is_right : texts ≡ [] → (length raw < 4096) × (ended ≡ true) × Enters (old.line + 1) old.head old.entries raw new
  pub more : old.head.read ≤ new.head.read

-- All lines

-- the bytes that were read led to this state
pub record At (name read : List ℕ) (before : Option (List ℕ)) (reader : LineReader) (after : Option (List ℕ)) : Type 0 where
  pub raws : List (List ℕ)
  pub held : List ℕ
  pub written : List ℕ
  pub whole : read ≡ joined raws ++ held
  pub lists : Lists name 1 0 raws (written ++ reader.lines.output.items) reader.lines.head.read
  pub number : reader.lines.line ≡ length raws
  pub named : string_bytes reader.lines.name ≡ name
  pub right : IsTrue reader.lines.is_right ↔ (written ++ reader.lines.output.items ≡ [])
  pub is_held : reader.held.items ≡ take 4097 held
  pub one : HasNoFeed held
  pub appends : Appends before after written
  pub entered : IsTrue reader.lines.is_right → (lines : List LogLine) × AreLines 1 0 raws lines reader.lines.head.read × HasRead lines reader.lines.entries

-- the bytes lead from one state to the other
abbrev pub Leads : LineReader → Option (List ℕ) → List ℕ → LineReader → Option (List ℕ) → Type 0
Leads old u bytes new v =
    (name read : List ℕ) (before : Option (List ℕ)) → At name read before old u → At name (read ++ bytes) before new v

-- the open line was taken
pub record EndsLine (old : LineReader) (ended : Bool) (new : LineReader) : Type 0 where
  pub takes : TakesLine old.lines old.held.items ended new.lines
  pub held : new.held.items ≡ []

-- the listing was written
pub record Writes (old : LineReader) (u : Option (List ℕ)) (new : LineReader) (v : Option (List ℕ)) : Type 0 where
  pub appends : Appends u v old.lines.output.items
  pub output : new.lines.output.items ≡ []
  pub head : new.lines.head ≡ old.lines.head
  pub entries : new.lines.entries ≡ old.lines.entries
  pub line : new.lines.line ≡ old.lines.line
  pub name : string_bytes new.lines.name ≡ string_bytes old.lines.name
  pub right : new.lines.is_right ≡ old.lines.is_right
  pub held : new.held.items ≡ old.held.items

-- the whole input was read
pub record Finished (name input : List ℕ) (before : Option (List ℕ)) (reader : LineReader) (after : Option (List ℕ)) : Type 0 where
  pub written : List ℕ
  pub read : IsRead name input (written ++ reader.lines.output.items)
  pub right : IsTrue reader.lines.is_right ↔ (written ++ reader.lines.output.items ≡ [])
  pub appends : Appends before after written
  pub entered : IsTrue reader.lines.is_right → (lines : List LogLine) × IsLog input lines × HasRead lines reader.lines.entries

-- the whole input was read, and its listing written; right says whether that is empty, and these are the entries then
abbrev pub ReadsLines : List ℕ → List ℕ → Bool → EntryReader → Option (List ℕ) → Option (List ℕ) → Type 0
ReadsLines name input right entries before after =
    (text : List ℕ) × IsRead name input text × (IsTrue right ↔ (text ≡ [])) × Appends before after text × (IsTrue right → (lines : List LogLine) × IsLog input lines × HasRead lines entries)

-- the end of the input was taken, and the listing written
abbrev pub Completes : LineReader → Option (List ℕ) → LineReader → Option (List ℕ) → Type 0
Completes old u new v =
    (name input : List ℕ) (before : Option (List ℕ)) → At name input before old u → ReadsLines name input new.lines.is_right new.lines.entries before v

-- bytes of the input were read, and led to this state
pub record Ran (name : List ℕ) (start rest : Option (List ℕ)) (reader : LineReader) (before after : Option (List ℕ)) : Type 0 where
  pub read : List ℕ
  pub consumes : Consumes start rest read
  pub at : At name read before reader after

-- the whole input was read, if it is known, and its listing written
abbrev pub IsWhole : List ℕ → Option (List ℕ) → LineReader → Option (List ℕ) → Option (List ℕ) → Type 0
IsWhole name start reader before after = IfSome start (λ input. ReadsLines name input reader.lines.is_right reader.lines.entries before after)

-- a piece of the input was read, after which there may be more, or its end
abbrev pub Runs : Bool → List ℕ → Option (List ℕ) → Option (List ℕ) → LineReader → Option (List ℕ) → Option (List ℕ) → Type 0
Runs true name start rest reader before after = Ran name start rest reader before after
Runs false name start rest reader before after = IsWhole name start reader before after
