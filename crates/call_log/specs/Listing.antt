-- What is listed of a log: a line of the output for each fault that a line of the log has.
use Rattle.std.specs.Prelude.{◌≡◌, ℕ, zero, suc, ◌+◌, ◌<◌, ◌≤◌, ◌⊎◌, List, [], ◌∷◌, ◌++◌, ◌↔◌, length, codes, Option, IsSome, IfSome}
use Rattle.std.specs.List.{concat, AllByRecursion}
use Rattle.std.specs.Fmt.{decimal}
use Rattle.std.specs.Io.KnownBytes.{Appends}
use Rattle.uffd_log.specs.declared.line.Line.{Line}
pub use Rattle.lines.specs.Lines.{HasNoFeed, joined}
use Rattle.uffd_log.specs.Lines.{Spells}
use Rattle.call_log.specs.declared.complete.ReadLog.{ReadLog}
use Rattle.log_entries.specs.declared.log_line.LogLine.{LogLine}
use Rattle.log_entries.specs.Readers.{HasRead}

-- the text begins with this one
abbrev pub BeginsWith : List ℕ → List ℕ → Type 0
BeginsWith front text = (rest : List ℕ) × (text ≡ front ++ rest)

-- a line of the output: a name, the number of a line, and what is said of it
pub record IsListed (name : List ℕ) (number : ℕ) (text : List ℕ) : Type 0 where
  pub said : List ℕ
  pub one : HasNoFeed said
  pub parts : text ≡ name ++ codes ":" ++ decimal number ++ codes ": " ++ said ++ 10 ∷ []

-- they are lines of the output, all with this number
abbrev pub AreListed : List ℕ → ℕ → List (List ℕ) → Type 0
AreListed name number texts = AllByRecursion (λ text. IsListed name number text) texts

-- how the line of the head begins that comes after this number of them
abbrev pub head_word : ℕ → List ℕ
head_word zero = codes "uffdlog"
head_word (suc zero) = codes "recorder"
head_word (suc (suc zero)) = codes "kernel"
head_word (suc (suc (suc zero))) = codes "page"
head_word (suc (suc (suc (suc zero)))) = codes "clock"
head_word _ = codes "command"

-- a line that is not listed: the next of the head, of which `before` lines came before it, or below the whole head one of the language
abbrev pub IsRight : ℕ → List ℕ → ℕ → Type 0
IsRight before raw after =
    (before < 6) × BeginsWith (head_word before) raw × (after ≡ before + 1)
    ⊎ (6 ≤ before) × ((line : Line) × Spells raw line) × (after ≡ before)

-- what is listed of a line, of which `number` is the number: nothing if it is right, and else lines with its number
pub record ListsLine (name : List ℕ) (number before : ℕ) (raw : List ℕ) (texts : List (List ℕ)) (after : ℕ) : Type 0 where
  pub first : number ≡ 1 → raw ≡ codes "uffdlog 1"
  pub listed : AreListed name number texts
  pub right : texts ≡ [] → (length raw < 4096) × IsRight before raw after
  pub more : before ≤ after

-- what is listed of lines, the first of which has this number; each ends with a line feed
abbrev pub Lists : List ℕ → ℕ → ℕ → List (List ℕ) → List ℕ → ℕ → Type 0
Lists name number before [] text after = (text ≡ []) × (after ≡ before)
Lists name number before (raw ∷ raws) text after =
    (texts : List (List ℕ)) × (more : List ℕ) × (mid : ℕ) × HasNoFeed raw × ListsLine name number before raw texts mid
    × (text ≡ concat texts ++ more) × Lists name (number + 1) mid raws more after

-- what is listed at the end of a log, of which `count` lines end with a line feed and `heads` are of the head: a last line that lacks its line feed, and a head that is not whole
pub record Ends (name : List ℕ) (count heads : ℕ) (last text : List ℕ) : Type 0 where
  pub cuts : List (List ℕ)
  pub shorts : List (List ℕ)
  pub number : ℕ
  pub cut : AreListed name (count + 1) cuts
  pub short : AreListed name number shorts
  pub is_cut : cuts ≡ [] → last ≡ []
  pub is_short : cuts ≡ [] → shorts ≡ [] → 6 ≤ heads
  pub parts : text ≡ concat cuts ++ concat shorts

-- the whole input was read as a log, and this is what is listed of it
pub record IsRead (name input text : List ℕ) : Type 0 where
  pub raws : List (List ℕ)
  pub last : List ℕ
  pub heads : ℕ
  pub above : List ℕ
  pub below : List ℕ
  pub whole : input ≡ joined raws ++ last
  pub one : HasNoFeed last
  pub lists : Lists name 1 0 raws above heads
  pub ends : Ends name (length raws) heads last below
  pub parts : text ≡ above ++ below

-- the lines below the head, each with its number; n is the number of the first of these, of which `before` lines of the head came before it
abbrev pub AreLines : ℕ → ℕ → List (List ℕ) → List LogLine → ℕ → Type 0
AreLines n before [] lines after = (lines ≡ []) × (after ≡ before)
AreLines n before (raw ∷ raws) lines after =
    (before < 6) × BeginsWith (head_word before) raw × AreLines (n + 1) (before + 1) raws lines after
    ⊎ (6 ≤ before) × ((line : Line) × (rest : List LogLine) × Spells raw line × (lines ≡ record { number = n; line = line } ∷ rest) × AreLines (n + 1) before raws rest after)

-- the input is a log with these lines below its head
pub record IsLog (input : List ℕ) (lines : List LogLine) : Type 0 where
  pub raws : List (List ℕ)
  pub heads : ℕ
  pub whole : input ≡ joined raws
  pub are : AreLines 1 0 raws lines heads
  pub head : 6 ≤ heads

-- the input is a log, and the entries of its lines were read
abbrev pub ReadsEntries : List ℕ → ReadLog → Type 0
ReadsEntries input read = (lines : List LogLine) × IsLog input lines × HasRead lines read.entries

-- the whole input was read, and what is listed of it written; a log is found exactly where that is nothing
abbrev pub ReadsLog : List ℕ → List ℕ → Option ReadLog → Option (List ℕ) → Option (List ℕ) → Type 0
ReadsLog name input found before after =
    (text : List ℕ) × IsRead name input text × (IsSome found ↔ (text ≡ [])) × Appends before after text × IfSome found (λ read. ReadsEntries input read)
