-- Lines that are read one after the other, and handed to a sink.
use Rattle.std.specs.Prelude.{◌≡◌, ℕ, ◌+◌, ◌<◌, ◌≤◌, ◌⊎◌, Bool, true, false, List, [], ◌∷◌, ◌++◌, length, take, Option, Result, IfErr, IfSome, ⊤}
use Rattle.std.specs.Io.KnownBytes.{Appends}
use Rattle.grammar.specs.declared.line.Language.{Language}
use Rattle.grammar.specs.declared.line.Line.{Line}
pub use Rattle.lines.specs.Lines.{HasNoFeed, line_text, joined}
use Rattle.grammar.specs.Spelling.{Spells}
use Rattle.engine.specs.declared.fault.RunFault.{RunFault}
use Rattle.engine.specs.declared.fault.RunFault.TheVariants as faults

-- One line

-- a line as a sink takes it: its first 256 bytes, how many it has, and whether a line feed ends it
pub record RawLine : Type 0 where
  pub front : List ℕ
  pub len : ℕ
  pub ended : Bool

-- the line of these parts
abbrev pub held_line : List ℕ → ℕ → Bool → RawLine
held_line front len ended = record { front = front; len = len; ended = ended }

-- the line of these bytes
abbrev pub raw_line : List ℕ → Bool → RawLine
raw_line bytes ended = held_line (take 256 bytes) (length bytes) ended

-- the line spells this one of the language
abbrev pub SpellsRaw : Language → RawLine → Line → Type 0
SpellsRaw language raw line = (raw.len ≤ 256) × Spells language (line_text raw.ended raw.front) line

-- the line with this number ended with a fault: it is wrong, or memory ran out
abbrev pub LineFault : Type 0 → ℕ → RunFault → Type 0
LineFault Wrong number (faults.Line n) = (n ≡ number) × Wrong
LineFault Wrong number faults.ReadFault = ⊥
LineFault Wrong number faults.WriteFault = ⊥
LineFault Wrong number faults.NoMemory = ⊤

-- a whole input was not read: a read failed, or memory ran out
abbrev pub IsReadFault : RunFault → Type 0
IsReadFault (faults.Line n) = ⊥
IsReadFault faults.ReadFault = ⊤
IsReadFault faults.WriteFault = ⊥
IsReadFault faults.NoMemory = ⊤

-- Lines that a sink took. `takes` relates its state, the number of a line, the line, its state after it, and the output

-- the last line, which lacks its line feed, was taken, or there is none
abbrev pub TakesLast : {S : Type 0} → (S → ℕ → RawLine → S → List ℕ → Type 0) → S → ℕ → List ℕ → S → List ℕ → Type 0
TakesLast takes old n last new text =
    ((last ≡ []) × (new ≡ old) × (text ≡ [])) ⊎ ((0 < length last) × HasNoFeed last × takes old n (raw_line last false) new text)

-- the lines from number `n` on were taken: each of `raws`, which ends with a line feed, and then the last
abbrev pub TakesAll : {S : Type 0} → (S → ℕ → RawLine → S → List ℕ → Type 0) → S → ℕ → List (List ℕ) → List ℕ → S → List ℕ → Type 0
TakesAll takes old n [] last new text = TakesLast takes old n last new text
TakesAll {S} takes old n (raw ∷ raws) last new text = (mid : S) × (out : List ℕ) × (more : List ℕ)
    × HasNoFeed raw × takes old n (raw_line raw true) mid out × (text ≡ out ++ more) × TakesAll takes mid (n + 1) raws last new more

-- the first lines of an input were taken, and `rest` is left of it; of their output `more` was not written
pub record Taken {S : Type 0} (takes : S → ℕ → RawLine → S → List ℕ → Type 0) (start : S) (input last more : List ℕ) (before after : Option (List ℕ)) : Type 0 where
  pub raws : List (List ℕ)
  pub rest : List ℕ
  pub end : S
  pub written : List ℕ
  pub whole : input ≡ joined raws ++ (last ++ rest)
  pub ends : 0 < length last → rest ≡ []
  pub all : TakesAll takes start 1 raws last end (written ++ more)
  pub appends : Appends before after written

-- How reading ends

-- the whole input was taken, which leaves the sink in this state; of the output `more` was not written
abbrev pub Finishes : {S : Type 0} → (S → ℕ → RawLine → S → List ℕ → Type 0) → S → List ℕ → S → List ℕ → Option (List ℕ) → Option (List ℕ) → Type 0
Finishes takes start input end more before after =
    (last : List ℕ) × (t : Taken takes start input last more before after) × (t.rest ≡ []) × (t.end ≡ end)

-- the bytes begin with this line and its line feed, or they are the last line, or they begin with more than 256 bytes of a line
abbrev pub Begins : List ℕ → List ℕ → Bool → Type 0
Begins bytes raw true = (rest : List ℕ) × (bytes ≡ raw ++ 10 ∷ rest)
Begins bytes raw false = (bytes ≡ raw) ⊎ ((256 < length raw) × (rest : List ℕ) × (bytes ≡ raw ++ rest))

-- the sink refuses the line that the bytes begin with, whose number is `n`
pub record Refused {S : Type 0} (refuses : S → ℕ → RawLine → Type 0) (state : S) (n : ℕ) (bytes : List ℕ) : Type 0 where
  pub raw : List ℕ
  pub ended : Bool
  pub one : HasNoFeed raw
  pub begins : Begins bytes raw ended
  pub wrong : refuses state n (raw_line raw ended)

-- a call that reads an input and writes ended with a fault as `Holds` says of the input, what is left of it, the fault, and what was
-- written before and after. Nothing is said of a reader whose input is not known
abbrev pub FaultsAs : {T F : Type 0} → Result T F → (List ℕ → Option (List ℕ) → F → Option (List ℕ) → Option (List ℕ) → Type 0) → (input unread before after : Option (List ℕ)) → Type 0
FaultsAs result Holds input unread before after = IfErr result (λ fault. IfSome input (λ bytes. Holds bytes unread fault before after))

-- what is left of the input ends with the bytes that were not read
abbrev pub HasRead : Option (List ℕ) → List ℕ → Type 0
HasRead unread rest = (held : List ℕ) × IfSome unread (λ bytes. rest ≡ held ++ bytes)

-- reading ended with this fault at the line after those that were taken
abbrev pub Breaks : {S : Type 0} → (S → ℕ → RawLine → S → List ℕ → Type 0) → (S → ℕ → RawLine → Type 0) → S → List ℕ → Option (List ℕ) → List ℕ → RunFault → Option (List ℕ) → Option (List ℕ) → Type 0
Breaks takes refuses start input unread more fault before after =
    (t : Taken takes start input [] more before after) × HasRead unread t.rest
    × LineFault (Refused refuses t.end (length t.raws + 1) t.rest) (length t.raws + 1) fault

-- reading ends with a fault
abbrev pub Stops : {S : Type 0} → (S → ℕ → RawLine → S → List ℕ → Type 0) → (S → ℕ → RawLine → Type 0) → S → List ℕ → Option (List ℕ) → RunFault → Option (List ℕ) → Option (List ℕ) → Type 0
-- all output of the lines before line `n` was written; the sink refuses line `n`
Stops takes refuses start input unread (faults.Line n) before after = Breaks takes refuses start input unread [] (faults.Line n) before after
-- each line that was read to its line feed was taken, and all output written
Stops takes refuses start input unread faults.ReadFault before after =
    (held : List ℕ) × HasNoFeed held × (t : Taken takes start input [] [] before after) × IfSome unread (λ bytes. t.rest ≡ held ++ bytes)
-- a part of the output was not written
Stops takes refuses start input unread faults.WriteFault before after =
    (last : List ℕ) × (more : List ℕ) × (0 < length more) × (t : Taken takes start input last more before after) × HasRead unread t.rest
-- all output of the lines before was written
Stops takes refuses start input unread faults.NoMemory before after = Breaks takes refuses start input unread [] faults.NoMemory before after
