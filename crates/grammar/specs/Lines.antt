-- The lines of a script or a transcript: where each ends, and what they spell together.
use Rattle.std.specs.Prelude.{◌≡◌, ℕ, ◌<◌, ◌≤◌, ◌⊎◌, List, [], ◌∷◌, ◌++◌, length}
use Rattle.std.specs.Str.Lines.{strip_carriage_return}
use Rattle.grammar.specs.declared.line.Language.{Language}
use Rattle.grammar.specs.declared.line.Line.{Line}
use Rattle.words.specs.Words.{HasNone}
use Rattle.grammar.specs.Spelling.{Spells}

-- no byte is a line feed
abbrev pub HasNoFeed : List ℕ → Type 0
HasNoFeed bytes = HasNone 10 bytes

-- the text, without a line feed, is a line that says this
pub record IsLine (language : Language) (raw : List ℕ) (line : Line) : Type 0 where
  pub one : HasNoFeed raw
  pub short : length raw ≤ 256
  pub spells : Spells language (strip_carriage_return raw) line

-- the bytes begin with a line that spells `line`, and its line feed; `rest` comes after it
pub record EndedLine (language : Language) (bytes : List ℕ) (line : Line) (rest : List ℕ) : Type 0 where
  pub raw : List ℕ
  pub whole : bytes ≡ raw ++ 10 ∷ rest
  pub one : HasNoFeed raw
  pub short : length raw ≤ 256
  pub spells : Spells language (strip_carriage_return raw) line

-- the bytes are a last line, which lacks its line feed and spells `line`
pub record LastLine (language : Language) (bytes : List ℕ) (line : Line) : Type 0 where
  pub some : 0 < length bytes
  pub one : HasNoFeed bytes
  pub short : length bytes ≤ 256
  pub spells : Spells language bytes line

-- the first line of the bytes spells this line, and the rest comes after it
abbrev pub ReadsLine : Language → List ℕ → Line → List ℕ → Type 0
ReadsLine language bytes line rest = EndedLine language bytes line rest ⊎ (LastLine language bytes line × (rest ≡ []))

-- the first lines of the bytes spell these lines, and the rest comes after them
abbrev pub Reads : Language → List ℕ → List Line → List ℕ → Type 0
Reads language bytes [] rest = bytes ≡ rest
Reads language bytes (line ∷ lines) rest = (mid : List ℕ) × ReadsLine language bytes line mid × Reads language mid lines rest

-- the first line of the bytes is not a line of the language
pub record BeginsWrong (language : Language) (bytes : List ℕ) : Type 0 where
  pub some : 0 < length bytes
  pub wrong : (line : Line) (rest : List ℕ) → ReadsLine language bytes line rest → ⊥
