-- The lines of a test: a script's, some with the answer that they must have.
use Rattle.std.specs.Prelude.{◌≡◌, ℕ, ◌+◌, ◌<◌, ◌≤◌, ◌⊎◌, List, [], ◌∷◌, ◌++◌, length, take, drop, sum_by, codes, Option, Some, None, ⊤}
use Rattle.std.specs.Str.Lines.{strip_carriage_return}
use Rattle.memchr.specs.Find.{OccursAt, Nowhere}
use Rattle.grammar.specs.declared.line.Language.TheVariants.{Script}
use Rattle.grammar.specs.declared.line.Line.{Line}
use Rattle.grammar.specs.declared.line.Line.TheVariants.{Skipped, Do}
use Rattle.grammar.specs.declared.order.Order.{Order}
use Rattle.grammar.specs.declared.token.Token.TheVariants.{Number}
use Rattle.grammar.specs.Words.{words_of, AreTokens}
use Rattle.grammar.specs.Spelling.{Spells}
use Rattle.grammar.specs.Lines.{HasNoFeed}
use Rattle.engine.specs.declared.line_runner.Mode.TheVariants.{Lines}
use Rattle.engine.specs.Script.{Obeys}
use Rattle.mig_model.specs.Migration.{World, first_world}

-- a line of a test
pub data Case : Type 0 where
  -- it does nothing
  Nothing : Case
  -- the test has this number of processors
  Cpus : (count : ℕ) → Case
  -- an order, and the answer that it must have, if it is compared
  Asks : (order : Order) → (answer : Option (List ℕ)) → Case

-- what is between an order and its answer
abbrev pub arrow : List ℕ
arrow = codes " => "

-- the first arrow of the text is between these two parts
pub record Cut (text front answer : List ℕ) : Type 0 where
  pub at : ℕ
  pub occurs : OccursAt text arrow at
  pub first : Nowhere (OccursAt text arrow) 0 at
  pub before : front ≡ take at text
  pub behind : answer ≡ drop (at + 4) text

-- the first two words of the text are # and cpus, and these follow them
abbrev pub CpusLine : List ℕ → List (List ℕ) → Type 0
CpusLine text words = words_of text ≡ codes "#" ∷ codes "cpus" ∷ words

-- the text says that a test has this number of processors, 1 to 16
pub record SaysCpus (text : List ℕ) (count : ℕ) : Type 0 where
  pub words : List (List ℕ)
  pub line : CpusLine text words
  pub number : AreTokens (Number count ∷ []) words
  pub low : 1 ≤ count
  pub high : count ≤ 16

-- the text is not that of the first line, or begins otherwise than with # and cpus
abbrev pub NoCpus : ℕ → List ℕ → Type 0
NoCpus number text = number ≡ 1 → (words : List (List ℕ)) → CpusLine text words → ⊥

-- the text is an order and an answer, and not a line of a script
pub record Answered (text : List ℕ) (order : Order) (answer : List ℕ) : Type 0 where
  pub front : List ℕ
  pub cut : Cut text front answer
  pub spells : Spells Script front (Do order)
  pub other : (line : Line) → Spells Script text line → ⊥

-- the text of the line with this number says this
abbrev pub IsCase : ℕ → List ℕ → Case → Type 0
IsCase number text Nothing = NoCpus number text × Spells Script text Skipped
IsCase number text (Cpus count) = (number ≡ 1) × SaysCpus text count
IsCase number text (Asks order None) = Spells Script text (Do order)
IsCase number text (Asks order (Some answer)) = Answered text order answer

-- the bytes begin with a line that says this, and its line feed; rest comes after it
pub record EndedCase (number : ℕ) (bytes : List ℕ) (case : Case) (rest : List ℕ) : Type 0 where
  pub raw : List ℕ
  pub whole : bytes ≡ raw ++ 10 ∷ rest
  pub one : HasNoFeed raw
  pub short : length raw ≤ 256
  pub says : IsCase number (strip_carriage_return raw) case

-- the bytes are a last line, which lacks its line feed and says this
pub record LastCase (number : ℕ) (bytes : List ℕ) (case : Case) (rest : List ℕ) : Type 0 where
  pub some : 0 < length bytes
  pub one : HasNoFeed bytes
  pub short : length bytes ≤ 256
  pub says : IsCase number bytes case
  pub none : rest ≡ []

-- the first line of the bytes says this, and rest comes after it
abbrev pub ReadsCase : ℕ → List ℕ → Case → List ℕ → Type 0
ReadsCase number bytes case rest = EndedCase number bytes case rest ⊎ LastCase number bytes case rest

-- the first lines of the bytes, the first of which has this number, say these, and rest comes after them
abbrev pub ReadsCases : ℕ → List ℕ → List Case → List ℕ → Type 0
ReadsCases number bytes [] rest = bytes ≡ rest
ReadsCases number bytes (case ∷ cases) rest = (mid : List ℕ) × ReadsCase number bytes case mid × ReadsCases (number + 1) mid cases rest

-- the line with this number, with which the bytes begin, says nothing that a line may say
pub record BeginsWrong (number : ℕ) (bytes : List ℕ) : Type 0 where
  pub some : 0 < length bytes
  pub wrong : (case : Case) (rest : List ℕ) → ReadsCase number bytes case rest → ⊥

-- a line's effect on a world, and its output, which is that of a run of a script
abbrev pub DoesCase : World → Case → World → List ℕ → Type 0
DoesCase old Nothing new out = (new ≡ old) × (out ≡ [])
DoesCase old (Cpus count) new out = (new ≡ first_world count) × (out ≡ [])
DoesCase old (Asks order answer) new out = Obeys Lines old order new out

-- the output is the answer and a line feed, where the line has an answer
abbrev pub Meets : Case → List ℕ → Type 0
Meets Nothing out = ⊤
Meets (Cpus count) out = ⊤
Meets (Asks order None) out = ⊤
Meets (Asks order (Some answer)) out = out ≡ answer ++ 10 ∷ []

-- the lines lead from one world to the other, and the output of each meets its answer
abbrev pub Agrees : World → List Case → World → Type 0
Agrees old [] new = new ≡ old
Agrees old (case ∷ cases) new = (mid : World) × (out : List ℕ) × DoesCase old case mid out × Meets case out × Agrees mid cases new

-- how many answers a line has
abbrev pub answers_of : Case → ℕ
answers_of Nothing = 0
answers_of (Cpus count) = 0
answers_of (Asks order None) = 0
answers_of (Asks order (Some answer)) = 1

-- how many answers lines have
abbrev pub answers_in : List Case → ℕ
answers_in cases = sum_by answers_of cases
