-- What is written of a script: the progress of the world to which its first lines lead, and then more facts of it.
use Rattle.std.specs.Prelude.{◌≡◌, ℕ, ◌+◌, ◌<◌, ◌⊎◌, Bool, true, false, List, [], ◌∷◌, ◌++◌, length, Option, Some, None, ⊤}
use Rattle.std.specs.Io.KnownBytes.{Appends}
use Rattle.grammar.specs.declared.line.Language.TheVariants.{Script}
use Rattle.grammar.specs.declared.line.Line.{Line}
use Rattle.grammar.specs.Lines.{HasNoFeed, Reads, BeginsWrong}
use Rattle.grammar.specs.Printed.{progress_line}
use Rattle.engine.specs.declared.line_runner.Mode.TheVariants.{Lines}
use Rattle.engine.specs.declared.fault.RunFault.{RunFault}
use Rattle.engine.specs.declared.fault.RunFault.TheVariants as faults
use Rattle.engine.specs.Engine.{Front}
use Rattle.engine.specs.Lines.{joined}
use Rattle.engine.specs.Script.{Runs}
use Rattle.engine.specs.Worlds.{progress_in}
use Rattle.mig_model.specs.Migration.{World}
use Rattle.show.specs.declared.what.Asked.{Asked}
use Rattle.show.specs.declared.what.Form.{Form}
use Rattle.show.specs.declared.what.Form.TheVariants as forms
use Rattle.show.specs.declared.what.What.{What}
use Rattle.show.specs.declared.what.What.TheVariants as whats
use Rattle.show.specs.Json.{IsObject}
use Rattle.show.specs.Owed.{IsOwedText}

-- The first lines

-- how many lines some bytes without a line feed are
abbrev pub lines_of : List ℕ → ℕ
lines_of [] = 0
lines_of (byte ∷ bytes) = 1

-- none of the lines has a line feed
abbrev pub HaveNoFeed : List (List ℕ) → Type 0
HaveNoFeed [] = ⊤
HaveNoFeed (raw ∷ raws) = HasNoFeed raw × HaveNoFeed raws

-- an input begins with this many lines: each has a line feed, but the last line of the input may lack it
pub record AreFirst (count : ℕ) (input front : List ℕ) : Type 0 where
  pub raws : List (List ℕ)
  pub last : List ℕ
  pub rest : List ℕ
  pub each : HaveNoFeed raws
  pub one : HasNoFeed last
  pub parts : front ≡ joined raws ++ last
  pub whole : input ≡ front ++ rest
  pub ends : 0 < length last → rest ≡ []
  pub counts : count ≡ length raws + lines_of last

-- an input has fewer lines than this
pub record HasFewer (count : ℕ) (input : List ℕ) : Type 0 where
  pub raws : List (List ℕ)
  pub last : List ℕ
  pub each : HaveNoFeed raws
  pub one : HasNoFeed last
  pub whole : input ≡ joined raws ++ last
  pub counts : length raws + lines_of last < count

-- more lines are asked for than an input has
abbrev pub IsBeyond : Option ℕ → List ℕ → Type 0
IsBeyond None input = ⊥
IsBeyond (Some count) input = HasFewer count input

-- the lines of an input that are run: the number asked for, or all
abbrev pub IsRun : Option ℕ → List ℕ → List ℕ → Type 0
IsRun None input front = front ≡ input
IsRun (Some count) input front = AreFirst count input front

-- The world

-- the bytes are a script, whose run leads from one world to the other
pub record LeadsTo (start : World) (bytes : List ℕ) (end : World) : Type 0 where
  pub lines : List Line
  pub out : List ℕ
  pub reads : Reads Script bytes lines []
  pub runs : Runs Lines start lines end out

-- line `n` of the bytes is the first that is not a line of a script
pub record IsWrongAt (bytes : List ℕ) (n : ℕ) : Type 0 where
  pub lines : List Line
  pub rest : List ℕ
  pub reads : Reads Script bytes lines rest
  pub number : n ≡ length lines + 1
  pub wrong : BeginsWrong Script rest

-- why bytes were not run to their end: at a wrong line they are no script
abbrev pub IsStop : List ℕ → RunFault → Type 0
IsStop bytes (faults.Line n) = IsWrongAt bytes n
IsStop bytes faults.ReadFault = ⊤
IsStop bytes faults.WriteFault = ⊤
IsStop bytes faults.NoMemory = ⊤

-- What is written

-- whether the owed pages are asked for
abbrev pub asks_owed : What → Bool
asks_owed whats.Cpus = false
asks_owed whats.Queues = false
asks_owed whats.Owed = true
asks_owed whats.Wires = false
asks_owed whats.Pages = false
asks_owed whats.All = true

-- the text is of this world: the line that `progress` would write, and the owed pages if they are asked for; what is before and after
-- them is any text, and there is none where they alone are asked for
pub record IsOf (world : World) (what : What) (text : List ℕ) : Type 0 where
  pub before : List ℕ
  pub between : List ℕ
  pub after : List ℕ
  pub whole : text ≡ progress_line (progress_in world) ++ before ++ between ++ after
  pub owed : asks_owed what ≡ true → IsOwedText world between
  pub alone : what ≡ whats.Owed → (before ≡ []) × (after ≡ [])

-- the text is of this world, in the form that is asked for
abbrev pub IsText : Form → World → What → List ℕ → Type 0
IsText forms.Lines world what text = IsOf world what text
IsText forms.Json world what text = IsObject world text

-- a text of this world was written
abbrev pub Writes : World → Asked → Option (List ℕ) → Option (List ℕ) → Type 0
Writes world asked before after = (text : List ℕ) × IsText asked.form world asked.what text × Appends before after text

-- the lines that are asked for were run, and lead to this world
pub record IsReached (start : World) (at : Option ℕ) (input : List ℕ) (world : World) : Type 0 where
  pub front : List ℕ
  pub run : IsRun at input front
  pub leads : LeadsTo start front world

-- what is written: a text of the world that is reached, or nothing if the input has fewer lines
abbrev pub Shows : Bool → World → Asked → List ℕ → Option (List ℕ) → Option (List ℕ) → Type 0
Shows true start asked input before after = (world : World) × IsReached start asked.at input world × Writes world asked before after
Shows false start asked input before after = IsBeyond asked.at input × Appends before after []

-- a fault while the text of a world is written: only at a write fault a part of it was
abbrev pub WriteStops : World → Asked → RunFault → Option (List ℕ) → Option (List ℕ) → Type 0
WriteStops world asked (faults.Line n) before after = ⊥
WriteStops world asked faults.ReadFault before after = ⊥
WriteStops world asked faults.WriteFault before after = (text : List ℕ) × IsText asked.form world asked.what text × Front text before after
WriteStops world asked faults.NoMemory before after = Appends before after []

-- how it ends with a fault: at a wrong line that is the first of those that are run, and nothing is written but for a part of the text
-- at a write fault
abbrev pub ShowStops : World → Asked → List ℕ → RunFault → Option (List ℕ) → Option (List ℕ) → Type 0
ShowStops start asked input (faults.Line n) before after = (front : List ℕ) × IsRun asked.at input front × IsWrongAt front n × Appends before after []
ShowStops start asked input faults.ReadFault before after = Appends before after []
ShowStops start asked input faults.WriteFault before after =
    Appends before after [] ⊎ ((world : World) × IsReached start asked.at input world × WriteStops world asked faults.WriteFault before after)
ShowStops start asked input faults.NoMemory before after = Appends before after []
