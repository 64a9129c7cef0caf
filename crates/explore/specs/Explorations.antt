-- The text of an exploration: a comment, the lines of a script, and after each what a run prints for it.
use Rattle.std.specs.Prelude.{◌≡◌, ℕ, ◌≤◌, ◌⊎◌, ◌||◌, ⊤, List, [], ◌∷◌, ◌++◌, length, Bool, true, false, Option, codes}
use Rattle.std.specs.Io.KnownBytes.{Appends}
use Rattle.mig_base.specs.declared.schedule.Step.{Step}
use Rattle.mig_model.specs.Migration.{World, next}
use Rattle.mig_model.specs.Promises.{IsComplete}
use Rattle.grammar.specs.declared.line.Language.TheVariants.{Script}
use Rattle.grammar.specs.declared.line.Line.{Line}
use Rattle.grammar.specs.declared.line.Line.TheVariants.{Skipped, Do}
use Rattle.grammar.specs.declared.order.Order.{Order}
use Rattle.grammar.specs.Lines.{IsLine, Reads}
use Rattle.engine.specs.declared.line_runner.Mode.TheVariants.{Lines}
use Rattle.engine.specs.Script.{Obeys, Runs}
use Rattle.finish.specs.Finishing.{needs_epoch}
use Rattle.explore.specs.declared.plan.Plan.{Plan}

-- what follows the text of a line: its line feed, or with answers => and the line that a run prints
abbrev pub tail : Bool → List ℕ → List ℕ
tail false out = 10 ∷ []
tail true out = codes " => " ++ out

-- a comment was added to a text
pub record IsComment (before after : List ℕ) : Type 0 where
  pub raw : List ℕ
  pub line : IsLine Script raw Skipped
  pub whole : after ≡ before ++ (raw ++ 10 ∷ [])

-- a line was added to a text: a world carried out what it says
pub record Adds (answers : Bool) (old new : World) (before after : List ℕ) : Type 0 where
  pub raw : List ℕ
  pub order : Order
  pub out : List ℕ
  pub line : IsLine Script raw (Do order)
  pub obeys : Obeys Lines old order new out
  pub whole : after ≡ before ++ (raw ++ tail answers out)

-- a world carries out lines one after the other, and this is their text
abbrev pub Explores : Bool → World → List (List ℕ) → World → List ℕ → Type 0
Explores answers old [] new text = (new ≡ old) × (text ≡ [])
Explores answers old (raw ∷ raws) new text = (mid : World) × (order : Order) × (out : List ℕ) × (more : List ℕ)
    × IsLine Script raw (Do order) × Obeys Lines old order mid out × (text ≡ (raw ++ tail answers out) ++ more) × Explores answers mid raws new more

-- the text is a comment and this number of lines, which lead from the first state to the last
pub record Explored (answers : Bool) (start : World) (count : ℕ) (end : World) (text : List ℕ) : Type 0 where
  pub comment : List ℕ
  pub raws : List (List ℕ)
  pub more : List ℕ
  pub first : IsLine Script comment Skipped
  pub number : length raws ≡ count
  pub explores : Explores answers start raws end more
  pub whole : text ≡ (comment ++ 10 ∷ []) ++ more

-- a front of the text was written, and the rest is still there
pub record Gone (text rest : List ℕ) (before after : Option (List ℕ)) : Type 0 where
  pub written : List ℕ
  pub whole : text ≡ written ++ rest
  pub appends : Appends before after written

-- the lines lead from the start to this world; the front of their text was written, and `output` is the rest
pub record Going (answers : Bool) (start : World) (count : ℕ) (world : World) (before after : Option (List ℕ)) (output : List ℕ) : Type 0 where
  pub written : List ℕ
  pub appends : Appends before after written
  pub explored : Explored answers start count world (written ++ output)

-- the world made this step
abbrev pub MakesIt : World → Step → World → Type 0
MakesIt old step new = new ≡ next old step

-- this number of lines or more lead to a world where the migration is complete, or needs an epoch after the last
abbrev pub IsFinished : ℕ → ℕ → World → Type 0
IsFinished steps count end = (steps ≤ count) × (IsComplete end ⊎ (needs_epoch end ≡ true))

-- the number of lines after the comment: that of the steps, or with a sweep that or more
abbrev pub IsSwept : Bool → ℕ → ℕ → Type 0
IsSwept false steps count = count ≡ steps
IsSwept true steps count = steps ≤ count

-- the same; with `finish` lines that complete the migration follow the steps, and a sweep follows these in any case
abbrev pub IsCount : Bool → Bool → ℕ → ℕ → World → Type 0
IsCount false sweep steps count end = IsSwept sweep steps count
IsCount true sweep steps count end = IsFinished steps count end

-- no more lines than these, or where others follow the steps any number
abbrev pub AreFew : Bool → ℕ → ℕ → Type 0
AreFew false most count = count ≤ most
AreFew true most count = ⊤

-- whatever lines led here, they lead on to the second world
abbrev pub GoesOn : Bool → World → Option (List ℕ) → List ℕ → World → Option (List ℕ) → List ℕ → Type 0
GoesOn answers old gone output new now rest = (start : World) (count : ℕ) (before : Option (List ℕ)) → Going answers start count old before gone output
    → (more : ℕ) × (count ≤ more) × Going answers start more new before now rest

-- a whole text was written
pub record Writes (answers finish sweep : Bool) (start : World) (steps : ℕ) (before after : Option (List ℕ)) : Type 0 where
  pub end : World
  pub count : ℕ
  pub text : List ℕ
  pub number : IsCount finish sweep steps count end
  pub explored : Explored answers start count end text
  pub appends : Appends before after text

-- a front of a text was written; `longer` says whether other lines follow the steps
pub record Stops (answers longer : Bool) (start : World) (most : ℕ) (before after : Option (List ℕ)) : Type 0 where
  pub end : World
  pub count : ℕ
  pub written : List ℕ
  pub more : List ℕ
  pub few : AreFew longer most count
  pub explored : Explored answers start count end (written ++ more)
  pub appends : Appends before after written

-- whatever lines led here, they end among those that follow the steps
abbrev pub StopsOn : Bool → World → Option (List ℕ) → List ℕ → Option (List ℕ) → Type 0
StopsOn answers old gone output now = (start : World) (count : ℕ) (before : Option (List ℕ)) → Going answers start count old before gone output
    → Stops answers true start count before now

-- The text of a plan

-- the whole text was written
abbrev pub WritesPlan : Plan → World → Option (List ℕ) → Option (List ℕ) → Type 0
WritesPlan plan start before after = Writes plan.answers plan.finish plan.sweep start plan.steps before after

-- a front of it was written
abbrev pub StopsPlan : Plan → World → Option (List ℕ) → Option (List ℕ) → Type 0
StopsPlan plan start before after = Stops plan.answers (plan.finish || plan.sweep) start plan.steps before after

-- wherever the steps of the plan led here from, the whole text was written
abbrev pub CompletesPlan : Plan → World → Option (List ℕ) → List ℕ → Option (List ℕ) → Type 0
CompletesPlan plan old gone output now = (start : World) (before : Option (List ℕ)) → Going plan.answers start plan.steps old before gone output → WritesPlan plan start before now

-- and here a front of it
abbrev pub CutsPlan : Plan → World → Option (List ℕ) → List ℕ → Option (List ℕ) → Type 0
CutsPlan plan old gone output now = (start : World) (before : Option (List ℕ)) → Going plan.answers start plan.steps old before gone output → StopsPlan plan start before now

-- the text is a script of this number of lines, whose run leads from the first state to the last
pub record IsScript (start end : World) (count : ℕ) (text : List ℕ) : Type 0 where
  pub lines : List Line
  pub out : List ℕ
  pub number : length lines ≡ count
  pub reads : Reads Script text lines []
  pub runs : Runs Lines start lines end out
