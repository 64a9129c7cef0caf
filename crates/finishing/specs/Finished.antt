-- What finishes a script: the lines of the steps that complete its migration.
use Rattle.std.specs.Prelude.{◌≡◌, ℕ, ◌+◌, ◌⊎◌, List, [], ◌∷◌, ◌++◌, length, Option, true}
use Rattle.std.specs.Io.KnownBytes.{Appends}
use Rattle.mig_base.specs.declared.schedule.Step.{Step}
use Rattle.mig_model.specs.Promises.{IsComplete}
use Rattle.grammar.specs.declared.line.Language.TheVariants.{Script}
use Rattle.grammar.specs.declared.line.Line.{Line}
use Rattle.grammar.specs.declared.line.Line.TheVariants.{Do}
use Rattle.grammar.specs.declared.order.Order.{Order}
use Rattle.grammar.specs.Fits.{CanBeSpelled}
use Rattle.grammar.specs.Lines.{IsLine, Reads, BeginsWrong}
use Rattle.grammar.specs.Orders.{HasStep, order_of}
use Rattle.engine.specs.declared.line_runner.Mode.TheVariants.{Lines}
use Rattle.engine.specs.declared.fault.RunFault.{RunFault}
use Rattle.engine.specs.declared.fault.RunFault.TheVariants as faults
use Rattle.engine.specs.Engine.{Front}
use Rattle.engine.specs.Script.{Runs}
use Rattle.mig_model.specs.Migration.{World}
use Rattle.finish.specs.Finishing.{AreDue, Leads, lacks_epoch}
use Rattle.finishing.specs.declared.ending.Ending.{Ending}
use Rattle.finishing.specs.declared.ending.Ending.TheVariants.{Complete, NoEpoch}

-- Lines

-- the text is a line that spells this step
pub record IsStepLine (raw : List ℕ) (step : Step) : Type 0 where
  pub order : Order
  pub line : IsLine Script raw (Do order)
  pub makes : HasStep order step

-- the text has a line for each step, with its line feed
abbrev pub AreLines : List Step → List ℕ → Type 0
AreLines [] text = text ≡ []
AreLines (step ∷ steps) text = (raw : List ℕ) × (more : List ℕ) × IsStepLine raw step × (text ≡ (raw ++ 10 ∷ []) ++ more) × AreLines steps more

-- a line can say each step
abbrev pub HaveLines : List Step → Type 0
HaveLines [] = Unit {0}
HaveLines (step ∷ steps) = CanBeSpelled (order_of step) × HaveLines steps

-- the lines of the steps were added to a text
abbrev pub Adds : List Step → List ℕ → List ℕ → Type 0
Adds steps before after = (more : List ℕ) × (after ≡ before ++ more) × AreLines steps more

-- the lines of the steps, after a line feed or none
abbrev pub AreBehind : List Step → List ℕ → Type 0
AreBehind steps text = (front : List ℕ) × (lines : List ℕ) × ((front ≡ []) ⊎ (front ≡ 10 ∷ [])) × (text ≡ front ++ lines) × AreLines steps lines

-- Endings

-- the text has the lines of the strategy's steps, which complete the migration of a world; none of them is refused
pub record Completes (world : World) (text : List ℕ) : Type 0 where
  pub steps : List Step
  pub end : World
  pub leads : Leads world steps end
  pub due : AreDue world steps
  pub complete : IsComplete end
  pub lines : AreBehind steps text

-- what is written for a world: the lines that complete its migration, or nothing where a Start or a Resume is needed and the epoch is the
-- last
abbrev pub EndsScript : Ending → World → Option (List ℕ) → Option (List ℕ) → Type 0
EndsScript Complete world before after = (text : List ℕ) × Completes world text × Appends before after text
EndsScript NoEpoch world before after = (lacks_epoch world ≡ true) × Appends before after []

-- a fault after the script. Only a write fault comes after a part of the lines was written
abbrev pub FailsAfterScript : World → RunFault → Option (List ℕ) → Option (List ℕ) → Type 0
FailsAfterScript world (faults.Line n) before after = ⊥
FailsAfterScript world faults.ReadFault before after = ⊥
FailsAfterScript world faults.WriteFault before after = (text : List ℕ) × Completes world text × Front text before after
FailsAfterScript world faults.NoMemory before after = Appends before after []

-- the input is a script, whose run leads from the first state to the last
pub record LeadsTo (start : World) (input : List ℕ) (end : World) : Type 0 where
  pub lines : List Line
  pub out : List ℕ
  pub reads : Reads Script input lines []
  pub runs : Runs Lines start lines end out

-- the bytes are none, or they end with a line feed
abbrev pub IsEnded : List ℕ → Type 0
IsEnded bytes = (bytes ≡ []) ⊎ ((front : List ℕ) × (bytes ≡ front ++ 10 ∷ []))

-- the script was run, and what finishes it was written
abbrev pub FinishesScript : Ending → World → List ℕ → Option (List ℕ) → Option (List ℕ) → Type 0
FinishesScript ending start input before after = (world : World) × LeadsTo start input world × EndsScript ending world before after

-- line `n` of the input is the first that is not a line of a script
pub record WrongAt (input : List ℕ) (n : ℕ) : Type 0 where
  pub lines : List Line
  pub rest : List ℕ
  pub reads : Reads Script input lines rest
  pub number : n ≡ length lines + 1
  pub wrong : BeginsWrong Script rest

-- how it ends with a fault: at a wrong line of the script, or after the script
abbrev pub FinishStops : World → List ℕ → RunFault → Option (List ℕ) → Option (List ℕ) → Type 0
FinishStops start input (faults.Line n) before after = WrongAt input n × Appends before after []
FinishStops start input faults.ReadFault before after = Appends before after []
FinishStops start input faults.WriteFault before after = Appends before after [] ⊎ ((world : World) × LeadsTo start input world × FailsAfterScript world faults.WriteFault before after)
FinishStops start input faults.NoMemory before after = Appends before after []
