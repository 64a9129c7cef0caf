-- Texts of lines: whether one is a line of a language, and the status that it would have in a world.
use Rattle.std.specs.Prelude.{◌≡◌, ℕ, List}
use Rattle.std.specs.declared.option.Option.{Option}
use Rattle.std.specs.declared.option.Option.TheVariants.{None, Some}
use Rattle.mig_base.specs.declared.schedule.Step.{Step}
use Rattle.mig_model.specs.Migration.{World as Machine, answer}
use Rattle.mig_model.specs.NodeSteps.{checked}
use Rattle.grammar.specs.Orders.{step_of}
use Rattle.grammar.specs.Spelling.{Spells}
use Rattle.grammar.specs.declared.line.Language.{Language}
use Rattle.grammar.specs.declared.line.Language.TheVariants.{Script}
use Rattle.grammar.specs.declared.line.Line.{Line}
use Rattle.grammar.specs.declared.line.Line.TheVariants.{Skipped, Do, Enter}
use Rattle.engine.specs.Engine.{Gathered, run_world}
use Rattle.engine.specs.Worlds.{epoch_in}
use Rattle.postmig_c.specs.NodeCalls.{Checks}

-- no line of the language has this text
abbrev pub IsNoLineOf : Language → List ℕ → Type 0
IsNoLineOf language text = (line : Line) → Spells language text line → ⊥

-- What a line would do

-- the status that a step would have in a world, memory aside; what makes no step is never refused
abbrev pub ChecksStep : Machine → Option Step → ℕ → Type 0
ChecksStep state (Some step) status = Checks (checked (answer state step)) status
ChecksStep state None status = status ≡ 0

-- the same of a line of a script
abbrev pub ChecksLine : Machine → Line → ℕ → Type 0
ChecksLine state Skipped status = status ≡ 0
ChecksLine state (Do order) status = ChecksStep state (step_of order (epoch_in state)) status
ChecksLine state (Enter entry) status = ⊥

-- the text spells a line of a script, and this is the status that it would have in the world that is run
pub record Would (runner : Gathered) (text : List ℕ) (status : ℕ) : Type 0 where
  pub state : Machine
  pub line : Line
  pub runs : run_world runner.work ≡ Some state
  pub spells : Spells Script text line
  pub checks : ChecksLine state line status
