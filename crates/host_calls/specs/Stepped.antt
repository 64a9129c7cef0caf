-- The output of a run with the calls after each line.
use Rattle.std.specs.Prelude.{◌≡◌, ℕ, List, [], ◌∷◌, ◌++◌, Option, Some, None}
use Rattle.mig_base.specs.declared.schedule.Step.{Step}
use Rattle.grammar.specs.declared.line.Language.TheVariants.{Script}
use Rattle.grammar.specs.declared.line.Line.{Line}
use Rattle.grammar.specs.declared.line.Line.TheVariants.{Skipped, Do, Enter}
use Rattle.grammar.specs.declared.order.Order.{Order}
use Rattle.grammar.specs.Orders.{step_of}
use Rattle.grammar.specs.Printed.{Outcome, outcome_line, progress_line}
use Rattle.grammar.specs.Spelling.{Spells}
use Rattle.engine.specs.Script.{Finishes}
use Rattle.mig_model.specs.Migration.{World}
use Rattle.world.specs.Headline.{Headline}
use Rattle.engine.specs.Worlds.{Answered, epoch_in, progress_in}
use Rattle.host_calls.specs.Calls.{calls_by, node_of}
use Rattle.host_calls.specs.Texts.{call_lines}

-- One line

-- the output of a step: the line of its outcome, and after it the lines of its calls
unfoldable pub step_lines : Step → Outcome → World → List ℕ
step_lines step outcome new = outcome_line outcome ++ call_lines (node_of step) (calls_by step outcome new)

-- a step's effect on a world, and its output
abbrev pub MakesCalls : World → Step → World → List ℕ → Type 0
MakesCalls old step new text = (outcome : Outcome) × Answered old step outcome new × (text ≡ step_lines step outcome new)

-- the same for the step of an order; an order for progress has none, and changes nothing
abbrev pub MakesAnyCalls : World → Option Step → World → List ℕ → Type 0
MakesAnyCalls old (Some step) new text = MakesCalls old step new text
MakesAnyCalls old None new text = (new ≡ old) × (text ≡ progress_line (progress_in old))

-- an order's effect on a world, and its output
abbrev pub ObeysCalls : World → Order → World → List ℕ → Type 0
ObeysCalls old order new text = MakesAnyCalls old (step_of order (epoch_in old)) new text

-- a line's effect on a world, and its output
abbrev pub DoesCalls : World → Line → World → List ℕ → Type 0
DoesCalls old Skipped new text = (new ≡ old) × (text ≡ [])
DoesCalls old (Do order) new text = ObeysCalls old order new text
DoesCalls old (Enter entry) new text = ⊥

-- a text spells a line of a script, which has this effect and this output
abbrev pub IsLine : World → List ℕ → World → List ℕ → Type 0
IsLine old text new out = (line : Line) × Spells Script text line × DoesCalls old line new out

-- a text spells no line of a script
abbrev pub IsWrong : List ℕ → Type 0
IsWrong text = (line : Line) → Spells Script text line → ⊥

-- Runs

-- these lines lead from one state to the other, with this output
abbrev pub RunsCalls : World → List Line → World → List ℕ → Type 0
RunsCalls old [] new text = (new ≡ old) × (text ≡ [])
RunsCalls old (line ∷ lines) new text = (mid : World) × (out : List ℕ) × (more : List ℕ) × DoesCalls old line mid out × (text ≡ out ++ more) × RunsCalls mid lines new more

-- the lines are run from this state, with this output, and the promises hold for the last state
abbrev pub PrintsCalls : World → List Line → List ℕ → Type 0
PrintsCalls start lines text = (end : World) × RunsCalls start lines end text × Headline end

-- a run of a script reads the whole input, and writes its output
abbrev pub WritesCalls : World → List ℕ → Option (List ℕ) → Option (List ℕ) → Type 0
WritesCalls start input before after = Finishes Script (PrintsCalls start) input before after
