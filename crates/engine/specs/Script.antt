-- The output of a run of a script, and how reading ends.
use Rattle.std.specs.Prelude.{◌≡◌, ℕ, ◌+◌, ◌<◌, ◌⊎◌, List, [], ◌∷◌, ◌++◌, length, drop, Option, Some, None, IfSome}
use Rattle.std.specs.Io.KnownBytes.{Appends}
use Rattle.mig_base.specs.declared.command.Entry.{Entry}
use Rattle.grammar.specs.Texts.{entry_line}
use Rattle.grammar.specs.declared.line.Language.{Language}
use Rattle.grammar.specs.declared.line.Language.TheVariants as language
use Rattle.grammar.specs.declared.line.Line.{Line}
use Rattle.grammar.specs.declared.line.Line.TheVariants.{Skipped, Do, Enter}
use Rattle.engine.specs.declared.line_runner.Mode.{Mode}
use Rattle.engine.specs.declared.line_runner.Mode.TheVariants.{Lines, Transcript}
use Rattle.engine.specs.declared.fault.RunFault.{RunFault}
use Rattle.engine.specs.declared.setup.Setup.{Setup}
use Rattle.engine.specs.declared.fault.RunFault.TheVariants as faults
use Rattle.grammar.specs.Lines.{HasNoFeed, Reads, BeginsWrong}
use Rattle.grammar.specs.declared.order.Order.{Order}
use Rattle.grammar.specs.Orders.{step_of}
use Rattle.grammar.specs.Printed.{Outcome, outcome_line, progress_line}
use Rattle.mig_base.specs.declared.schedule.Step.{Step}
use Rattle.mig_model.specs.Migration.{World, first_world}
use Rattle.world.specs.Headline.{Headline}
use Rattle.engine.specs.Worlds.{Answered, epoch_in, progress_in}

-- Runs of a script

-- the world on which a script is run so
abbrev pub new_world : Setup → World
new_world setup = first_world setup.cpus

-- the lines of a list of entries
abbrev pub entry_lines : List Entry → List ℕ
entry_lines [] = []
entry_lines (entry ∷ entries) = entry_line entry ++ entry_lines entries

-- the entries by which a transcript has grown
abbrev pub gained : World → World → List Entry
gained old new = drop (length old.transcript) new.transcript

-- the output of a step: the line of its outcome, or those of the entries that it makes
abbrev pub printed : Mode → World → Outcome → World → List ℕ
printed Lines old outcome new = outcome_line outcome
printed Transcript old outcome new = entry_lines (gained old new)

-- the output of an order for progress
abbrev pub reported : Mode → World → List ℕ
reported Lines state = progress_line (progress_in state)
reported Transcript state = []

-- a step's effect on a world, and its output
abbrev pub Makes : Mode → World → Step → World → List ℕ → Type 0
Makes mode old step new text = (outcome : Outcome) × Answered old step outcome new × (text ≡ printed mode old outcome new)

-- the same for the step of an order; an order for progress has none, and changes nothing
abbrev pub MakesAny : Mode → World → Option Step → World → List ℕ → Type 0
MakesAny mode old (Some step) new text = Makes mode old step new text
MakesAny mode old None new text = (new ≡ old) × (text ≡ reported mode old)

-- nothing changed, or the step was made
abbrev pub MakesOrNot : Mode → World → Step → World → Type 0
MakesOrNot mode old step new = (new ≡ old) ⊎ ((text : List ℕ) × Makes mode old step new text)

-- an order's effect on a world, and its output
abbrev pub Obeys : Mode → World → Order → World → List ℕ → Type 0
Obeys mode old order new text = MakesAny mode old (step_of order (epoch_in old)) new text

-- nothing changed, or the order was carried out
abbrev pub ObeysOrNot : Mode → World → Order → World → Type 0
ObeysOrNot mode old order new = (new ≡ old) ⊎ ((text : List ℕ) × Obeys mode old order new text)

-- these lines lead from one state to the other, with this output
abbrev pub Runs : Mode → World → List Line → World → List ℕ → Type 0
Runs mode old [] new text = (new ≡ old) × (text ≡ [])
Runs mode old (Skipped ∷ lines) new text = Runs mode old lines new text
Runs mode old (Do order ∷ lines) new text = (mid : World) × (out : List ℕ) × (more : List ℕ)
    × Obeys mode old order mid out × (text ≡ out ++ more) × Runs mode mid lines new more
Runs mode old (Enter entry ∷ lines) new text = ⊥

-- the lines are run from this state, with this output, and the promises hold for the last state
abbrev pub Prints : Mode → World → List Line → List ℕ → Type 0
Prints mode start lines text = (end : World) × Runs mode start lines end text × Headline end

-- How reading ends. `Texts` relates lines to their output

-- the whole input was read, and all its output written
pub record Finishes (language : Language) (Texts : List Line → List ℕ → Type 0) (input : List ℕ) (before after : Option (List ℕ)) : Type 0 where
  pub lines : List Line
  pub text : List ℕ
  pub reads : Reads language input lines []
  pub prints : Texts lines text
  pub appends : Appends before after text

-- the output of the lines before line `n` was written; line `n` is not a line of the language
pub record StopsAt (language : Language) (Texts : List Line → List ℕ → Type 0) (input : List ℕ) (n : ℕ) (before after : Option (List ℕ)) : Type 0 where
  pub lines : List Line
  pub rest : List ℕ
  pub text : List ℕ
  pub reads : Reads language input lines rest
  pub number : n ≡ length lines + 1
  pub wrong : BeginsWrong language rest
  pub prints : Texts lines text
  pub appends : Appends before after text

-- of the bytes that were read, these lines were done and `held` is left; their output was written but for `more`
pub record StopsWithin (language : Language) (Texts : List Line → List ℕ → Type 0) (input : List ℕ) (unread : Option (List ℕ)) (held more : List ℕ) (before after : Option (List ℕ)) : Type 0 where
  pub lines : List Line
  pub rest : List ℕ
  pub written : List ℕ
  pub reads : Reads language input lines rest
  pub read : IfSome unread (λ bytes. rest ≡ held ++ bytes)
  pub prints : Texts lines (written ++ more)
  pub appends : Appends before after written

-- reading ends with a fault
abbrev pub StopsBy : Language → (List Line → List ℕ → Type 0) → List ℕ → Option (List ℕ) → RunFault → Option (List ℕ) → Option (List ℕ) → Type 0
StopsBy language Texts input unread (faults.Line n) before after = StopsAt language Texts input n before after
-- each line that was read to its line feed was done, and all output written
StopsBy language Texts input unread faults.ReadFault before after = (held : List ℕ) × HasNoFeed held × StopsWithin language Texts input unread held [] before after
-- a part of the output was not written
StopsBy language Texts input unread faults.WriteFault before after = (held : List ℕ) × (more : List ℕ) × (0 < length more) × StopsWithin language Texts input unread held more before after
-- all output of the lines before was written
StopsBy language Texts input unread faults.NoMemory before after = (held : List ℕ) × StopsWithin language Texts input unread held [] before after

-- a run of a script reads the whole input; its output in each mode
abbrev pub Writes : Mode → World → List ℕ → Option (List ℕ) → Option (List ℕ) → Type 0
Writes mode start input before after = Finishes language.Script (Prints mode start) input before after

-- a run of a script ends with a fault; what it wrote in each mode
abbrev pub ScriptStops : Mode → World → List ℕ → Option (List ℕ) → RunFault → Option (List ℕ) → Option (List ℕ) → Type 0
ScriptStops mode start input unread fault before after = StopsBy language.Script (Prints mode start) input unread fault before after
