-- What the parts of a test do with one line, and with the bytes that are read.
use Rattle.std.specs.Prelude.{◌≡◌, ◌≢◌, ℕ, ◌+◌, ◌<◌, ◌≤◌, ◌^◌, List, [], ◌∷◌, ◌++◌, length, string_bytes, Some, ⊤}
use Rattle.grammar.specs.declared.order.Order.{Order}
use Rattle.grammar.specs.Lines.{HasNoFeed}
use Rattle.engine.specs.declared.line_runner.Mode.TheVariants.{Lines}
use Rattle.engine.specs.declared.fault.RunFault.{RunFault}
use Rattle.engine.specs.declared.fault.RunFault.TheVariants as faults
use Rattle.engine.specs.Script.{Obeys}
use Rattle.mig_model.specs.Migration.{World, first_world}
use Rattle.expected.specs.declared.outcome.Outcome.{Outcome}
use Rattle.expected.specs.declared.outcome.Outcome.TheVariants.{Same, Differs}
use Rattle.expected.specs.declared.cpus.Setting.{Setting}
use Rattle.expected.specs.declared.cpus.Setting.TheVariants.{Absent, Count, Wrong}
use Rattle.expected.specs.declared.player.Player.{Player}
use Rattle.expected.specs.declared.tester.Tester.{Tester}
use Rattle.expected.specs.Cases.{Case, Asks, CpusLine, SaysCpus, IsCase, ReadsCases, DoesCase, Meets, Agrees, answers_of, answers_in}
use Rattle.expected.specs.Tests.{difference_line, Unmet, WrongAt, SomeMet, Comes}

-- what the text of a first line says of the number of processors
abbrev pub IsSetting : List ℕ → Setting → Type 0
IsSetting text Absent = (words : List (List ℕ)) → CpusLine text words → ⊥
IsSetting text (Count count) = SaysCpus text count
IsSetting text Wrong = (words : List (List ℕ)) × CpusLine text words × ((count : ℕ) → SaysCpus text count → ⊥)

-- One line

-- a count of answers, once those of a line are added. (It stops at its greatest value, which no test reaches.)
abbrev pub CountsAnswers : ℕ → Case → ℕ → Type 0
CountsAnswers old case new = old + 1 < 2 ^ 64 → new ≡ old + answers_of case

-- the line was done, and its output meets its answer; `before` counts the answers of the lines before it
pub record Passed (number : ℕ) (old : World) (before : ℕ) (text : List ℕ) (new : Player) : Type 0 where
  pub case : Case
  pub says : IsCase number text case
  pub does : DoesCase old case new.world (string_bytes new.printed)
  pub meets : Meets case (string_bytes new.printed)
  pub counts : CountsAnswers before case new.answers

-- the line was done, and its output is not its answer; the report says so
pub record Failed (name : List ℕ) (number : ℕ) (old : World) (before : ℕ) (text : List ℕ) (new : Player) : Type 0 where
  pub order : Order
  pub answer : List ℕ
  pub says : IsCase number text (Asks order (Some answer))
  pub obeys : Obeys Lines old order new.world (string_bytes new.printed)
  pub differs : string_bytes new.printed ≢ answer ++ 10 ∷ []
  pub reports : new.report.items ≡ difference_line name number answer (string_bytes new.printed)
  pub counts : CountsAnswers before (Asks order (Some answer)) new.answers

-- the outcome of one line
abbrev pub LeadsPlayer : List ℕ → ℕ → World → ℕ → List ℕ → Outcome → Player → Type 0
LeadsPlayer name number old before text Same new = Passed number old before text new
LeadsPlayer name number old before text Differs new = Failed name number old before text new

-- a fault at one line: it is wrong, or memory ran out
abbrev pub FaultAtLine : ℕ → List ℕ → RunFault → Type 0
FaultAtLine number text (faults.Line n) = (n ≡ number) × ((case : Case) → IsCase number text case → ⊥)
FaultAtLine number text faults.ReadFault = ⊥
FaultAtLine number text faults.WriteFault = ⊥
FaultAtLine number text faults.NoMemory = ⊤

-- Bytes

-- these bytes were read: their lines meet their answers, and the last has no end yet
pub record Ran (cpus : ℕ) (bytes : List ℕ) (state : Tester) : Type 0 where
  pub cases : List Case
  pub reads : (more : List ℕ) → ReadsCases 1 (bytes ++ more) cases (state.line.items ++ more)
  pub agrees : Agrees (first_world cpus) cases state.player.world
  pub number : state.number ≡ length cases
  pub answers : state.player.answers ≡ answers_in cases
  pub one : HasNoFeed state.line.items
  pub short : length state.line.items ≤ 256

-- the outcome of the bytes, whatever comes after them
abbrev pub After : List ℕ → ℕ → List ℕ → Outcome → Tester → Type 0
After name cpus bytes Same state = Ran cpus bytes state
After name cpus bytes Differs state = (more : List ℕ) → Unmet name cpus (bytes ++ more) state.player.answers state.player.report.items

-- a fault among the bytes, whatever comes after them
abbrev pub FaultIn : ℕ → List ℕ → RunFault → Type 0
FaultIn cpus bytes (faults.Line n) = (more : List ℕ) → WrongAt cpus (bytes ++ more) n
FaultIn cpus bytes faults.ReadFault = ⊥
FaultIn cpus bytes faults.WriteFault = ⊥
FaultIn cpus bytes faults.NoMemory = (more : List ℕ) → SomeMet cpus (bytes ++ more)

-- a fault at the last line of the input
abbrev pub FaultAtEnd : ℕ → List ℕ → RunFault → Type 0
FaultAtEnd cpus input (faults.Line n) = WrongAt cpus input n
FaultAtEnd cpus input faults.ReadFault = ⊥
FaultAtEnd cpus input faults.WriteFault = ⊥
FaultAtEnd cpus input faults.NoMemory = SomeMet cpus input

-- how the test of this input came out, as this state has it
abbrev pub Came : List ℕ → ℕ → List ℕ → Outcome → Tester → Type 0
Came name cpus input outcome state = Comes name cpus input outcome state.player.answers state.player.report.items
