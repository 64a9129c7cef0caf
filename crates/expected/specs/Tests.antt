-- How a test ends: each answer is met, or the first that is not, or a fault.
use Rattle.std.specs.Prelude.{◌≡◌, ◌≢◌, ℕ, ◌+◌, List, [], ◌∷◌, ◌++◌, length, codes, Option, Some, IfSome}
use Rattle.std.specs.Fmt.{decimal}
use Rattle.std.specs.Io.KnownBytes.{Appends}
use Rattle.grammar.specs.declared.order.Order.{Order}
use Rattle.grammar.specs.Lines.{HasNoFeed}
use Rattle.engine.specs.declared.line_runner.Mode.TheVariants.{Lines}
use Rattle.engine.specs.declared.fault.RunFault.{RunFault}
use Rattle.engine.specs.declared.fault.RunFault.TheVariants as faults
use Rattle.engine.specs.Engine.{Front}
use Rattle.engine.specs.Script.{Obeys}
use Rattle.mig_model.specs.Migration.{World, first_world}
use Rattle.world.specs.Headline.{Headline}
use Rattle.expected.specs.declared.outcome.Outcome.{Outcome}
use Rattle.expected.specs.declared.outcome.Outcome.TheVariants.{Same, Differs}
use Rattle.expected.specs.Cases.{Case, Asks, ReadsCase, ReadsCases, BeginsWrong, Agrees, answers_in}

-- the first lines of the input lead to this world and meet their answers, and rest comes after them; the promises hold for the world
pub record Met (cpus : ℕ) (input : List ℕ) (cases : List Case) (world : World) (rest : List ℕ) : Type 0 where
  pub reads : ReadsCases 1 input cases rest
  pub agrees : Agrees (first_world cpus) cases world
  pub promised : Headline world

-- all lines of the input meet their answers, which are counted
abbrev pub AllMet : ℕ → List ℕ → ℕ → Type 0
AllMet cpus input answers = (cases : List Case) × (world : World) × Met cpus input cases world [] × (answers ≡ answers_in cases)

-- some lines from the first on meet their answers
abbrev pub SomeMet : ℕ → List ℕ → Type 0
SomeMet cpus input = (cases : List Case) × (world : World) × (rest : List ℕ) × Met cpus input cases world rest

-- the line of a report: the file, the line's number, its answer, and its output, which ends in a line feed
abbrev pub difference_line : List ℕ → ℕ → List ℕ → List ℕ → List ℕ
difference_line name number answer out = name ++ codes ":" ++ decimal number ++ codes ": expected " ++ answer ++ codes ", got " ++ out

-- the lines before one meet their answers, and this one does not; the report says so. Its own answer counts too
pub record Unmet (name : List ℕ) (cpus : ℕ) (input : List ℕ) (answers : ℕ) (report : List ℕ) : Type 0 where
  pub cases : List Case
  pub old : World
  pub rest : List ℕ
  pub met : Met cpus input cases old rest
  pub order : Order
  pub answer : List ℕ
  pub after : List ℕ
  pub reads : ReadsCase (length cases + 1) rest (Asks order (Some answer)) after
  pub new : World
  pub out : List ℕ
  pub obeys : Obeys Lines old order new out
  pub promised : Headline new
  pub differs : out ≢ answer ++ 10 ∷ []
  pub says : report ≡ difference_line name (length cases + 1) answer out
  pub counts : answers ≡ answers_in cases + 1

-- the lines before line n meet their answers, and line n is wrong
pub record WrongAt (cpus : ℕ) (input : List ℕ) (n : ℕ) : Type 0 where
  pub cases : List Case
  pub world : World
  pub rest : List ℕ
  pub met : Met cpus input cases world rest
  pub number : n ≡ length cases + 1
  pub wrong : BeginsWrong n rest

-- each line that was read to its line feed meets its answer, and held is left of what was read
pub record ReadTo (cpus : ℕ) (input : List ℕ) (unread : Option (List ℕ)) : Type 0 where
  pub cases : List Case
  pub world : World
  pub rest : List ℕ
  pub met : Met cpus input cases world rest
  pub held : List ℕ
  pub one : HasNoFeed held
  pub read : IfSome unread (λ bytes. rest ≡ held ++ bytes)

-- the outcome of a test of a whole input, how many answers were compared, and its report, if it has one
abbrev pub Comes : List ℕ → ℕ → List ℕ → Outcome → ℕ → List ℕ → Type 0
Comes name cpus input Same answers report = AllMet cpus input answers
Comes name cpus input Differs answers report = Unmet name cpus input answers report

-- a test ends with a fault before anything is written
abbrev pub HaltsTest : ℕ → List ℕ → Option (List ℕ) → RunFault → Type 0
HaltsTest cpus input unread (faults.Line n) = WrongAt cpus input n
HaltsTest cpus input unread faults.ReadFault = ReadTo cpus input unread
HaltsTest cpus input unread faults.WriteFault = ⊥
HaltsTest cpus input unread faults.NoMemory = SomeMet cpus input

-- the outcome of a test, how many answers were compared, and what it wrote: nothing, or the report
abbrev pub Tests : List ℕ → ℕ → List ℕ → Outcome → ℕ → Option (List ℕ) → Option (List ℕ) → Type 0
Tests name cpus input Same answers before after = AllMet cpus input answers × Appends before after []
Tests name cpus input Differs answers before after = (report : List ℕ) × Unmet name cpus input answers report × Appends before after report

-- how a test ends with a fault. Only a write fault comes after a part of the report was written
abbrev pub TestStops : List ℕ → ℕ → List ℕ → Option (List ℕ) → RunFault → Option (List ℕ) → Option (List ℕ) → Type 0
TestStops name cpus input unread (faults.Line n) before after = WrongAt cpus input n × Appends before after []
TestStops name cpus input unread faults.ReadFault before after = ReadTo cpus input unread × Appends before after []
TestStops name cpus input unread faults.WriteFault before after = (answers : ℕ) × (report : List ℕ) × Unmet name cpus input answers report × Front report before after
TestStops name cpus input unread faults.NoMemory before after = SomeMet cpus input × Appends before after []
