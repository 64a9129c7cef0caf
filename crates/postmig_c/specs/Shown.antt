-- What is shown of a world.
use Rattle.std.specs.Prelude.{◌≡◌, ℕ, ◌==◌, if◌then◌else◌, List, Option, Some, None}
use Rattle.mig_model.specs.Migration.{World as Machine}
use Rattle.engine.specs.Engine.{Gathered, run_world}
use Rattle.show.specs.declared.what.What.{What}
use Rattle.show.specs.declared.what.What.TheVariants as whats
use Rattle.show.specs.Shown.{IsOf}

-- what is asked for, by its number
abbrev pub what_of : ℕ → Option What
what_of number =
    if number == 0 then Some whats.Cpus
    else if number == 1 then Some whats.Queues
    else if number == 2 then Some whats.Owed
    else if number == 3 then Some whats.Wires
    else if number == 4 then Some whats.Pages
    else if number == 5 then Some whats.All
    else None

-- the number is that of a question, and the text is what `show` writes then of the world that is run
pub record IsShown (runner : Gathered) (number : ℕ) (text : List ℕ) : Type 0 where
  pub what : What
  pub state : Machine
  pub asks : what_of number ≡ Some what
  pub runs : run_world runner.work ≡ Some state
  pub facts : IsOf state what text
