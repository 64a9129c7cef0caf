-- A runner of a world by its parts.
use Rattle.std.proofs.Common.{◌≡◌, ◌∙◌, ℕ, List, [], ap}
use Rattle.engine.specs.declared.line_runner.Mode.{Mode}
use Rattle.engine.specs.Engine.{Gathered, Running, Work}
use Rattle.mig_model.specs.Migration.{World}

abbrev pub gathered : Work → List ℕ → Gathered
gathered work output = record { work = work; output = output }

-- it runs this world, and has printed nothing
pub runner_is : (runner : Gathered) (mode : Mode) (state : World) → runner.work ≡ Running mode state → runner.output ≡ [] → runner ≡ gathered (Running mode state) []
runner_is runner mode state works none = ap (λ (work : Work). gathered work runner.output) works ∙ ap (gathered (Running mode state)) none
