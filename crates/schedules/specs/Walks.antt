-- The worlds that the schedules of a small world lead to.
use Rattle.std.specs.Prelude.{◌*◌, List}
use Rattle.mig_base.specs.declared.command.Command.TheVariants.{Mmap}
use Rattle.mig_base.specs.declared.command.Place.TheVariants.{Anywhere}
use Rattle.mig_base.specs.declared.Prot.TheVariants.{ReadWrite}
use Rattle.mig_base.specs.declared.schedule.Step.{Step}
use Rattle.mig_base.specs.declared.schedule.Step.TheVariants as step
use Rattle.foundation.specs.declared.TheConstants.{PAGE_SIZE}
use Rattle.mig_model.specs.Migration.{World, first_world, next}
use Rattle.reachable.specs.declared.found.Found.{Found}
use Rattle.reachable.specs.Reachable.{AreAll}
use Rattle.schedules.specs.declared.small.Small.{Small}
use Rattle.schedules.specs.declared.turn.Turn.{Turn}
use Rattle.schedules.specs.Turns.{turned}

-- the command that maps the pages
abbrev pub maps : Small → Step
maps small = step.Issue 0 (Mmap (small.pages * PAGE_SIZE) ReadWrite Anywhere)

-- the world in which the schedules begin
unfoldable pub start_of : Small → World
start_of small = next (first_world small.cpus) (maps small)

-- the worlds are those to which some list of these turns leads from the first one, each once, with such a list
abbrev pub AreAllWorlds : World → List Turn → List (Found World Turn) → Type 0
AreAllWorlds first turns worlds = AreAll (λ world turn. turned world turn.step turn.limit) turns first worlds
