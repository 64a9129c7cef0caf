-- The runs of which the laws speak, each from its beginning, and what is said of them.
use Rattle.std.specs.Prelude.{◌≡◌, ℕ, List, [], ◌++◌, map}
use Rattle.mig_base.specs.declared.command.Entry.{Entry}
use Rattle.mig_base.specs.declared.effect.Effect.{Effect}
use Rattle.mig_base.specs.declared.schedule.Side.{Side}
use Rattle.mig_base.specs.declared.schedule.Step.{Step}
use Rattle.mig_model.specs.Destination.{first_destination}
use Rattle.mig_model.specs.Migration.{World, after_steps, first_world_with}
use Rattle.mig_model.specs.Source.{first_source}
use Rattle.mig_laws.specs.Drivers.{AreDeeds, Deed, Drivers, HoldBytes, IsDoneHere, IsDoneThere, IsWorldOf, change_of, first_drivers}
use Rattle.mig_laws.specs.Orders.{AreTurns, Pair, Turn, destination_lines, first_pair, log_of, source_lines, step_of, world_of}
use Rattle.mig_laws.specs.Processes.{AreEvents, Event, IsSettled, Processes, first_processes, log_here, log_there}
use Rattle.mig_laws.specs.Replacements.{AreChanges, Change, last_log, source_log}
use Rattle.mig_laws.specs.Sides.{Line, destination_entries, source_entries}

-- Orders of two logs

-- an order that leads from one pair to another, and the effects of its turns
pub record Order (old new : Pair) : Type 0 where
  pub turns : List Turn
  pub effects : List Effect
  pub are : AreTurns old turns effects new

-- two nodes of `cpus` processors, and an order from their beginning
pub record PairRun : Type 0 where
  pub cpus : ℕ
  pub epoch : ℕ
  pub rounds : ℕ
  pub last : Pair
  pub order : Order (first_pair cpus epoch rounds) last

-- the world in which it begins
abbrev pub begin_of : PairRun → World
begin_of run = first_world_with run.cpus run.epoch run.rounds

-- its turns as steps of that world
abbrev pub steps_of : PairRun → List Step
steps_of run = map step_of run.order.turns

-- the two sides of these steps of a world are logs with an order, which leads to that world
pub record HasOrder (cpus epoch rounds : ℕ) (steps : List Step) : Type 0 where
  pub last : Pair
  pub order : Order (first_pair cpus epoch rounds) last
  pub world : after_steps (first_world_with cpus epoch rounds) steps ≡ world_of last
  pub here : log_of Side.Source (first_world_with cpus epoch rounds) steps ≡ source_lines order.turns
  pub there : log_of Side.Destination (first_world_with cpus epoch rounds) steps ≡ destination_lines order.turns

-- some steps of a world have these logs as their two sides, and lead to the two nodes of these processes
pub record HasWorld (cpus epoch rounds : ℕ) (here there : List Line) (last : Processes) : Type 0 where
  pub steps : List Step
  pub here_is : log_of Side.Source (first_world_with cpus epoch rounds) steps ≡ here
  pub there_is : log_of Side.Destination (first_world_with cpus epoch rounds) steps ≡ there
  pub source_is : (after_steps (first_world_with cpus epoch rounds) steps).source ≡ last.source
  pub destination_is : (after_steps (first_world_with cpus epoch rounds) steps).destination ≡ last.destination

-- the commands that took effect in the source's log and, after them, those in the destination's
abbrev pub entered_by : ℕ → ℕ → ℕ → List Line → List Line → List Entry
entered_by cpus epoch rounds here there = source_entries (first_source cpus epoch rounds) here ++ destination_entries (first_destination cpus) there

-- Two processes

-- what happened to two processes whose nodes have `cpus` processors, from their beginning
pub record ProcessRun : Type 0 where
  pub cpus : ℕ
  pub epoch : ℕ
  pub rounds : ℕ
  pub events : List Event
  pub last : Processes
  pub are : AreEvents (first_processes cpus epoch rounds) events last

-- their two logs have an order, which leads to their nodes
pub record LogsHaveOrder (run : ProcessRun) : Type 0 where
  pub pair : Pair
  pub order : Order (first_pair run.cpus run.epoch run.rounds) pair
  pub here_is : source_lines order.turns ≡ log_here run.events
  pub there_is : destination_lines order.turns ≡ log_there run.events
  pub source_is : pair.source ≡ run.last.source
  pub destination_is : pair.destination ≡ run.last.destination

-- the commands that took effect there
abbrev pub entered_in : ProcessRun → List Entry
entered_in run = entered_by run.cpus run.epoch run.rounds (log_here run.events) (log_there run.events)

-- Another destination

-- the same where a destination may have been replaced
pub record ChangeRun : Type 0 where
  pub cpus : ℕ
  pub epoch : ℕ
  pub rounds : ℕ
  pub changes : List Change
  pub last : Processes
  pub are : AreChanges cpus (first_processes cpus epoch rounds) changes last

-- the same processes without another destination: what the last one has done comes after other lines
pub record HasEvents (run : ChangeRun) : Type 0 where
  pub events : List Event
  pub earlier : List Line
  pub are : AreEvents (first_processes run.cpus run.epoch run.rounds) events run.last
  pub here_is : log_here events ≡ source_log run.changes
  pub there_is : log_there events ≡ earlier ++ last_log [] run.changes

-- the commands that took effect at the source and at the last destination
abbrev pub entered_last : ChangeRun → List Entry
entered_last run = entered_by run.cpus run.epoch run.rounds (source_log run.changes) (last_log [] run.changes)

-- Two drivers

-- what two drivers of `cpus` processors have done, from their beginning
pub record DriverRun : Type 0 where
  pub cpus : ℕ
  pub epoch : ℕ
  pub rounds : ℕ
  pub deeds : List Deed
  pub last : Drivers
  pub are : AreDeeds cpus (first_drivers cpus epoch rounds) deeds last

-- the same happened to two processes with all bytes, which hold those of the drivers
pub record AreHeldBy (run : DriverRun) (last : Processes) : Type 0 where
  pub happen : AreChanges run.cpus (first_processes run.cpus run.epoch run.rounds) (map change_of run.deeds) last
  pub bytes : HoldBytes run.last last.source last.destination

-- the driver of the destination puts the first copy that waits at an address
pub record Puts (old new : Drivers) (addr origin : ℕ) : Type 0 where
  pub is : IsDoneThere old (Line.Made Step.Install) new
  pub effect : is.did.effect ≡ Effect.Installed addr origin

-- the driver of the source makes the page at an address one of zeros
pub record ZeroesHere (old new : Drivers) (addr : ℕ) : Type 0 where
  pub is : IsDoneHere old (Line.Made Step.SourceAct) new
  pub effect : is.did.effect ≡ Effect.Zeroed addr

-- the driver of the destination does
pub record ZeroesThere (old new : Drivers) (addr : ℕ) : Type 0 where
  pub is : IsDoneThere old (Line.Made Step.DestAct) new
  pub effect : is.did.effect ≡ Effect.Zeroed addr

-- two drivers can do what happened to two processes with all bytes, and then hold those
pub record HasDrivers (run : ProcessRun) : Type 0 where
  pub last : Drivers
  pub are : AreDeeds run.cpus (first_drivers run.cpus run.epoch run.rounds) (map (λ event. Deed.Happens event) run.events) last
  pub bytes : HoldBytes last run.last.source run.last.destination

-- two drivers can do what leads to this world, and are settled then
pub record AreOfDrivers (cpus epoch rounds : ℕ) (steps : List Step) : Type 0 where
  pub deeds : List Deed
  pub last : Drivers
  pub are : AreDeeds cpus (first_drivers cpus epoch rounds) deeds last
  pub settled : IsSettled last.nodes
  pub world : IsWorldOf cpus epoch rounds deeds last steps
