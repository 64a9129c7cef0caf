-- All promises for every world, whatever list of steps has led to it: of processors, handlers, pushers and deliveries, breaks and resumes.
-- Core.antt has the first of them, which can be believed alone. The others speak of the steps of the machine, and of owed pages on their
-- way.
--
-- `reached` brings the laws of mig_model/src/migration.rt, which hold for every such world. Some of them stand only there: no frame is
-- refused (no_frame_is_refused); a page that is pushed does not remain again in its epoch (pages_that_remain); how a command begins to
-- wait, ends and is entered (a_waiting_command) and the reply of a map call (replies_of_map_calls); each step
-- changes only its own parts (each_step_changes_its_parts, a_delivery_is_a_function); the wires keep their order (the_wires); completion
-- comes exactly by Done, or by a Recv of a destination that has ended (completion), and can be reached (a_migration_can_complete).
use Rattle.std.specs.Prelude.{◌≡◌, ◌/◌, true, List}
use Rattle.mig_base.specs.Flat.{memory_of}
use Rattle.mig_base.specs.declared.schedule.Step.{Step}
use Rattle.mig_base.specs.declared.phase.WorldPhase.{WorldPhase}
use Rattle.mig_model.specs.Host.{memory}
use Rattle.mig_model.specs.Whereabouts.{AreFaithful, copies_of, current_host}
use Rattle.mig_model.specs.Laws.{HasCleanCopies, InstallsNothingOver, KnowsNeeded, KnowsOwed, SettlesRight}
use Rattle.mig_model.specs.Migration.{World, after_steps}
use Rattle.mig_model.specs.Promises.{AreUnderWay, ArePaired, IsAlone, IsComplete, IsReached}
use Rattle.mig_model.specs.Source.{space_of}
use Rattle.mig_model.specs.Views.{phase_of}
use Rattle.world.specs.Core.{Core}

-- the destination alone holds the flat memory, and no page is owed, now and after any steps
pub record IsMoved (world : World) : Type 0 where
  pub alone : IsAlone world
  pub stays : (steps : List Step) → IsComplete (after_steps world steps) × IsAlone (after_steps world steps)

-- everything that is promised of a world
pub record Headline (world : World) : Type 0 where
  -- some list of steps leads to it from a first world, so every law of such worlds speaks of it
  pub reached : IsReached world
  -- the transcript is the run of one flat memory, and completion means that the destination alone holds it
  pub core : Core world
  -- the next step installs nothing over a page that is present, and a complete migration stays complete
  pub installs : InstallsNothingOver world
  pub complete : phase_of world ≡ WorldPhase.Complete → IsMoved world
  -- the guest's memory is the last memory of the transcript
  pub current : memory (current_host world) ≡ memory_of world.transcript
  -- the settled relation changes by map calls and installs alone
  pub settles : SettlesRight world
  -- from the run on, each owed page is still to be pushed, in flight or arrived, with the source's bytes
  pub under_way : world.destination.has_run ≡ true → AreUnderWay world
  -- before the run as well, each copy on the urgent wire has the source's bytes
  pub urgent : AreFaithful (space_of world.source).host.bytes (copies_of world.urgent.frames)
  -- between Switch and the run, the destination will have kept exactly the source's pages that are not owed
  pub packaged : KnowsOwed world
  -- after a Resume, the Recv of the destination lists each page that it still needs, and the source has all of them
  pub received : KnowsNeeded world
  -- during pre-copy, the newest copy of a clean page is the source's page
  pub clean : HasCleanCopies world
  -- owed pages are paired one to one with pages that the source has
  pub pairs : ArePaired world
