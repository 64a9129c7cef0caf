-- The invariant of every world, and the bridge from a world of the code to the machine's.
use Rattle.std.specs.Prelude.{length}
use Rattle.mig_model.specs.Bounds.{IsCpuCount}
use Rattle.mig_model.specs.Migration.{World}
use Rattle.mig_model.specs.Promises.{IsReached}
use Rattle.world.specs.declared.parts.Parts.{Parts}

-- some list of steps leads to it, from a first world that has 1 to MAX_CPUS processors
pub record IsWorld (world : World) : Type 0 where
  pub reached : IsReached world
  pub count : IsCpuCount (length world.source.guest.cpus)

-- bridges the parts of a world of the code to the machine's world
abbrev pub world_of : Parts → World
world_of parts =
    record {
      source = parts.source;
      destination = parts.destination;
      forward = parts.forward.wire;
      back = parts.back.wire;
      urgent = parts.urgent.wire;
      up = parts.up;
      transcript = parts.transcript.items;
    }
