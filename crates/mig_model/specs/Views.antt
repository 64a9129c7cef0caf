-- What the getters of a world return, and which worlds a migration begins with.
use Rattle.std.specs.Prelude.{ℕ, ◌==◌, ◌||◌, nat_lt, Bool, true, false, if◌then◌else◌, Result, Ok, Err}
use Rattle.std.specs.FinMap.{len}
use Rattle.mig_base.specs.declared.TheConstants.{MAX_CPUS}
use Rattle.mig_base.specs.declared.counts.Counts.{Counts}
use Rattle.mig_base.specs.declared.cpu_state.CpuState.{CpuState}
use Rattle.mig_base.specs.declared.phase.SourcePhase.{SourcePhase}
use Rattle.mig_base.specs.declared.refusal.Refusal.{Refusal}
use Rattle.mig_base.specs.declared.phase.WorldPhase.{WorldPhase}
use Rattle.mig_model.specs.Cpus.{answer_by}
use Rattle.mig_model.specs.Guest.{counted}
use Rattle.mig_model.specs.Migration.{World, first_world_with, guest_of}

-- a new world of `cpus` processors, refused as NoCpu unless there are 1 to MAX_CPUS; its epoch and its number of rounds are those given
abbrev pub new_world_with : ℕ → ℕ → ℕ → Result World Refusal
new_world_with cpus epoch rounds = if cpus == 0 || nat_lt MAX_CPUS cpus then Err Refusal.NoCpu else Ok (first_world_with cpus epoch rounds)

-- how far the migration has come, paused or not: by the phase of the source, whether it has switched, and whether the destination has
-- run
abbrev pub phase_by : SourcePhase → Bool → Bool → WorldPhase
phase_by SourcePhase.Released switched has_run = WorldPhase.Complete
phase_by phase switched true = WorldPhase.Postcopy
phase_by phase true false = WorldPhase.Switching
phase_by SourcePhase.Idle false false = WorldPhase.Idle
phase_by phase false false = WorldPhase.Precopy

-- the same of a world
abbrev pub phase_of : World → WorldPhase
phase_of world = phase_by world.source.phase world.source.switched world.destination.has_run

-- how many pages are owed: the pairs of the table once the destination has run, and before that what the last Package owed, none before
-- the switch
abbrev pub owed_left : World → ℕ
owed_left world = if world.destination.has_run then len world.destination.owed else world.source.packaged

-- the counts of both nodes; the faults are those of the source and of the destination together
abbrev pub counts_of : World → Counts
counts_of world =
    record {
      rounds = world.source.rounds;
      sent = world.source.pages_sent;
      installed = world.destination.installed;
      dropped = world.destination.dropped;
      faults = counted world.source.faults world.destination.faults;
    }

-- the state of a processor, at the node where the guest runs; while no node runs it, that which the source left. Refused as NoCpu
abbrev pub cpu_state : World → ℕ → Result CpuState Refusal
cpu_state world k = answer_by (λ state. Ok state) (guest_of world).cpus k
