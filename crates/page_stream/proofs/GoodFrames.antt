-- Every frame in flight has a text, in every world that some list of steps leads to.
use Rattle.std.proofs.lemmas.Bool.Decides.{nat_tests}
use Rattle.std.proofs.Common.{◌≡◌, ℕ, ◌^◌, ◌<◌, Bool, List, [], ◌∷◌, refl, sym, subst, length, arith}
use Rattle.mig_base.specs.declared.schedule.Step.{Step}
use Rattle.mig_model.specs.Wire.{Sent}
use Rattle.mig_model.specs.Migration.{World, after_steps, first_world_with, next}
use Rattle.mig_model.specs.Source.{is_source_idle}
use Rattle.mig_model.specs.Invariant.{AreOf}
use Rattle.mig_model.specs.Promises.{IsReached}
use Rattle.mig_model.specs.Bounds.{IsCpuCount}
use Rattle.page_stream.specs.Flight.{AreFrames, HasGoodFrames}
use Rattle.mig_model.proofs.invariant.Bounded.{IsBounded, bounded-first, bounded-next, bounded-reached}
use Rattle.mig_model.proofs.invariant.SourceRounds.{idle_back, idle_forward}
use Rattle.mig_model.proofs.invariant.UrgentWire.{idle_unstopped}
use Rattle.page_stream.proofs.FrameBounds.{AreBodies}
use Rattle.page_stream.proofs.FrameSteps.{AreLimited, limited-first, limited-next}

limited-after_steps : (cpus : ℕ) (world : World) (steps : List Step) → IsBounded cpus world → AreLimited cpus world → AreLimited cpus (after_steps world steps)
limited-after_steps cpus world [] all limited = limited
limited-after_steps cpus world (step ∷ steps) all limited = limited-after_steps cpus (next world step) steps (bounded-next cpus world step all) (limited-next world step all.ready limited)

limited_reached : (world : World) (reached : IsReached world) → AreLimited reached.cpus world
limited_reached world reached =
    subst (AreLimited reached.cpus) (sym reached.is)
    (limited-after_steps reached.cpus (first_world_with reached.cpus reached.epoch reached.rounds) reached.steps (bounded-first reached.cpus reached.epoch reached.rounds)
    (limited-first reached.cpus reached.epoch reached.rounds))

frames_of : (epoch : ℕ) (frames : List Sent) → epoch < 2 ^ 32 → AreOf epoch frames → AreBodies frames → AreFrames frames
frames_of epoch [] below of bodies = tt
frames_of epoch (sent ∷ rest) below of bodies = (subst (λ e. e < 2 ^ 32) (sym of.0) below, bodies.0, frames_of epoch rest below of.1 bodies.1)

-- a migration that has not begun has nothing in flight, and the epoch of any other has 32 bits
frames_by : (idle : Bool) (cpus : ℕ) (world : World) → is_source_idle world.source.phase ≡ idle → IsBounded cpus world → AreLimited cpus world → IsCpuCount cpus → HasGoodFrames world
frames_by idle cpus world is all limited count = grind (arith, nat_tests, idle_forward, idle_back, idle_unstopped, frames_of)

pub frames_good : (world : World) → IsReached world → IsCpuCount (length world.source.guest.cpus) → HasGoodFrames world
frames_good world reached count =
    let all = bounded-reached world reached in
    frames_by (is_source_idle world.source.phase) reached.cpus world refl all (limited_reached world reached) (subst IsCpuCount all.ready.many count)
