-- From every world in which an epoch is left a step of the strategy is due.
use Rattle.std.proofs.Common.{◌≡◌, Bool, true, false, None, Some, refl, arith, length, if◌then◌else◌}
use Rattle.std.specs.Option.{IfSome}
use Rattle.std.specs.Prelude.{◌≢◌, ◌↔◌, ◌⊎◌}
use Rattle.std.proofs.lemmas.Bool.Decides.{nat_tests}
use Rattle.mig_base.specs.declared.phase.SourcePhase.{SourcePhase}
use Rattle.mig_base.specs.declared.schedule.Step.{Step}
use Rattle.mig_model.specs.Bounds.{IsCpuCount}
use Rattle.mig_model.specs.Migration.{World}
use Rattle.mig_model.specs.NodeSteps.{is_used}
use Rattle.mig_model.specs.Promises.{IsComplete, IsReached}
use Rattle.mig_model.proofs.steps.EveryStep.{kept-reached}
use Rattle.page_stream.specs.Flight.{HasGoodFrames}
use Rattle.page_stream.proofs.GoodFrames.{frames_good}
use Rattle.finish.specs.Finishing.{IsDue, down_step, finishing_step, lacks_epoch, needs_epoch, up_step}
use Rattle.finish.proofs.DueSteps.{down_due, precopy_due, start_due}
use Rattle.finish.proofs.StoppedSteps.{paused_due, stopped_due}
use Rattle.mig_model.proofs.completion.Completion.{in_order}

start_by : (used : Bool) (world : World) → is_used world.source.epoch ≡ used → IsReached world → world.up ≡ true → world.source.phase ≡ SourcePhase.Idle → IfSome (if used then None else Some Step.Start) (IsDue world)
start_by true world is reached up phase = tt
start_by false world is reached up phase = start_due world (record { order = in_order world reached; up = up; phase = phase }) is

up_by : (from : SourcePhase) (world : World) → world.source.phase ≡ from → IsReached world → HasGoodFrames world → world.up ≡ true → IfSome (up_step from world) (IsDue world)
up_by SourcePhase.Idle world phase reached good up = start_by (is_used world.source.epoch) world refl reached up phase
up_by SourcePhase.Precopy world phase reached good up = precopy_due world reached (record { order = in_order world reached; up = up; phase = phase })
up_by SourcePhase.Stopped world phase reached good up = stopped_due world (record { reached = reached; at = record { order = in_order world reached; up = up; phase = phase }; good = good })
up_by SourcePhase.Paused world phase reached good up = paused_due world (record { reached = reached; at = record { order = in_order world reached; up = up; phase = phase }; good = good })
up_by SourcePhase.Released world phase reached good up = tt

link_by : (up : Bool) (world : World) → world.up ≡ up → IsReached world → HasGoodFrames world → IfSome (if up then up_step world.source.phase world else down_step world) (IsDue world)
link_by true world is reached good = up_by world.source.phase world refl reached good is
link_by false world is reached good = down_due world (record { kept = kept-reached world reached; down = is })

pub step_is_due : (world : World) → IsReached world → IsCpuCount (length world.source.guest.cpus) → IfSome (finishing_step world) (IsDue world)
step_is_due world reached count = link_by world.up world refl reached (frames_good world reached count)

-- where no step is due

none_by : (world : World) → finishing_step world ≡ None → IsComplete world ⊎ (needs_epoch world ≡ true)
none_by world none = grind (arith, nat_tests)

none_there : (world : World) → (world.up ≡ false → world.source.phase ≢ SourcePhase.Released) → IsComplete world ⊎ (needs_epoch world ≡ true) → finishing_step world ≡ None
none_there world not h = grind (arith, nat_tests)

pub none_exactly : (world : World) → IsReached world → (finishing_step world ≡ None) ↔ (IsComplete world ⊎ (needs_epoch world ≡ true))
none_exactly world reached = (none_by world, none_there world (λ down. ((kept-reached world reached).flight.down down).3))

-- a Start or a Resume that is due needs an epoch
pub needs_lacks : (world : World) → needs_epoch world ≡ true → lacks_epoch world ≡ true
needs_lacks world h = grind (arith, nat_tests)
