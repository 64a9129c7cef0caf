-- Break, Notice and Resume keep what every world keeps.
use Rattle.std.proofs.lemmas.Bool.Decides.{nat_tests}
use Rattle.std.proofs.Common.{◌≡◌, true, false, arith}
use Rattle.mig_base.specs.declared.schedule.Side.{Side}
use Rattle.mig_model.specs.Migration.{World, has_started}
use Rattle.mig_model.proofs.steps.StepWorlds.{after_break, after_notice, after_resume}
use Rattle.mig_model.specs.Invariant.{IsSoundWorld}
use Rattle.mig_model.specs.Source.{is_released, is_source_paused}
use Rattle.mig_model.specs.Destination.{is_dest_paused}

pub kept-break : (world : World) → IsSoundWorld world → has_started world ≡ true → is_released world.source.phase ≡ false → IsSoundWorld (after_break world)
kept-break world kept started unreleased = grind (arith, nat_tests)

pub kept-notice_source : (world : World) → IsSoundWorld world → has_started world ≡ true → world.up ≡ false → IsSoundWorld (after_notice world Side.Source)
kept-notice_source world kept started down = grind (arith, nat_tests)

pub kept-notice_destination : (world : World) → IsSoundWorld world → world.up ≡ false → IsSoundWorld (after_notice world Side.Destination)
kept-notice_destination world kept down = grind (arith, nat_tests)

-- Resume: both sides have noticed that the link is down, and nothing is in flight

pub kept-resume : (world : World) → IsSoundWorld world → is_source_paused world.source.phase ≡ true → is_dest_paused world.destination.phase ≡ true → world.up ≡ false → IsSoundWorld (after_resume world)
kept-resume world kept from to down = grind (arith, nat_tests)
