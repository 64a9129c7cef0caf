-- What a destination says before it makes a step, and when a Notice is its own.
use Rattle.std.specs.Prelude.{◌≡◌, ℕ, Bool, true, false, Option, Result, Ok}
use Rattle.mig_base.specs.Acts.{act_effect}
use Rattle.mig_base.specs.declared.act.Act.{Act}
use Rattle.mig_base.specs.declared.effect.Effect.{Effect}
use Rattle.mig_base.specs.declared.refusal.Refusal.{Refusal}
use Rattle.mig_base.specs.declared.schedule.Side.{Side}
use Rattle.mig_base.specs.declared.schedule.Step.{Step}
use Rattle.mig_model.specs.Destination.{Destination}
use Rattle.mig_model.specs.DestinationSteps.{act, install, pause}
use Rattle.mig_model.specs.Effects.{install_effect}
use Rattle.mig_model.specs.Migration.{World, answer, destination_acts}
use Rattle.mig_model.specs.NodeSteps.{and_then}
use Rattle.mig_model.specs.Source.{is_under_way}

-- the effect of the next act, or why it would be refused
abbrev pub next_act_effect : Destination → Result Effect Refusal
next_act_effect node = and_then (act node) (λ made. Ok made.effect)

-- the effect of the next install, or why it would be refused
abbrev pub next_install_effect : Destination → Result Effect Refusal
next_install_effect node = and_then (install node) (λ made. Ok made.effect)

-- the effect of this act at this address
abbrev pub effect_at : Result (Act × ℕ) Refusal → Result Effect Refusal
effect_at next = and_then next (λ next. Ok (act_effect next.0 next.1))

-- the effect of an install of the copy of this page of the source, at this page if any
abbrev pub effect_of_copy : Result (ℕ × Option ℕ) Refusal → Result Effect Refusal
effect_of_copy next = and_then next (λ next. Ok (install_effect next.1 next.0))

-- the channel is broken, and the source is under way
pub record IsBroken (world : World) : Type 0 where
  pub down : world.up ≡ false
  pub under_way : is_under_way world.source ≡ true

-- the machine's Notice is that of the destination alone
abbrev pub IsOwnNotice : World → Type 0
IsOwnNotice world = answer world (Step.Notice Side.Destination) ≡ destination_acts world (pause world.destination)
