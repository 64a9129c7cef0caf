-- What a node would do next, in numbers.
use Rattle.std.specs.Prelude.{◌≡◌, ℕ, ◌*◌, Result, Ok, Err}
use Rattle.foundation.specs.declared.TheConstants.{PAGE_SIZE}
use Rattle.mig_base.specs.declared.effect.Effect.{Effect}
use Rattle.mig_base.specs.declared.refusal.Refusal.{Refusal}
use Rattle.mig_model.specs.NodeSteps.{Acted, Sends}
use Rattle.mig_model.specs.Source.{Source}
use Rattle.postmig_c.specs.declared.effects.EffectNumbers.{EffectNumbers}
use Rattle.postmig_c.specs.Effects.{effect_numbers}
use Rattle.postmig_c.specs.Refusals.{refusal_status}

-- the effect that a step would have, or its refusal
abbrev pub effect_of : {Node : Type 0} → Result (Acted Node) Refusal → Result Effect Refusal
effect_of (Ok step) = Ok step.effect
effect_of (Err refusal) = Err refusal

-- the same of a step that may send
abbrev pub effect_sent : {Node : Type 0} → Result (Sends Node) Refusal → Result Effect Refusal
effect_sent (Ok step) = Ok step.effect
effect_sent (Err refusal) = Err refusal

-- the numbers of the effect that a step would have, or the status of its refusal
abbrev pub Shows : Result Effect Refusal → ℕ → EffectNumbers → Type 0
Shows (Ok effect) status numbers = (status ≡ 0) × (numbers ≡ effect_numbers effect)
Shows (Err refusal) status numbers = status ≡ refusal_status refusal

-- the run that a step would send: its first page and its number of pages; or the status of its refusal
abbrev pub ShowsRun : Result (Sends Source) Refusal → ℕ → ℕ → ℕ → Type 0
ShowsRun (Ok step) status first count = (status ≡ 0) × (step.effect ≡ Effect.SentRun (PAGE_SIZE * first) count)
ShowsRun (Err refusal) status first count = status ≡ refusal_status refusal
