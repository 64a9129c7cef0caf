-- Several steps of a destination by one call.
use Rattle.std.specs.Prelude.{◌≡◌, ℕ, zero, suc}
use Rattle.nodes.specs.Nodes.{PostingDestination}
use Rattle.nodes.specs.Traces.{Traced}
use Rattle.nodes.specs.declared.steps.DestinationStep.{DestinationStep}
use Rattle.postmig_c.specs.NodeCalls.{DestinationMakes}
use Rattle.postmig_c.specs.declared.effects.EffectNumbers.{EffectNumbers}

-- this number of installs in a row, each as a call of its own makes it, and the numbers of the last one's effect
abbrev pub Installs : ℕ → Traced PostingDestination → EffectNumbers → Traced PostingDestination → Type 0
Installs zero old numbers new = new ≡ old
Installs (suc count) old numbers new =
    (before : EffectNumbers) × (between : Traced PostingDestination) × Installs count old before between × DestinationMakes DestinationStep.Install between numbers new
