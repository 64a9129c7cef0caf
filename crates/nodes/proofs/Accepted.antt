-- What an accepted answer of a call gives.
use Rattle.std.proofs.Common.{◌≡◌, ap}
use Rattle.std.specs.Prelude.{Result, Ok, Err}
use Rattle.mig_base.specs.declared.effect.Effect.{Effect}
use Rattle.mig_base.specs.declared.refusal.Refusal.{Refusal}
use Rattle.mig_model.specs.NodeSteps.{Acted, acted}

effect_by : {Node : Type 0} → Effect → Result (Acted Node) Refusal → Effect
effect_by none (Ok done) = done.effect
effect_by none (Err refusal) = none

node_by : {Node : Type 0} → Node → Result (Acted Node) Refusal → Node
node_by none (Ok done) = done.node
node_by none (Err refusal) = none

pub same-effect : {Node : Type 0} → (one other : Effect) (old new : Node) → acted one old ≡ acted other new → one ≡ other
unfolding effect_by
same-effect one other old new is = ap (effect_by one) is

pub same-node : {Node : Type 0} → (one other : Effect) (old new : Node) → acted one old ≡ acted other new → old ≡ new
unfolding node_by
same-node one other old new is = ap (node_by old) is

pub refused : {Node : Type 0} → (refusal : Refusal) (effect : Effect) (new : Node) → ◌≡◌ {A = Result (Acted Node) Refusal} (Err refusal) (acted effect new) → ⊥
refused refusal effect new is = cc
