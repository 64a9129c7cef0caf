-- What the tests of a step tell of it: that it is made, or why it is refused.
use Rattle.std.proofs.Common.{◌≡◌, Bool, true, false, List, [], ◌∷◌, refl, ap, inr, arith}
use Rattle.std.specs.Prelude.{Result, Ok, Err, IsOk}
use Rattle.mig_base.specs.declared.refusal.Refusal.{Refusal}
use Rattle.mig_model.specs.NodeSteps.{IsRefusedFor, and_then, checked, unless}
use Rattle.mig_model.proofs.steps.StepLemmas.{NoneApplies, not_refused}

-- no reason to refuse a step applies where its check passes
pub passed : {A : Type 0} (reasons : List (Bool × Refusal)) (step : Result A Refusal) → Ok tt ≡ checked (unless reasons step) → NoneApplies reasons
unfolding unless
passed [] step is = tt
passed ((true, refusal) ∷ reasons) step is = absurd (grind arith)
passed ((false, refusal) ∷ reasons) step is = (refl, passed reasons step is)

-- such a step is made
pub made_if : {A : Type 0} (reasons : List (Bool × Refusal)) (step : Result A Refusal) → Ok tt ≡ checked (unless reasons step) → unless reasons step ≡ step
made_if reasons step is = not_refused reasons step (passed reasons step is)

pub passes_ok : {A : Type 0} (step : Result A Refusal) → Ok tt ≡ checked step → IsOk step
passes_ok (Ok made) is = refl
passes_ok (Err refusal) is = absurd (grind arith)

-- or memory runs out
pub lacks : {A : Type 0} (step : Result A Refusal) → Ok tt ≡ checked step → IsRefusedFor step Refusal.NoMemory
lacks step is = inr (refl, passes_ok step is)

-- a step is refused as its check is
pub refused_if : {A : Type 0} (step : Result A Refusal) (refusal : Refusal) → Err refusal ≡ checked step → step ≡ Err refusal
refused_if (Ok made) refusal is = absurd (grind arith)
refused_if (Err other) refusal is = grind arith

-- a step that continues from what is not there is refused as that is
pub stops : {A B : Type 0} (found : Result A Refusal) (step : A → Result B Refusal) (refusal : Refusal) → found ≡ Err refusal → and_then found step ≡ Err refusal
stops found step refusal is = ap (λ f. and_then f step) is
