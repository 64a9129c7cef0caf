-- Contradictions that are named.
use Rattle.std.proofs.Common.{◌≢◌, List, [], ◌∷◌, refl}
use Rattle.std.specs.List.{All}
use Rattle.std.proofs.lemmas.List.Elements.{All-head}
use Rattle.history.specs.declared.contradiction.Contradiction.{Contradiction}
use Rattle.history.specs.declared.operation.Clock.{Clock}
use Rattle.history.specs.declared.operation.Operation.{Operation}
use Rattle.history.specs.Contradictions.{Contradicts}
use Rattle.history.specs.Histories.{IsKept}
use Rattle.history.proofs.Refuted.{refuted}

-- where there is one, no order explains the history
pub refuted_by : (clock : Clock) (history : List Operation) (named : List Contradiction) → named ≢ [] → All (Contradicts clock history) named → IsKept clock history → ⊥
refuted_by clock history [] some there kept = some refl
refuted_by clock history (first ∷ rest) some there kept = refuted clock history first (All-head (Contradicts clock history) first rest there) kept
