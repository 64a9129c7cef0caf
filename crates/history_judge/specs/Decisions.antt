-- What a decision on a history says.
use Rattle.std.specs.Prelude.{◌≡◌, ◌≢◌, List, []}
use Rattle.std.specs.List.{All}
use Rattle.history.specs.declared.contradiction.Contradiction.{Contradiction}
use Rattle.history.specs.declared.operation.Clock.{Clock}
use Rattle.history.specs.declared.operation.Operation.{Operation}
use Rattle.history.specs.Contradictions.{Contradicts}
use Rattle.history.specs.Histories.{Explains, GaveTicks, IsKept}
use Rattle.history_judge.specs.declared.decision.Decision.{Decision}
use Rattle.history_judge.specs.declared.decision.Decision.TheVariants.{Kept, Wrong, Undecided}

-- an order explains the history
pub record Explained (clock : Clock) (history order : List Operation) : Type 0 where
  pub explains : Explains history order
  pub ticked : GaveTicks clock history

-- these contradictions are there, so that no order does, or a counter gave a tick twice. The operations are as they were
pub record Refuted (clock : Clock) (history order : List Operation) (contradictions : List Contradiction) : Type 0 where
  pub unmoved : order ≡ history
  pub some : contradictions ≢ []
  pub there : All (Contradicts clock history) contradictions
  pub no_order : IsKept clock history → ⊥

-- the decision on a history, whose operations are then in this order. Where it is undecided, nothing is said
abbrev pub Decides : Clock → List Operation → List Operation → Decision → Type 0
Decides clock history order Kept = Explained clock history order
Decides clock history order (Wrong contradictions) = Refuted clock history order contradictions.items
Decides clock history order (Undecided doubt) = Unit {0}
