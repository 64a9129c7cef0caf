use Rattle.std.proofs.Common.{◌≡◌, true, ℕ, ◌<◌, get_or}
use Rattle.history.specs.declared.operation.Operation.{Operation}
use Rattle.history.specs.Contradictions.{keeps_whole}
use Rattle.history.proofs.reader.is_location.Given as goal

abbrev pub invariant-loop-operation : goal.invariant-loop-operation
invariant-loop-operation l = (k : ℕ) (d : Operation) → k < l.operation-index → keeps_whole l.place l.size (get_or l.operations k d).action ≡ true
