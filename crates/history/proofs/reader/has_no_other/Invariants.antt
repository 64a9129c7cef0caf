use Rattle.std.proofs.Common.{◌≡◌, ◌⊎◌, Some, ℕ, ◌<◌, get_or}
use Rattle.history.specs.declared.operation.Operation.{Operation}
use Rattle.history.specs.Contradictions.{left_at, IsOnly, CannotGive}
use Rattle.history.proofs.reader.has_no_other.Given as goal

abbrev pub invariant-loop-operation : goal.invariant-loop-operation
invariant-loop-operation l =
    (k : ℕ) (d : Operation) → k < l.operation-index → left_at l.place (get_or l.operations k d).action ≡ Some (Some l.value) → IsOnly l.only (get_or l.operations k d) ⊎ CannotGive l.between l.reader (get_or l.operations k d)
