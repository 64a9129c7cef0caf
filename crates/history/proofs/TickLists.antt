-- The ticks of operations that are taken one after the other.
use Rattle.std.proofs.Common.{◌≡◌, ℕ, ◌+◌, ◌<◌, List, [], ◌∷◌, ◌++◌, sym, ap, ◌∙◌, append_assoc, append-nil, take, get_or, length}
use Rattle.std.proofs.lemmas.List.{take_more}
use Rattle.history.specs.declared.operation.Operation.{Operation}
use Rattle.history.specs.Histories.{ticks, ticks_of}

ticks-push : (operations : List Operation) (operation : Operation) → ticks (operations ++ operation ∷ []) ≡ ticks operations ++ ticks_of operation
ticks-push [] operation = append-nil (ticks_of operation)
ticks-push (first ∷ operations) operation = ap (λ (t : List ℕ). ticks_of first ++ t) (ticks-push operations operation) ∙ sym (append_assoc (ticks_of first) (ticks operations) (ticks_of operation))

pub ticks_more : (operations : List Operation) (i : ℕ) (d : Operation) → i < length operations → ticks (take (i + 1) operations) ≡ ticks (take i operations) ++ ticks_of (get_or operations i d)
ticks_more operations i d l = ap ticks (take_more operations i d l) ∙ ticks-push (take i operations) (get_or operations i d)
