use Rattle.std.proofs.Common.{ℕ, ◌<◌, get_or}
use Rattle.history.specs.declared.cycle.Value.{Value}
use Rattle.history_search.specs.Proposals.{IsValueWithin}
use Rattle.history_search.proofs.within.are_values_within.Given as goal

abbrev pub invariant-loop-value : goal.invariant-loop-value
invariant-loop-value l = (k : ℕ) (d : Value) → k < l.value-index → IsValueWithin l.count (get_or l.values k d)
