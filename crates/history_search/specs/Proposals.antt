-- What a proposal says of a history: it names operations that are there.
use Rattle.std.specs.Prelude.{ℕ, ◌<◌, IfSome, List, length}
use Rattle.std.specs.List.{All}
use Rattle.history.specs.declared.contradiction.Contradiction.{Contradiction}
use Rattle.history.specs.declared.contradiction.Contradiction.TheVariants.{NoSource, Fork, Cycle, Backward, OneTick, Overlap}
use Rattle.history.specs.declared.cycle.Value.{Value}
use Rattle.history.specs.declared.operation.Operation.{Operation}
use Rattle.history_search.specs.declared.proposal.Proposal.{Proposal}
use Rattle.history_search.specs.declared.proposal.Proposal.TheVariants as proposal

-- the operations that saw a value are among the first `count`
abbrev pub IsValueWithin : ℕ → Value → Type 0
IsValueWithin count value = (value.source < count) × (value.early < count) × (value.late < count)

-- the operations that a contradiction names are
abbrev pub IsWithin : ℕ → Contradiction → Type 0
IsWithin count (NoSource reader between) = (reader < count) × IfSome between (λ it. it < count)
IsWithin count (Fork source first second) = (source < count) × (first < count) × (second < count)
IsWithin count (Cycle place size values) = All (IsValueWithin count) values.items
IsWithin count (Backward at) = at < count
IsWithin count (OneTick first second) = (first < count) × (second < count)
IsWithin count (Overlap first second) = (first < count) × (second < count)

-- and so are those of a proposal
abbrev pub NamesThose : List Operation → Proposal → Type 0
NamesThose history (proposal.Order order) = All (λ index. index < length history) order.items
NamesThose history (proposal.Contradictions contradictions) = All (IsWithin (length history)) contradictions.items
NamesThose history (proposal.Nothing doubt) = Unit {0}
