use Rattle.std.proofs.Common.{drop}
use Rattle.history.specs.Contradictions.{IsRound}
use Rattle.history.proofs.cycle.is_round.Given as goal

-- what is left of the round is all that it wants
abbrev pub invariant-loop-value : goal.invariant-loop-value
invariant-loop-value l = IsRound l.operations l.place l.first l.last (drop l.value-index l.rest) → IsRound l.operations l.place l.first l.first l.rest
