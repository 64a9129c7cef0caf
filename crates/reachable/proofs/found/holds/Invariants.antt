use Rattle.std.proofs.Common.{◌≡◌, ℕ, ◌<◌, get_or}
use Rattle.reachable.specs.Reachable.{states_of}
use Rattle.reachable.proofs.found.holds.Given as goal

-- none of the states so far is this one
abbrev pub invariant-loop-place : goal.invariant-loop-place
invariant-loop-place g l = (k : ℕ) → k < l.place → get_or (states_of l.reached.found.items) k l.state ≡ l.state → ⊥
