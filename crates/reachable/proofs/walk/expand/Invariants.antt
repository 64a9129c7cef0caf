use Rattle.std.proofs.Common.{ℕ, ◌<◌, get_or}
use Rattle.std.specs.List.{Contains}
use Rattle.reachable.specs.Reachable.{Grows, IsHashed, states_of}
use Rattle.reachable.proofs.walk.expand.Given as goal

-- the moves so far were followed
abbrev pub invariant-loop-turn : goal.invariant-loop-turn
invariant-loop-turn g l = record {
  hashed : IsHashed (g.Y.System.hash_of l.system) l.reached;
  grows : Grows (g.Y.System.next l.system) l.moves l.initial.reached.found.items l.reached.found.items;
  followed : (turn : ℕ) (state : g.row.S.Denot) (step : g.row.M.Denot) → turn < l.turn → Contains (states_of l.reached.found.items)
      (g.Y.System.next l.system (get_or (states_of l.initial.reached.found.items) l.from state) (get_or l.moves turn step));
}
