use Rattle.std.proofs.Common.{◌-◌, ◌≤◌, length, take}
use Rattle.reachable.specs.Reachable.{AreSound, AreFollowed, IsHashed, states_of}
use Rattle.reachable.proofs.walk.reach.Given as goal

-- the moves were followed from the states so far
abbrev pub invariant-loop-at : goal.invariant-loop-at
invariant-loop-at g l = record {
  hashed : IsHashed (g.Y.System.hash_of l.system) l.reached;
  sound : AreSound (g.Y.System.next l.system) l.moves l.fn.first l.reached.found.items;
  within : l.at ≤ length l.reached.found.items;
  followed : AreFollowed (g.Y.System.next l.system) l.moves (states_of l.reached.found.items) (take l.at (states_of l.reached.found.items));
}

abbrev pub decreases-loop-at : goal.decreases-loop-at
decreases-loop-at g l = l.most - l.at
