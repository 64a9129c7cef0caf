use Rattle.std.proofs.Common.{◌≡◌, ◌≢◌, None}
use Rattle.rig.specs.declared.turns.Leave.{Leave}
use Rattle.rig.proofs.turns.take_turns.Given as goal

abbrev pub invariant-loop-turn : goal.invariant-loop-turn
invariant-loop-turn g l =
    (g.T.Turns.who l.turns ≡ g.T.Turns.who l.fn.turns) × (g.T.Turns.turn l.turns ≡ l.turn) × (g.T.Turns.leave l.turns ≢ Leave.Over)
    × (g.T.Turns.due l.turns ≡ None)
