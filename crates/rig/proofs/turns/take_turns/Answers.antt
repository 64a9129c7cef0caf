use Rattle.std.proofs.Common.{◌%◌, length, ◌∙◌}
use Rattle.std.proofs.Math.Nat.{mod-lt}
use Rattle.rig.proofs.TurnLemmas.{table_some, table_step, table_ticket}
use Rattle.rig.proofs.turns.take_turns.Goals as goal

pub take_turn-requires-clause-step : goal.take_turn-requires-clause-step
take_turn-requires-clause-step g c =
    let steps = c.args.steps.now in
    table_step (g.T.Turns.who c.loop-turn.turns) (g.T.Turns.who c.args.turns.now) steps (c.loop-turn.turn % length steps) _ c.loop-turn.invariant.0 c.requires.who c.requires.table
    (mod-lt c.loop-turn.turn (table_some (g.T.Turns.who c.args.turns.now) steps c.requires.who c.requires.table))

pub take_turn-requires-clause-no_push : goal.take_turn-requires-clause-no_push
take_turn-requires-clause-no_push g c =
    let steps = c.args.steps.now in
    table_ticket (g.T.Turns.who c.args.turns.now) steps (c.loop-turn.turn % length steps) _ c.requires.who c.requires.table
    (mod-lt c.loop-turn.turn (table_some (g.T.Turns.who c.args.turns.now) steps c.requires.who c.requires.table))
