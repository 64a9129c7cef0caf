use Rattle.std.proofs.Common.{sym, ◌∙◌}
use Rattle.schedules.proofs.TurnLemmas.{goes}
use Rattle.schedules.proofs.worlds.WorldsSystemWorldTurn.follow.Goals as goal

pub returns-in-Ok-step : goal.returns-in-Ok-step
returns-in-Ok-step c =
    goes c.args.state.now c.in-Ok.world c.step.new.self c.args.turn.step c.args.turn.limit c.in-Ok-step.field-0
    c.in-Ok.ensures (sym c.is_open.ensures ∙ c.if-not-is_open.false) c.in-Ok-step.ensures.happens
