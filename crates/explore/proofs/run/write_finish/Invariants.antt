use Rattle.finish.specs.Finishing.{steps_left}
use Rattle.explore.specs.Explorations.{GoesOn}
use Rattle.explore.proofs.run.write_finish.Given as goal

abbrev pub invariant-loop-step : goal.invariant-loop-step
invariant-loop-step g l = GoesOn l.fn.answers l.fn.world (g.W.Write.contents l.fn.writer) l.fn.sheet.output.items l.world (g.W.Write.contents l.writer) l.sheet.output.items

abbrev pub decreases-loop-step : goal.decreases-loop-step
decreases-loop-step g l = steps_left l.world
