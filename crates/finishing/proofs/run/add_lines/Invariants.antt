use Rattle.std.proofs.Common.{take}
use Rattle.finishing.specs.Finished.{Adds}
use Rattle.finishing.proofs.run.add_lines.Given as goal

abbrev pub invariant-loop-step : goal.invariant-loop-step
invariant-loop-step l = Adds (take l.step-index l.steps) l.fn.text.items l.text.items
