use Rattle.explore.specs.Explorations.{GoesOn}
use Rattle.explore.proofs.run.write_sweep.Given as goal

abbrev pub invariant-loop : goal.invariant-loop
invariant-loop g l = GoesOn l.fn.answers l.fn.world (g.W.Write.contents l.fn.writer) l.fn.sheet.output.items l.world (g.W.Write.contents l.writer) l.sheet.output.items
