use Rattle.explore.specs.Explorations.{Going}
use Rattle.explore.proofs.run.write_script.Given as goal

abbrev pub invariant-loop : goal.invariant-loop
invariant-loop g l = Going l.fn.plan.answers l.fn.world l.counter l.world (g.W.Write.contents l.fn.writer) (g.W.Write.contents l.writer) l.sheet.output.items
