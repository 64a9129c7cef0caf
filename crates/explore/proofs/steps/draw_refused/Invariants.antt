use Rattle.grammar.specs.Fits.{CanBeSpelled}
use Rattle.explore.proofs.steps.draw_refused.Given as goal

abbrev pub invariant-loop : goal.invariant-loop
invariant-loop g l = CanBeSpelled l.order
