use Rattle.std.proofs.Common.{subst, sym}
use Rattle.std.specs.Option.{IfSome}
use Rattle.grammar.specs.Fits.{CanBeSpelled}
use Rattle.grammar.specs.Orders.{order_of}
use Rattle.finishing.proofs.Sayable.{can_say}
use Rattle.explore.proofs.Going.{goes_first, goes_line, goes_stops, goes_cut, fewer_left, on_err}
use Rattle.explore.proofs.run.write_finish.Goals as goal

pub loop-step-init : goal.loop-step-init
loop-step-init g c = goes_first _ _ _ _

pub loop-step-preserved : goal.loop-step-preserved
loop-step-preserved g c = goes_line _ _ _ _ _ _ _ _ _ _ _ c.loop-step.invariant c.in_ok-add_step.ensures.added c.in_ok-flush_much.ensures.ok

pub loop-step-smaller : goal.loop-step-smaller
loop-step-smaller g c = fewer_left _ _ _ c.in-Some.ensures.due c.in_ok-add_step.ensures.made

pub returns-in_err-add_step-clause-fault : goal.returns-in_err-add_step-clause-fault
returns-in_err-add_step-clause-fault g c = on_err _ _ (goes_stops _ _ _ _ _ _ _ c.loop-step.invariant)

pub returns-in_err-flush_much-clause-fault : goal.returns-in_err-flush_much-clause-fault
returns-in_err-flush_much-clause-fault g c = on_err _ _ (goes_cut _ _ _ _ _ _ _ _ _ _ c.loop-step.invariant c.in_ok-add_step.ensures.added c.in_err-flush_much.ensures.front)

pub add_step-requires : goal.add_step-requires
add_step-requires g c = subst (λ o. IfSome o (λ made. CanBeSpelled (order_of made))) (sym c.in-Some.ensures.step) (can_say c.loop-step.world)
