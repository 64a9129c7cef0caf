use Rattle.explore.proofs.Going.{goes_first, goes_line, goes_stops, goes_cut, on_err}
use Rattle.explore.proofs.run.write_sweep.Goals as goal

pub loop-init : goal.loop-init
loop-init g c = goes_first _ _ _ _

pub loop-preserved : goal.loop-preserved
loop-preserved g c = goes_line _ _ _ _ _ _ _ _ _ _ _ c.loop.invariant c.in_ok-add_order.ensures c.in_ok-flush_much.ensures.ok

pub returns-in_err-sweep-clause-fault : goal.returns-in_err-sweep-clause-fault
returns-in_err-sweep-clause-fault g c = on_err _ _ (goes_stops _ _ _ _ _ _ _ (goes_first _ _ _ _))

pub returns-in_err-add_order-clause-fault : goal.returns-in_err-add_order-clause-fault
returns-in_err-add_order-clause-fault g c = on_err _ _ (goes_stops _ _ _ _ _ _ _ c.loop.invariant)

pub returns-in_err-flush_much-clause-fault : goal.returns-in_err-flush_much-clause-fault
returns-in_err-flush_much-clause-fault g c = on_err _ _ (goes_cut _ _ _ _ _ _ _ _ _ _ c.loop.invariant c.in_ok-add_order.ensures c.in_err-flush_much.ensures.front)
