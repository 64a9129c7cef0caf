use Rattle.explore.proofs.Going.{end_ok, end_fault, finish_ok, finish_fault, finish_stopped, sweep_ok, sweep_fault, sweep_stopped, on_err}
use Rattle.explore.proofs.run.write_end.Goals as goal

pub returns-in_err-write_whole-clause-fault : goal.returns-in_err-write_whole-clause-fault
returns-in_err-write_whole-clause-fault g c = on_err _ _ (finish_stopped _ _ _ _ _ _ _ _ c.if-plan.true c.in_err-write_whole.ensures.fault)

pub returns-then-plan-clause-ok : goal.returns-then-plan-clause-ok
returns-then-plan-clause-ok g c = finish_ok _ _ _ _ _ _ _ _ _ _ _ _ c.if-plan.true c.in_ok-write_whole.ensures.ok c.in_ok-write_whole.ensures.ended c.flush.ensures.ok

pub returns-then-plan-clause-fault : goal.returns-then-plan-clause-fault
returns-then-plan-clause-fault g c = finish_fault _ _ _ _ _ _ _ _ _ _ _ _ c.if-plan.true c.in_ok-write_whole.ensures.ok c.flush.ensures.front

pub returns-in_err-write_sweep-clause-fault : goal.returns-in_err-write_sweep-clause-fault
returns-in_err-write_sweep-clause-fault g c = on_err _ _ (sweep_stopped _ _ _ _ _ _ _ _ c.if-plan.false c.if-plan-2.true c.in_err-write_sweep.ensures.fault)

pub returns-then-plan-2-clause-ok : goal.returns-then-plan-2-clause-ok
returns-then-plan-2-clause-ok g c = sweep_ok _ _ _ _ _ _ _ _ _ _ _ _ c.if-plan.false c.if-plan-2.true c.in_ok-write_sweep.ensures.ok c.flush-then-plan-2.ensures.ok

pub returns-then-plan-2-clause-fault : goal.returns-then-plan-2-clause-fault
returns-then-plan-2-clause-fault g c = sweep_fault _ _ _ _ _ _ _ _ _ _ _ _ c.if-plan.false c.if-plan-2.true c.in_ok-write_sweep.ensures.ok c.flush-then-plan-2.ensures.front

pub returns-clause-ok : goal.returns-clause-ok
returns-clause-ok g c = end_ok _ _ _ _ _ _ _ _ _ c.if-plan.false c.if-plan-2.false c.flush-2.ensures.ok

pub returns-clause-fault : goal.returns-clause-fault
returns-clause-fault g c = end_fault _ _ _ _ _ _ _ _ _ c.if-plan.false c.if-plan-2.false c.flush-2.ensures.front
