use Rattle.explore.proofs.Going.{goes_then, stops_then, then_ok, then_fault, on_err}
use Rattle.explore.proofs.run.write_whole.Goals as goal

pub returns-in_err-write_sweep-clause-fault : goal.returns-in_err-write_sweep-clause-fault
returns-in_err-write_sweep-clause-fault g c = on_err _ _ (stops_then _ _ _ _ _ _ _ _ c.in_ok-write_finish.ensures.ok c.in_err-write_sweep.ensures.fault)

pub returns-clause-ok : goal.returns-clause-ok
returns-clause-ok g c =
    then_ok _ _ _ _ _ _ _ _ _ _ _ (goes_then _ _ _ _ _ _ _ _ _ _ c.in_ok-write_finish.ensures.ok c.in_ok-write_sweep.ensures.ok) c.write_finish-2.ensures.ok

pub returns-clause-fault : goal.returns-clause-fault
returns-clause-fault g c =
    then_fault _ _ _ _ _ _ _ _ _ (goes_then _ _ _ _ _ _ _ _ _ _ c.in_ok-write_finish.ensures.ok c.in_ok-write_sweep.ensures.ok) c.write_finish-2.ensures.fault
