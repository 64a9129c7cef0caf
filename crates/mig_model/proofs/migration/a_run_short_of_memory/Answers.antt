use Rattle.mig_model.proofs.steps.Runs.{needs_none, never_lacking, run_enough, run_reached, run_results, run_world}
use Rattle.mig_model.proofs.migration.a_run_short_of_memory.Goals as goal

pub returns-clause-world : goal.returns-clause-world
returns-clause-world c world new steps results run = run_world world steps results new run

pub returns-clause-results : goal.returns-clause-results
returns-clause-results c world new steps results run = run_results world steps results new run

pub returns-clause-reached : goal.returns-clause-reached
returns-clause-reached c world new steps results reached run = run_reached world steps results new reached run

pub returns-clause-enough : goal.returns-clause-enough
returns-clause-enough c world steps = run_enough world steps

pub returns-clause-never : goal.returns-clause-never
returns-clause-never c world step = never_lacking world step

pub returns-clause-needs_none : goal.returns-clause-needs_none
returns-clause-needs_none c world new step result none happens = needs_none world step result new none happens
