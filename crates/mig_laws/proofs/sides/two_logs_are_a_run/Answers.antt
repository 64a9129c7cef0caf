use Rattle.mig_laws.proofs.OrderRuns.{run_of_logs}
use Rattle.mig_laws.proofs.sides.two_logs_are_a_run.Goals as goal

pub returns-clause-accepted : goal.returns-clause-accepted
returns-clause-accepted c run = (run_of_logs run.cpus run.epoch run.rounds run.order.turns run.order.effects run.last run.order.are).accepted

pub returns-clause-world : goal.returns-clause-world
returns-clause-world c run = (run_of_logs run.cpus run.epoch run.rounds run.order.turns run.order.effects run.last run.order.are).world

pub returns-clause-source_log : goal.returns-clause-source_log
returns-clause-source_log c run = (run_of_logs run.cpus run.epoch run.rounds run.order.turns run.order.effects run.last run.order.are).here

pub returns-clause-destination_log : goal.returns-clause-destination_log
returns-clause-destination_log c run = (run_of_logs run.cpus run.epoch run.rounds run.order.turns run.order.effects run.last run.order.are).there
