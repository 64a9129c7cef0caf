use Rattle.mig_laws.proofs.RunsOfDrivers.{can-run, world-can-run}
use Rattle.mig_laws.proofs.drivers.every_run_is_one_of_drivers.Goals as goal

pub returns-clause-processes : goal.returns-clause-processes
returns-clause-processes c run =
    let all = can-run run.cpus run.epoch run.rounds run.events run.last run.are in
    record { last = all.0; are = all.1; bytes = all.2 }

pub returns-clause-world : goal.returns-clause-world
returns-clause-world c cpus epoch rounds steps whole =
    let all = world-can-run cpus epoch rounds steps whole in
    record { deeds = all.0; last = all.1; are = all.2; settled = all.3; world = all.4 }
