use Rattle.mig_laws.proofs.DriverWorlds.{filled-first, headline-of, holds, is-world, puts-right, zeroes-right, zeroes_here-right}
use Rattle.mig_laws.proofs.drivers.two_drivers_are_a_world.Goals as goal

pub returns-clause-processes : goal.returns-clause-processes
returns-clause-processes c run =
    let ran = filled-first run.cpus run.epoch run.rounds run.deeds run.last run.are in
    (ran.last, record { happen = ran.are; bytes = holds ran.last _ _ run.last ran.new_is })

pub returns-clause-world : goal.returns-clause-world
returns-clause-world c run settled = is-world run.cpus run.epoch run.rounds run.deeds run.last run.are settled

pub returns-clause-transcript : goal.returns-clause-transcript
returns-clause-transcript c run = (headline-of run.cpus run.epoch run.rounds run.deeds run.last run.are).flat

pub returns-clause-seen : goal.returns-clause-seen
returns-clause-seen c run = (headline-of run.cpus run.epoch run.rounds run.deeds run.last run.are).seen

pub returns-clause-alone : goal.returns-clause-alone
returns-clause-alone c run released = (headline-of run.cpus run.epoch run.rounds run.deeds run.last run.are).alone released

pub returns-clause-put : goal.returns-clause-put
returns-clause-put c run new addr origin put = puts-right run.cpus run.epoch run.rounds run.deeds run.last new addr origin put.is run.are put.effect

pub returns-clause-zeroed_here : goal.returns-clause-zeroed_here
returns-clause-zeroed_here c run new addr zeroed = zeroes_here-right run.cpus run.epoch run.rounds run.deeds run.last new addr zeroed.is run.are zeroed.effect

pub returns-clause-zeroed_there : goal.returns-clause-zeroed_there
returns-clause-zeroed_there c run new addr zeroed = zeroes-right run.cpus run.epoch run.rounds run.deeds run.last new addr zeroed.is run.are zeroed.effect
