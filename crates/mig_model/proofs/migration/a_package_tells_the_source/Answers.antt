use Rattle.mig_model.proofs.steps.EveryStep.{kept-reached}
use Rattle.mig_model.proofs.delivery.FlightPromises.{package_tells}
use Rattle.mig_model.proofs.transcript.PromiseLemmas.{is_switching}
use Rattle.mig_model.proofs.migration.a_package_tells_the_source.Goals as goal

pub returns-clause-in_flight : goal.returns-clause-in_flight
returns-clause-in_flight c world reached there = package_tells world (kept-reached world reached) there

pub returns-clause-before_run : goal.returns-clause-before_run
returns-clause-before_run c world reached up stopped ran = is_switching world (kept-reached world reached) up stopped ran
