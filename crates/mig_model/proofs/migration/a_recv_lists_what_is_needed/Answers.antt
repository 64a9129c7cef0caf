use Rattle.mig_model.proofs.steps.EveryStep.{kept-reached}
use Rattle.mig_model.proofs.delivery.FlightPromises.{recv_tells}
use Rattle.mig_model.proofs.transcript.PromiseLemmas.{is_receiving}
use Rattle.mig_model.proofs.migration.a_recv_lists_what_is_needed.Goals as goal

pub returns-clause-in_flight : goal.returns-clause-in_flight
returns-clause-in_flight c world reached there = recv_tells world (kept-reached world reached) there

pub returns-clause-paused : goal.returns-clause-paused
returns-clause-paused c world reached up paused runs = is_receiving world (kept-reached world reached) up paused runs
