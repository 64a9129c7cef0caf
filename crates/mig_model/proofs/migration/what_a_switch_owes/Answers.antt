use Rattle.mig_model.proofs.steps.EveryStep.{kept-reached}
use Rattle.mig_model.proofs.delivery.FlightPromises.{switch_owes, switch_sends}
use Rattle.mig_model.proofs.migration.what_a_switch_owes.Goals as goal

pub returns-clause-owes : goal.returns-clause-owes
returns-clause-owes c world page reached ok = switch_owes world page (kept-reached world reached) ok

pub returns-clause-sends : goal.returns-clause-sends
returns-clause-sends c world ok = switch_sends world ok
