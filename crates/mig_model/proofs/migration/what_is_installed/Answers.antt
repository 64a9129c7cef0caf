use Rattle.mig_model.proofs.delivery.WirePromises.{arrivals_after, given_up_where, installed_where}
use Rattle.mig_model.proofs.steps.EveryStep.{kept-reached}
use Rattle.mig_model.proofs.migration.what_is_installed.Goals as goal

pub returns-clause-arrival : goal.returns-clause-arrival
returns-clause-arrival c world copy rest is =
    record {
      first = arrivals_after world copy rest is.accepted is.first;
      given_up = λ none. given_up_where world copy rest is.accepted is.first none;
    }

pub returns-clause-owed : goal.returns-clause-owed
returns-clause-owed c world copy rest reached is = λ page owes. installed_where world copy rest page (kept-reached world reached) is.accepted is.first owes
