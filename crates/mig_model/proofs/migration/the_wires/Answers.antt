use Rattle.mig_model.proofs.delivery.WirePromises.{forward_grows, back_grows, urgent_grows, wires_broken, stays_up}
use Rattle.mig_model.proofs.migration.the_wires.Goals as goal

pub returns-clause-forward : goal.returns-clause-forward
returns-clause-forward c world step keeps = forward_grows world step keeps

pub returns-clause-back : goal.returns-clause-back
returns-clause-back c world step keeps = back_grows world step keeps

pub returns-clause-urgent : goal.returns-clause-urgent
returns-clause-urgent c world step keeps = urgent_grows world step keeps

pub returns-clause-broken : goal.returns-clause-broken
returns-clause-broken c world ok =
    let are = wires_broken world ok in
    record { forward = are.0; back = are.1; urgent = are.2; up = are.3 }

pub returns-clause-up : goal.returns-clause-up
returns-clause-up c world step other up = stays_up world step other up
