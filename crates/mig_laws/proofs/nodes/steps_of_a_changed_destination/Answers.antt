use Rattle.mig_laws.proofs.DestinationNode.{act-under, install-under, pause-under, read-under, take-under, take_urgent-under}
use Rattle.mig_laws.proofs.nodes.steps_of_a_changed_destination.Goals as goal

pub returns-clause-steps : goal.returns-clause-steps
returns-clause-steps c f node = record {
  read = λ bytes. read-under f bytes node;
  install = λ bytes. install-under f bytes node;
  pause = λ bytes. pause-under f bytes node;
}

pub returns-clause-pages : goal.returns-clause-pages
returns-clause-pages c f node is = record {
  act = λ bytes. act-under f is.keeps_zero bytes node;
  take = λ epoch frame whole. take-under f is.keeps_zero node epoch frame whole;
  take_urgent = λ frame whole. take_urgent-under f is.keeps_zero node frame whole;
}
