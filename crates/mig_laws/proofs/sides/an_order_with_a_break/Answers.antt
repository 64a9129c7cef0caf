use Rattle.mig_laws.proofs.ExampleOrder.{example, example-events}
use Rattle.mig_laws.proofs.ExampleReplaced.{example-replaced}
use Rattle.mig_laws.proofs.sides.an_order_with_a_break.Goals as goal

pub returns-clause-order : goal.returns-clause-order
returns-clause-order c = example

pub returns-clause-processes : goal.returns-clause-processes
returns-clause-processes c = example-events

pub returns-clause-replaced : goal.returns-clause-replaced
returns-clause-replaced c = example-replaced
