use Rattle.mig_model.proofs.invariant.Bounded.{bounded-reached}
use Rattle.mig_model.proofs.invariant.FaultPages.{inside-reached}
use Rattle.host_calls.proofs.MadeCalls.{step_made}
use Rattle.host_calls.proofs.laws.calls_are_made.Goals as goal

pub returns-clause-made : goal.returns-clause-made
returns-clause-made c world step effect reached of_host is = step_made reached.cpus world step effect (bounded-reached world reached) (inside-reached world reached) of_host is
