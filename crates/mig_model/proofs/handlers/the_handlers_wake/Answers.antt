use Rattle.mig_model.proofs.invariant.Bounded.{bounded-reached}
use Rattle.mig_model.proofs.invariant.FaultPages.{inside-reached}
use Rattle.mig_model.proofs.memory.HandlerCalls.{destination_forgets, destination_wakes, source_forgets, source_wakes}
use Rattle.mig_model.proofs.handlers.the_handlers_wake.Goals as goal

pub returns : goal.returns
returns c world reached =
    let bounded = bounded-reached world reached in
    let inside = inside-reached world reached in
    record {
      source = λ addr h. source_wakes reached.cpus world addr bounded inside h;
      source_forgot = λ addr h. source_forgets reached.cpus world addr bounded inside h;
      destination = λ addr h. destination_wakes reached.cpus world addr bounded inside h;
      destination_forgot = λ addr h. destination_forgets reached.cpus world addr bounded inside h;
    }
