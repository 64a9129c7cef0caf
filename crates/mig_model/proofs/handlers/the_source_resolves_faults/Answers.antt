use Rattle.mig_model.proofs.invariant.Bounded.{bounded-reached}
use Rattle.mig_model.proofs.memory.HandlerCalls.{source_unprotects, source_zeroes}
use Rattle.mig_model.proofs.handlers.the_source_resolves_faults.Goals as goal

pub returns : goal.returns
returns c world reached =
    record {
      zeroed = λ addr h. source_zeroes reached.cpus world addr (bounded-reached world reached) h;
      unprotected = λ addr h. source_unprotects reached.cpus world addr (bounded-reached world reached) h;
    }
