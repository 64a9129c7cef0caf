use Rattle.mig_model.proofs.invariant.Bounded.{bounded-reached}
use Rattle.mig_model.proofs.memory.HandlerCalls.{page_protected, run_protected, zero_protected}
use Rattle.mig_model.proofs.handlers.the_source_protects_what_it_sends.Goals as goal

pub returns : goal.returns
returns c world reached =
    let bounded = bounded-reached world reached in
    record {
      page = λ addr h. page_protected reached.cpus world addr bounded h;
      zero = λ addr h. zero_protected reached.cpus world addr bounded h;
      run = λ count addr pages h. run_protected reached.cpus world count addr pages bounded h;
    }
