use Rattle.mig_model.proofs.invariant.Bounded.{bounded-reached}
use Rattle.mig_model.proofs.memory.HandlerCalls.{round_registers, run_registers, start_registers}
use Rattle.mig_model.proofs.memory.Registering.{runs_of}
use Rattle.mig_model.proofs.handlers.areas_are_registered.Goals as goal

pub returns-clause-registered : goal.returns-clause-registered
returns-clause-registered c world runs reached =
    let bounded = bounded-reached world reached in
    record {
      start = λ ok are. start_registers reached.cpus world runs bounded ok are;
      round = λ ok are. round_registers reached.cpus world runs bounded ok are;
      run = λ n count h are. run_registers reached.cpus world n count runs bounded h are;
    }

pub returns-clause-runs : goal.returns-clause-runs
returns-clause-runs c areas mapping = runs_of areas mapping
