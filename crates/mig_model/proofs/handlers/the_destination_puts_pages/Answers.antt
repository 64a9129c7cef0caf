use Rattle.mig_model.proofs.invariant.Bounded.{bounded-reached}
use Rattle.mig_model.proofs.memory.HandlerCalls.{copy_installed, destination_zeroes}
use Rattle.mig_model.proofs.handlers.the_destination_puts_pages.Goals as goal

pub returns : goal.returns
returns c world reached =
    let bounded = bounded-reached world reached in
    record {
      zeroed = λ addr h. destination_zeroes reached.cpus world addr bounded h;
      installed = λ copy rest addr source first h. (copy_installed reached.cpus world copy rest addr source bounded first h).0;
      installed_zeros = λ copy rest addr source first zeros h. (copy_installed reached.cpus world copy rest addr source bounded first h).1 zeros;
    }
