-- A log of a destination whose guest has one page: it reads the page before its bytes have arrived, waits, and continues once they are put.
use Rattle.std.specs.Prelude.{◌≡◌, false, None, List, [], ◌∷◌}
use Rattle.foundation.specs.declared.TheConstants.{PAGE_SIZE}
use Rattle.mig_base.specs.declared.schedule.Step.{Step}
use Rattle.mig_model.specs.Ioctls.{all_features, event_features}
use Rattle.mig_model.specs.Promises.{AreAccepted}
use Rattle.uffd_log.specs.declared.call.Call.TheVariants as call
use Rattle.uffd_log.specs.declared.call.Descriptor.{Descriptor}
use Rattle.uffd_log.specs.declared.call.Message.TheVariants.{Fault}
use Rattle.uffd_log.specs.declared.line.Answer.TheVariants.{Features, Opened, Value}
use Rattle.kernel_laws.specs.Logs.{Arrival, Ended, HaveNoMapCalls, Written, answered, arrived, whole_log}

-- the descriptor of its object
abbrev pub its_descriptor : Descriptor
its_descriptor = record { object = 0; fd = 3 }

-- its calls: userfaultfd(2), UFFDIO_API, UFFDIO_REGISTER of the page at 0x10000, read(2) of its fault, and UFFDIO_COPY from a buffer at 0x20000
abbrev pub its_calls : List Ended
its_calls =
    answered (call.Open false 0x800) (Opened its_descriptor)
    ∷ answered (call.Api its_descriptor 0xaa event_features) (Features all_features 0x8000000000000003)
    ∷ answered (call.Register its_descriptor 0x10000 PAGE_SIZE 1) (Value 0xc)
    ∷ record { call = call.Read its_descriptor None; out = record { answer = Value 1; messages = Fault 0x10000 0 0 ∷ []; runs = [] } }
    ∷ answered (call.Copy its_descriptor 0x10000 0x20000 PAGE_SIZE 0) (Value PAGE_SIZE) ∷ []

-- a destination has this log: steps lead from its Package on, of which none is refused or begins a map call
pub record IsOfDestination (log : Written) : Type 0 where
  pub it : Arrival
  pub steps : List Step
  pub no_map_calls : HaveNoMapCalls steps
  pub accepted : AreAccepted (arrived it) steps
  pub is : whole_log it steps ≡ log
