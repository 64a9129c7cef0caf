-- Steps of a kernel, once their tests are known.
use Rattle.std.proofs.Common.{◌≡◌, ℕ, true, Bool, [], ◌∷◌, ◌++◌, Some, refl}
use Rattle.std.specs.Prelude.{not}
use Rattle.std.specs.List.{list_any}
use Rattle.kernel_rules.specs.declared.difference.Difference.TheVariants.{FaultOfEachThread, FaultOnItsWay}
use Rattle.kernel_rules.specs.declared.fault.Fault.{Fault}
use Rattle.kernel_rules.specs.declared.known.Phase.TheVariants.{Unread}
use Rattle.kernel_rules.specs.declared.object.Object.{Object}
use Rattle.kernel_rules.specs.State.{Kernel, noted_if}
use Rattle.kernel_rules.specs.Faults.{is_seen, must_wait, fault_of, faults_without, is_twin, queues}

pub queues_is : (kernel after : Kernel) (thread : ℕ) (fault : Fault) (object : Object) (late twin : Bool) → fault_of kernel.faults thread ≡ Some fault → kernel.objects fault.object ≡ Some object
    → is_seen fault.phase ≡ true → late ≡ not (must_wait kernel object.space fault) → twin ≡ list_any (is_twin fault) kernel.faults
    → after ≡ noted_if twin FaultOfEachThread (noted_if late FaultOnItsWay (record kernel { faults = faults_without kernel.faults fault.thread ++ record fault { phase = Unread } ∷ [] }))
    → queues kernel thread ≡ Some after
queues_is kernel after thread fault object late twin found opened seen is_late is_twins is_after = rw (is_after, is_late, is_twins, found, opened, seen) refl
