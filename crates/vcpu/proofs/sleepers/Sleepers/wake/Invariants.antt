use Rattle.std.proofs.Common.{◌≡◌, ◌++◌, map, take, drop}
use Rattle.mig_model.specs.Cpus.{woken_if}
use Rattle.vcpu.specs.Sleepers.{are_woken}
use Rattle.vcpu.proofs.sleepers.Sleepers.wake.Given as goal

abbrev pub invariant-loop-processor : goal.invariant-loop-processor
invariant-loop-processor l =
    l.processors ≡ map (woken_if (are_woken l.self)) (take l.processor-index l.initial.processors) ++ drop l.processor-index l.initial.processors
