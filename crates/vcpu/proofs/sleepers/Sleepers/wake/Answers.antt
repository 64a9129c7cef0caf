use Rattle.std.proofs.Common.{rules}
use Rattle.std.proofs.lemmas.List.Edits.{map_over_more}
use Rattle.mig_model.specs.Cpus.{woken_if}
use Rattle.vcpu.specs.Sleepers.{are_woken}
use Rattle.vcpu.proofs.sleepers.Sleepers.wake.Goals as goal

pub loop-processor-preserved : goal.loop-processor-preserved
loop-processor-preserved c =
    rw c.wake_one.ensures (map_over_more (woken_if (are_woken c.args.self)) c.args.processors.now c.loop-processor.processors c.loop-processor.processor-index _ c.loop-processor-test.true c.loop-processor.invariant (search rules))
