use Rattle.std.proofs.Common.{◌∙◌, ap, set}
use Rattle.vcpu.proofs.ProcessorLemmas.{taken_over_more}
use Rattle.vcpu.proofs.cpus.Cpus.take_over.Goals as goal

pub loop-k-preserved : goal.loop-k-preserved
loop-k-preserved c =
    c.put.ensures ∙ ap (λ processor. set c.loop-k.self c.loop-k.k processor) c.state_taken_over.ensures
    ∙ taken_over_more c.args.commands.now c.args.self.now c.loop-k.self c.loop-k.k _ c.loop-k-test.true c.requires c.loop-k.invariant
