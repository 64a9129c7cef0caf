use Rattle.std.proofs.Common.{◌≡◌, ◌++◌, ◌∙◌, ap, sym, subst, take, drop, length, arith}
use Rattle.std.proofs.Math.Seq.{take-append_seam}
use Rattle.mig_model.specs.Cpus.{all_woken}
use Rattle.vcpu.specs.Processors.{AreProcessors}
use Rattle.vcpu.specs.Sleepers.{are_woken}
use Rattle.vcpu.proofs.ProcessorLemmas.{AreProcessors-all_woken}
use Rattle.vcpu.proofs.cpus.Cpus.wake.Goals as goal

pub invariant_of-self : goal.invariant_of-self
invariant_of-self c =
    let test = are_woken c.args.sleepers in
    let woken : c.wake.new.processors ≡ all_woken test c.self.inside.states.items = c.wake.ensures ∙ ap (all_woken test) c.deref_mut.ensures.value in
    let many : c.self.inside.states.len ≡ length c.wake.new.processors = omega (arith, c.deref_mut.ensures.len, c.wake.auto.processors) in
    let back = ap (λ n. take n (c.wake.new.processors ++ drop (length c.wake.new.processors) c.self.inside.states.items)) many ∙ take-append_seam c.wake.new.processors _ in
    subst AreProcessors (sym (back ∙ woken)) (AreProcessors-all_woken test c.self.inside.states.items c.self.invariant)
