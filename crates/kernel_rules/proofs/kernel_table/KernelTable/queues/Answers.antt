use Rattle.std.proofs.Common.{◌∙◌, sym, ap}
use Rattle.std.specs.Prelude.{not}
use Rattle.kernel_rules.specs.declared.difference.Difference.TheVariants.{FaultOfEachThread, FaultOnItsWay}
use Rattle.kernel_rules.specs.State.{Kernel, noted_if}
use Rattle.kernel_rules.specs.Held.{kernel_of}
use Rattle.kernel_rules.proofs.Steps.{queues_is}
use Rattle.kernel_rules.proofs.kernel_table.KernelTable.queues.Goals as goal

pub returns-clause-step : goal.returns-clause-step
returns-clause-step c =
    queues_is (kernel_of c.args.self.now) _ c.args.thread c.in-Some.fault c.in-Some-object.object (not c.must_wait-late.result) c.has_twin-twin.result
    (sym c.fault.ensures ∙ c.in-Some.is)
    (sym c.object.ensures ∙ c.in-Some-object.is)
    (sym c.has_seen.ensures ∙ c.if-not-has_seen.false)
    (ap not c.must_wait-late.ensures)
    c.has_twin-twin.ensures
    (c.in_ok-note_if-2.ensures.noted
    ∙ ap (λ (k : Kernel). noted_if c.has_twin-twin.result FaultOfEachThread k)
    (c.in_ok-note_if.ensures.noted ∙ ap (λ (k : Kernel). noted_if (not c.must_wait-late.result) FaultOnItsWay k) c.in_ok-put_fault.ensures.put))
