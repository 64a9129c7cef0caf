use Rattle.std.proofs.Common.{◌∙◌, ap, sym, subst, get_or}
use Rattle.std.proofs.lemmas.Bool.{OnTrue_at}
use Rattle.mig_base.specs.Flat.{Memory, IsRunFrom, memory_from}
use Rattle.mig_model.specs.Host.{memory}
use Rattle.mig_model.proofs.memory.HostLemmas.{memory-empty}
use Rattle.history.specs.declared.operation.Operation.{Operation}
use Rattle.history.specs.Histories.{entries_of}
use Rattle.history.proofs.Agreeing.{no_operation}
use Rattle.history_order.proofs.Runs.{run_more, memory_more}
use Rattle.history_order.proofs.replay.is_flat.Goals as goal

pub loop-operation-init : goal.loop-operation-init
loop-operation-init c = record { run = tt; memory = ap memory c.new-host.ensures ∙ memory-empty }

pub loop-operation-preserved : goal.loop-operation-preserved
loop-operation-preserved c =
    let x : Operation = get_or c.args.operations.now c.loop-operation.operation-index no_operation in
    record {
      run =
          run_more c.args.operations.now c.loop-operation.operation-index no_operation c.loop-operation-test.true c.loop-operation.invariant.run
          (subst (λ (m : Memory). IsRunFrom m (entries_of x.thread x.action)) c.loop-operation.invariant.memory (OnTrue_at c.if-not-same.false c.in_ok-same.ensures.run));
      memory =
          OnTrue_at c.if-not-same.false c.in_ok-same.ensures.memory
          ∙ ap (λ (m : Memory). memory_from m (entries_of x.thread x.action)) c.loop-operation.invariant.memory
          ∙ sym (memory_more c.args.operations.now c.loop-operation.operation-index no_operation c.loop-operation-test.true);
    }
