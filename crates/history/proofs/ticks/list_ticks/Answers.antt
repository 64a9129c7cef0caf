use Rattle.std.proofs.Common.{List, ℕ, ◌++◌, ◌∙◌, sym, ap, get_or}
use Rattle.history.specs.Histories.{ticks_of}
use Rattle.history.proofs.Agreeing.{no_operation}
use Rattle.history.proofs.TickLists.{ticks_more}
use Rattle.history.proofs.ticks.list_ticks.Goals as goal

pub loop-operation-preserved : goal.loop-operation-preserved
loop-operation-preserved c =
    c.in_ok-push_ticks.ensures
    ∙ ap (λ (t : List ℕ). t ++ ticks_of (get_or c.args.operations.now c.loop-operation.operation-index no_operation)) c.loop-operation.invariant
    ∙ sym (ticks_more c.args.operations.now c.loop-operation.operation-index no_operation c.loop-operation-test.true)
