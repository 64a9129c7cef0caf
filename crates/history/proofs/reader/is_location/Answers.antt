use Rattle.std.proofs.Common.{◌≡◌, true, arith, sym, ◌∙◌}
use Rattle.history.specs.Contradictions.{keeps_whole}
use Rattle.history.proofs.Agreeing.{no_operation, each_more}
use Rattle.history.proofs.reader.is_location.Goals as goal

pub loop-operation-preserved : goal.loop-operation-preserved
loop-operation-preserved c =
    each_more (λ x. keeps_whole c.args.place c.args.size x.action ≡ true) c.args.operations.now c.loop-operation.operation-index no_operation c.loop-operation-test.true c.loop-operation.invariant
    (sym c.keeps_whole.ensures ∙ c.if-not-keeps_whole.false)

pub returns : goal.returns
returns c = record { aligned = sym c.is_aligned.ensures ∙ c.if-not-is_aligned.false; whole = λ k d l. c.loop-operation.invariant k d (omega arith) }
