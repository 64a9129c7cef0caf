use Rattle.std.proofs.Common.{◌≡◌, ◌⊎◌, Some, arith}
use Rattle.std.proofs.lemmas.Bool.{OnTrue_at}
use Rattle.history.specs.Contradictions.{left_at, IsOnly, CannotGive}
use Rattle.history.proofs.Agreeing.{no_operation, each_more}
use Rattle.history.proofs.reader.has_no_other.Goals as goal

pub loop-operation-preserved : goal.loop-operation-preserved
loop-operation-preserved c =
    each_more (λ x. left_at c.args.place x.action ≡ Some (Some c.args.value) → IsOnly c.args.only x ⊎ CannotGive c.args.between c.args.reader x) c.args.operations.now c.loop-operation.operation-index no_operation c.loop-operation-test.true
    c.loop-operation.invariant (OnTrue_at c.if-not-is_no_other.false c.is_no_other.ensures)

pub returns : goal.returns
returns c = λ k d l. c.loop-operation.invariant k d (omega arith)
