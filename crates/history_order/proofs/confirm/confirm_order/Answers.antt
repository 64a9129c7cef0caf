use Rattle.std.specs.Bool.{OnTrue}
use Rattle.std.proofs.lemmas.Bool.{OnTrue_at, OnTrue_from}
use Rattle.std.proofs.lemmas.Result.{IfOk-weaker}
use Rattle.mig_base.specs.Flat.{IsFlatRun}
use Rattle.history.specs.Histories.{entries, Explains}
use Rattle.history_order.proofs.confirm.confirm_order.Goals as goal

pub returns : goal.returns
returns c =
    IfOk-weaker c.is_flat.result (λ flat. OnTrue flat (IsFlatRun (entries c.arrange.new.operations))) (λ flat. OnTrue flat (Explains c.args.operations.now c.arrange.new.operations))
    (λ flat told.
    OnTrue_from flat (Explains c.args.operations.now c.arrange.new.operations)
    (λ e. record {
      all = c.arrange.ensures;
      timed = OnTrue_at c.if-not-agrees.false c.agrees.ensures.timed;
      agrees = OnTrue_at c.if-not-agrees.false c.agrees.ensures.pairs;
      flat = OnTrue_at e told;
    }))
    c.is_flat.ensures
