use Rattle.std.proofs.lemmas.Bool.{OnTrue_at, OnTrue_from}
use Rattle.history.proofs.cycle.left_first.Goals as goal

pub returns : goal.returns
returns c =
    OnTrue_from c.sees-2.result _
    (λ e. record {
      apart = c.if-value-next.false;
      leaves = OnTrue_at c.if-not-changes.false c.changes.ensures;
      early_sees = OnTrue_at c.if-not-sees.false c.sees.ensures;
      late_sees = OnTrue_at e c.sees-2.ensures;
      ended = OnTrue_at c.if-not-is_before.false c.is_before.ensures;
    })
