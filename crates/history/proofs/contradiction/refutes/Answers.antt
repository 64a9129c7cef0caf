use Rattle.std.proofs.lemmas.Bool.{OnTrue_at, OnTrue_from}
use Rattle.history.proofs.Refuted.{refuted}
use Rattle.history.proofs.contradiction.refutes.Goals as goal

pub returns-clause-no_order : goal.returns-clause-no_order
returns-clause-no_order c = OnTrue_from c.is_there.result _ (λ e. refuted c.args.clock c.args.operations.now c.args.contradiction.now (OnTrue_at e c.is_there.ensures))
