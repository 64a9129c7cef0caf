use Rattle.std.proofs.Common.{sym, subst}
use Rattle.std.proofs.lemmas.Bool.{OnTrue_at, OnTrue_from}
use Rattle.std.proofs.lemmas.List.{drop_more, drop_all}
use Rattle.history.specs.Contradictions.{IsRound}
use Rattle.history.proofs.cycle.is_round.Goals as goal

pub loop-value-init : goal.loop-value-init
loop-value-init c = λ round. round

pub loop-value-preserved : goal.loop-value-preserved
loop-value-preserved c =
    λ round.
    c.loop-value.invariant
    (subst (IsRound c.args.operations.now c.args.place c.args.first c.loop-value.last) (sym (drop_more c.args.rest.now c.loop-value.value-index (record { source = 0; early = 0; late = 0 }) c.loop-value-test.true))
    (OnTrue_at c.if-not-was_before.false c.was_before.ensures, round))

pub returns : goal.returns
returns c =
    OnTrue_from c.was_before-2.result _
    (λ e.
    c.loop-value.invariant
    (subst (IsRound c.args.operations.now c.args.place c.args.first c.loop-value.last) (sym (drop_all c.loop-value.value-index c.args.rest.now c.loop-value-test.false))
    (OnTrue_at e c.was_before-2.ensures)))
