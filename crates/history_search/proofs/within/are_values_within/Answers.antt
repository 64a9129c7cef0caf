use Rattle.std.proofs.Common.{arith}
use Rattle.std.proofs.lemmas.Bool.{OnTrue_at}
use Rattle.history_search.specs.Proposals.{IsValueWithin}
use Rattle.history_search.proofs.Each.{each_more}
use Rattle.history_search.proofs.within.are_values_within.Goals as goal

pub loop-value-preserved : goal.loop-value-preserved
loop-value-preserved c =
    each_more (IsValueWithin c.args.count) c.args.values.now c.loop-value.value-index _ c.loop-value-test.true c.loop-value.invariant (OnTrue_at c.if-not-is_value_within.false c.is_value_within.ensures)

pub returns : goal.returns
returns c = λ k d l. c.loop-value.invariant k d (omega arith)
